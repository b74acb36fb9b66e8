use Rattle.std.proofs.Common.{◌∙◌, ap, arith, filter, take_all}
use Rattle.btr_base.specs.Key.{last_key}
use Rattle.btr_tour.specs.Tour.{first_key, child_pointers, meets_keys}
use Rattle.btr_tour.proofs.Seeking.{length-block_pointers}
use Rattle.btr_check.proofs.Openings.{child_more}
use Rattle.btr_check.proofs.opening.children_of.Goals as goal

pub loop-at-preserved : goal.loop-at-preserved
loop-at-preserved c =
    child_more c.of-inner.result c.args.up c.loop-at.at c.child_at.result c.loop-at.block_pointers.items c.push_child.new.block_pointers.items (omega arith)
    c.child_at.ensures c.loop-at.invariant c.in_ok-push_child.ensures

pub returns : goal.returns
returns c =
    let inner = c.of-inner.result in
    c.loop-at.invariant
    ∙ ap (filter (meets_keys first_key last_key)) (take_all c.loop-at.at (child_pointers inner c.args.up)
    (omega (arith, length-block_pointers inner c.args.up, c.count-at-end.ensures.all)))
    ∙ ap (λ ps. filter (meets_keys first_key last_key) (child_pointers ps c.args.up)) c.of-inner.ensures
