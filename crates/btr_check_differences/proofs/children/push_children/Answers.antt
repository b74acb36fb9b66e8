use Rattle.std.proofs.Common.{◌++◌, ◌∙◌, ap, sym, arith, append-nil, filter}
use Rattle.btr_base.specs.Key.{last_key}
use Rattle.btr_tour.specs.Tour.{first_key, child_pointers, meets_keys}
use Rattle.btr_check_differences.proofs.Nodes.{child_more, children_all}
use Rattle.btr_check_differences.proofs.children.push_children.Goals as goal

pub loop-at-init : goal.loop-at-init
loop-at-init c = sym (append-nil c.args.children.now.items)

pub loop-at-preserved : goal.loop-at-preserved
loop-at-preserved c =
    child_more c.of-inner.result c.args.up c.loop-at.at c.child_at.result c.args.children.now.items c.loop-at.children.items
    c.push_child.new.children.items (omega arith) c.child_at.ensures c.loop-at.invariant c.in_ok-push_child.ensures

pub returns : goal.returns
returns c =
    let inner = c.of-inner.result in
    let test = meets_keys first_key last_key in
    c.loop-at.invariant
    ∙ ap (λ l. c.args.children.now.items ++ l) (children_all inner c.args.up c.loop-at.at (omega (arith, c.count-at-end.ensures.all)))
    ∙ ap (λ ps. c.args.children.now.items ++ filter test (child_pointers ps c.args.up)) c.of-inner.ensures
