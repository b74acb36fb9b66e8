use Rattle.std.specs.List.{list_any}
use Rattle.btr_check_names.specs.declared.link_name.LinkName.{LinkName}
use Rattle.btr_check_names.specs.Entry.{ref_of}
use Rattle.btr_check_names.specs.Names.{same_ref}
use Rattle.btr_check_names.specs.Sets.{link_cmp}
use Rattle.btr_check_names.proofs.Looking.{set_more, link-alike}
use Rattle.btr_check_names.proofs.sets.refs_of.Goals as goal

pub loop-link-preserved : goal.loop-link-preserved
loop-link-preserved c =
    set_more link_cmp (λ (q : LinkName). same_ref (ref_of q)) c.loop-link.set c.insert.new.self c.in-Some.link (ref_of c.in-Some.link) c.next.new.self
    c.loop-link.link-iterator
    (λ (q : LinkName). list_any (same_ref (ref_of q)) c.args.refs.now) c.in-Ok.ensures.updates.0 c.in-Some.ensures.steps (link-alike c.in-Some.link)
    c.loop-link.invariant
