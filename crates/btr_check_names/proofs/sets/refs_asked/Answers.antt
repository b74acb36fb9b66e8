use Rattle.std.proofs.Common.{ap, ◌∙◌, eq-eqb}
use Rattle.std.specs.List.{list_any}
use Rattle.btr_check_names.specs.declared.link_name.LinkName.{LinkName}
use Rattle.btr_check_names.specs.Entry.{entry_of, ref_of}
use Rattle.btr_check_names.specs.Names.{same_ref, ref_to, asked}
use Rattle.btr_check_names.specs.Sets.{link_cmp}
use Rattle.btr_check_names.proofs.Looking.{set_more, link-alike, asked-first}
use Rattle.btr_check_names.proofs.sets.refs_asked.Goals as goal

pub loop-entry-preserved-in-Ok : goal.loop-entry-preserved-in-Ok
loop-entry-preserved-in-Ok c =
    set_more link_cmp (λ (q : LinkName). same_ref (ref_of q)) c.loop-entry.set c.insert.new.self c.link_to.result (ref_to (entry_of c.in-Some.entry))
    (asked c.next.new.self) (asked c.loop-entry.entry-iterator)
    (λ (q : LinkName). list_any (same_ref (ref_of q)) (asked c.args.entries.now)) c.in-Ok.ensures.updates.0
    (ap asked c.in-Some.ensures.steps ∙ asked-first (entry_of c.in-Some.entry) c.next.new.self
    (eq-eqb c.in-Some.entry.target.kind 1 c.if-entry-eq-INODE_ITEM.true))
    (λ q. link-alike c.link_to.result q ∙ ap (same_ref (ref_of q)) c.link_to.ensures) c.loop-entry.invariant
