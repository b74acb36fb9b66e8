use Rattle.std.proofs.Common.{ap, ◌∙◌, map}
use Rattle.std.specs.List.{list_any}
use Rattle.btr_check_names.specs.declared.dir_entry.DirEntry.{DirEntry}
use Rattle.btr_check_names.specs.Entry.{entry_of}
use Rattle.btr_check_names.specs.Names.{is_entry, under_hash}
use Rattle.btr_check_names.specs.Sets.{entry_cmp}
use Rattle.btr_check_names.proofs.Looking.{set_more, entry-alike}
use Rattle.btr_check_names.proofs.sets.entries_under_hashes.Goals as goal

pub loop-entry-preserved : goal.loop-entry-preserved
loop-entry-preserved c =
    set_more entry_cmp (λ (q : DirEntry). is_entry (entry_of q)) c.loop-entry.set c.insert.new.self c.under_hash.result
    (under_hash (entry_of c.in-Some.entry)) (map under_hash c.next.new.self) (map under_hash c.loop-entry.entry-iterator)
    (λ (q : DirEntry). list_any (is_entry (entry_of q)) (map under_hash c.args.entries.now)) c.in-Ok.ensures.updates.0
    (ap (map under_hash) c.in-Some.ensures.steps)
    (λ q. entry-alike c.under_hash.result q ∙ ap (is_entry (entry_of q)) c.under_hash.ensures) c.loop-entry.invariant
