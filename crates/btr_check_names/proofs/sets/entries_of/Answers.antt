use Rattle.std.specs.List.{list_any}
use Rattle.btr_check_names.specs.declared.dir_entry.DirEntry.{DirEntry}
use Rattle.btr_check_names.specs.Entry.{entry_of}
use Rattle.btr_check_names.specs.Names.{is_entry}
use Rattle.btr_check_names.specs.Sets.{entry_cmp}
use Rattle.btr_check_names.proofs.Looking.{set_more, entry-alike}
use Rattle.btr_check_names.proofs.sets.entries_of.Goals as goal

pub loop-entry-preserved : goal.loop-entry-preserved
loop-entry-preserved c =
    set_more entry_cmp (λ (q : DirEntry). is_entry (entry_of q)) c.loop-entry.set c.insert.new.self c.in-Some.entry (entry_of c.in-Some.entry)
    c.next.new.self c.loop-entry.entry-iterator
    (λ (q : DirEntry). list_any (is_entry (entry_of q)) c.args.entries.now) c.in-Ok.ensures.updates.0 c.in-Some.ensures.steps
    (entry-alike c.in-Some.entry) c.loop-entry.invariant
