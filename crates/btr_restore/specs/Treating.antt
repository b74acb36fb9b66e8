-- What the calls that treat an entry answer.
use Rattle.std.specs.Prelude.{ℕ, List, Result, Ok, Err}
use Rattle.btr_items.specs.declared.inode.Inode.{Inode}
use Rattle.btr_super.specs.declared.superblock.Super.{Super}
use Rattle.btr_volume.specs.Lookup.{Program}
use Rattle.btr_volume.specs.declared.stop.Stop.{Stop}
use Rattle.btr_files.specs.declared.counts.Counts.{Counts}
use Rattle.btr_listing.specs.declared.decision.Decision.{Decision}
use Rattle.btr_listing.specs.declared.entry.Entry.{Entry}
use Rattle.btr_listing.specs.Looked.{met_by}
use Rattle.btr_listing.specs.Step.{Step}
use Rattle.btr_restore.specs.declared.job.Job.{Job}
use Rattle.btr_restore.specs.declared.treated.Treated.{Treated}
use Rattle.btr_restore.specs.declared.treated.Treated.TheVariants.{Over, Within}
use Rattle.btr_restore.specs.Journey as journey

-- what an entry came to, with the counts then
abbrev pub came_to : Counts → Treated → journey.Treated
came_to counts Over = journey.Over counts
came_to counts (Within tree dirid) = journey.Within tree dirid counts

-- an answer of an entry, with the counts then
abbrev pub came : Counts → Result Treated Stop → Result journey.Treated Stop
came counts (Ok treated) = Ok (came_to counts treated)
came counts (Err stop) = Err stop

-- an entry was treated wholly, if it was
abbrev pub IsOver : Result Treated Stop → Type 0
IsOver (Ok Over) = Unit {0}
IsOver (Ok (Within tree dirid)) = ⊥
IsOver (Err stop) = Unit {0}

-- a file that is written, by its inode and the superblock
abbrev pub written_for : Job → Entry → List ℕ → Inode → Counts → Super → Program Step journey.Treated
written_for job entry name inode counts s =
    journey.written job.plan s job.sums entry.tree entry.row.location.objectid name entry.path.now inode counts

-- what is done about an entry, by what it came to and by the superblock
abbrev pub done_for : Job → Entry → Decision → Counts → Super → Program Step journey.Treated
done_for job entry decision counts s = journey.done_about job.plan s job.sums (met_by entry) counts decision

-- what is done about an entry, from its first lookup on, by the superblock
abbrev pub treated_for : Job → Entry → Counts → Super → Program Step journey.Treated
treated_for job entry counts s = journey.treated job.plan s job.sums (met_by entry) counts
