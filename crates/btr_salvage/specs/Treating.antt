-- What the calls that treat an entry answer.
use Rattle.std.specs.Prelude.{◌≡◌, ℕ, List, Option, Some, None, Result, Ok, Err}
use Rattle.btr_items.specs.declared.inode.Inode.{Inode}
use Rattle.btr_rack.specs.Out.{CallAccount}
use Rattle.btr_read.specs.Fate.{Fault}
use Rattle.btr_super.specs.declared.superblock.Super.{Super}
use Rattle.btr_tour.specs.Steps.{reason}
use Rattle.btr_walk.specs.declared.fault.TreeFault.{TreeFault}
use Rattle.btr_volume.specs.declared.root.TreeRoot.{TreeRoot}
use Rattle.btr_volume.specs.declared.stop.Stop.{Stop}
use Rattle.btr_volume.specs.declared.stop.Stop.TheVariants.{Tree}
use Rattle.btr_listing.specs.declared.decision.Decision.{Decision}
use Rattle.btr_listing.specs.declared.decision.Decision.TheVariants as decision
use Rattle.btr_listing.specs.declared.entry.Entry.{Entry}
use Rattle.btr_listing.specs.Looked.{met_by}
use Rattle.btr_restore.specs.Listing.{ended_with}
use Rattle.btr_restore.specs.Running.{WroteLines}
use Rattle.btr_restore.specs.declared.job.Job.{Job}
use Rattle.btr_restore.specs.declared.treated.Treated.{Treated}
use Rattle.btr_restore.specs.declared.treated.Treated.TheVariants.{Over, Within}
use Rattle.btr_salvage.specs.declared.salvaged.Salvaged.{Salvaged}
use Rattle.btr_salvage.specs.Salvaging as salvaging
use Rattle.btr_salvage.specs.Salvaging.{Attempt}

-- what an entry came to, with what was salvaged then
abbrev pub came_to : Salvaged → Treated → salvaging.Treated
came_to so_far Over = salvaging.Over so_far
came_to so_far (Within tree dirid) = salvaging.Within tree dirid so_far

-- an answer of an entry, with what was salvaged then
abbrev pub came : Salvaged → Result Treated Stop → Result salvaging.Treated Stop
came so_far (Ok treated) = Ok (came_to so_far treated)
came so_far (Err stop) = Err stop

-- the inode of what is a file
abbrev pub file_in : Decision → Option Inode
file_in (decision.Skip cause) = None
file_in (decision.File inode) = Some inode
file_in decision.Empty = None
file_in (decision.Folder tree dirid) = None

-- an answer with what was salvaged then
abbrev pub counted : Salvaged → Result (Unit {0}) Stop → Result Salvaged Stop
counted = ended_with

-- the first reading of a file, by the superblock
abbrev pub reading_for : Job → TreeRoot → ℕ → Inode → Super → Attempt (Unit {0})
reading_for job tree ino inode s = salvaging.reading job.plan s job.sums tree ino inode

-- what is done with a file of an entry, by the superblock
abbrev pub file_for : Job → Entry → Inode → Salvaged → Super → Attempt salvaging.Treated
file_for job entry inode so_far s = salvaging.file job.plan s job.sums (met_by entry) so_far inode

-- what is done about an entry, by what it came to and by the superblock
abbrev pub decided_for : Job → Entry → Decision → Salvaged → Super → Attempt salvaging.Treated
decided_for job entry decision so_far s = salvaging.on_decision job.plan s job.sums (met_by entry) so_far decision

-- what is done about an entry, from its first lookup on, by the superblock
abbrev pub treated_for : Job → Entry → Salvaged → Super → Attempt salvaging.Treated
treated_for job entry so_far s = salvaging.treated job.plan s job.sums (met_by entry) so_far

-- an entry of which a block can't be had is named; one that could not be read is the stop, and nothing is put
abbrev pub MissesBy : {O : Type 0} → Option Fault → TreeFault → List ℕ → Salvaged → Salvaged → (O → Option (List ℕ)) → (O → CallAccount) → O → O
    → Result Treated Stop → Type 0
MissesBy None fault path old new text calls out out' result = (result ≡ Err (Tree fault)) × (new ≡ old) × (out' ≡ out)
MissesBy (Some f) fault path old new text calls out out' result = WroteLines (salvaging.broken f path old) text calls out out' (came new result)

-- an entry of which a block can't be had is named; one that could not be read is the stop, by its fault
abbrev pub Misses : {O : Type 0} → TreeFault → List ℕ → Salvaged → Salvaged → (O → Option (List ℕ)) → (O → CallAccount) → O → O
    → Result Treated Stop → Type 0
Misses fault = MissesBy (reason fault) fault
