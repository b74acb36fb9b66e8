-- What `restore -i` and `send` come to, beside what was committed.
use Rattle.std.specs.Prelude.{◌≡◌, ℕ, false, List, Ok}
use Rattle.btr_files.specs.declared.counts.Counts.{Counts}
use Rattle.btr_files.specs.declared.plan.RestorePlan.{RestorePlan}
use Rattle.btr_prog.specs.Prog.{exec, steps_of}
use Rattle.btr_read.specs.Fate.{fate}
use Rattle.btr_restore.specs.Committed.{Commit, IsHonest, committed}
use Rattle.btr_restore.specs.Journey.{listing}
use Rattle.btr_restore.specs.Outcome.{tree_after}
use Rattle.btr_salvage.specs.Left.{IsLeft}
use Rattle.btr_salvage.specs.declared.salvaged.Salvaged.{Salvaged}
use Rattle.btr_send.specs.Names.{IsStreamName}
use Rattle.btr_send.specs.Restored.{IsStreamOf, members_of_rows, restores}
use Rattle.btr_send.specs.Sectors.{AreBytes}
use Rattle.btr_send.specs.declared.plan.SendPlan.{SendPlan}
use Rattle.btr_volume.specs.Start.{Images}
use Rattle.btr_run.specs.Filesystem.{Filesystem, filesystem_of}
use Rattle.btr_run.specs.Queries.Restored.{skipped_in}
use Rattle.btr_run.specs.Rows.{row_outcome}
use Rattle.btr_run.specs.Queries.Salvaged.{missed_in, salvage_row}
use Rattle.btr_run.specs.Queries.Sent.{send_row}
use Rattle.btr_run.specs.declared.answer.Answer.TheVariants.{Done}

-- what `restore -i` left of the committed listing of a filesystem, where so much was missed
pub record LeavesCommitted
    (plan : RestorePlan) (dest : List ℕ) (images : Images) (fs : Filesystem) (C : Commit) (counts : Counts) (missed : ℕ) : Type 0 where
  pub salvaged : Salvaged
  pub missing : missed ≡ missed_in salvaged
  pub left : IsLeft plan dest fs.sup (fate images fs.layout) (committed C images fs.layout) counts salvaged
      (steps_of (exec (committed C images fs.layout) (listing plan dest fs.sup)).marks) (row_outcome (salvage_row plan dest) images).steps

-- Over honest images, where `restore` would come to its end in the committed blocks: what `restore -i` does is the
-- committed listing, but for entries that are named with a block that is lost.
abbrev pub SalvageIsCommitted : Type 0
SalvageIsCommitted =
    (plan : RestorePlan) (dest : List ℕ) (images : Images) (fs : Filesystem) (C : Commit) (counts : Counts) (missed : ℕ)
    → plan.dry ≡ false
    → filesystem_of images ≡ Ok fs
    → IsHonest C images fs.layout
    → (exec (committed C images fs.layout) (listing plan dest fs.sup)).ending ≡ Ok counts
    → (row_outcome (salvage_row plan dest) images).answer ≡ Done missed
    → LeavesCommitted plan dest images fs C counts missed

-- what `send` leaves, where so much was left out: one stream, whose replay is what `restore`
-- makes of the same images by the rules of `send`
pub record LeavesStream (plan : SendPlan) (dest name : List ℕ) (images : Images) (fs : Filesystem) (skipped : ℕ) : Type 0 where
  pub counts : Counts
  pub missing : skipped ≡ skipped_in counts
  pub restored : (exec (fate images fs.layout) (restores fs.sup plan.root dest name)).ending ≡ Ok counts
  pub stream : IsStreamOf dest name (tree_after (row_outcome (send_row plan dest name) images).steps).rows
      (members_of_rows (tree_after (steps_of (exec (fate images fs.layout) (restores fs.sup plan.root dest name)).marks)).rows)

-- Where a send of images of bytes comes to its end, that is what it leaves.
abbrev pub SendIsStream : Type 0
SendIsStream =
    (plan : SendPlan) (dest name : List ℕ) (images : Images) (fs : Filesystem) (skipped : ℕ)
    → filesystem_of images ≡ Ok fs
    → AreBytes images
    → IsStreamName name
    → (row_outcome (send_row plan dest name) images).answer ≡ Done skipped
    → LeavesStream plan dest name images fs skipped
