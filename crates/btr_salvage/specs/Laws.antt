-- What salvage comes to.
use Rattle.std.specs.Prelude.{◌≡◌, ℕ, false, List, Option, IsOk, Ok}
use Rattle.btr_prog.specs.Prog.{Run, exec, steps_of}
use Rattle.btr_prog.specs.Trying.{tried}
use Rattle.btr_items.specs.declared.inode.Inode.{Inode}
use Rattle.btr_read.specs.Fate.{Fault, fate}
use Rattle.btr_read.specs.Layout.{Layout}
use Rattle.btr_read.specs.declared.want.Want.{Want}
use Rattle.btr_super.specs.declared.superblock.Super.{Super}
use Rattle.btr_walk.specs.Reading.{Map}
use Rattle.btr_volume.specs.Start.{Images}
use Rattle.btr_volume.specs.declared.root.TreeRoot.{TreeRoot}
use Rattle.btr_files.specs.declared.counts.Counts.{Counts}
use Rattle.btr_files.specs.declared.plan.RestorePlan.{RestorePlan}
use Rattle.btr_listing.specs.Step.{Step}
use Rattle.btr_restore.specs.Committed.{Commit, IsHonest, committed}
use Rattle.btr_restore.specs.Journey.{listing, pieces}
use Rattle.btr_salvage.specs.declared.salvaged.Salvaged.{Salvaged}
use Rattle.btr_prog.specs.Attempts.{TriesTo}
use Rattle.btr_salvage.specs.Left.{IsLeft}
use Rattle.btr_salvage.specs.Salvaging.{reading, salvage_run, salvaging}

-- where each want comes to what one map says, salvage has one run
abbrev pub OneRun : Type 0
OneRun =
    (plan : RestorePlan) (dest : List ℕ) (s : Super) (Bs : ℕ → Map) (B : Map) (r : Run Want Fault Step Salvaged)
    → ((n : ℕ) (want : Want) → Bs n want ≡ B want) → TriesTo Bs (salvaging plan dest s) r → r ≡ salvage_run B plan dest s

-- by one block map a file whose bytes could all be had when they were read first is written to
-- its end: the second reading comes to no fault
abbrev pub ReadTwice : Type 0
ReadTwice =
    (plan : RestorePlan) (s : Super) (sums : Option TreeRoot) (B : Map) (tree : TreeRoot) (ino : ℕ) (inode : Inode)
    → (tried B (reading plan s sums tree ino inode)).ending ≡ Ok (Ok tt) → IsOk (exec B (pieces plan s sums tree ino inode)).ending

-- Over honest images, where restore would come to its end in the committed blocks and salvage came to its end: of each
-- entry of the committed listing all is left, or it is named with a block that is lost; and nothing else was done.
abbrev pub HonestSalvage : Type 0
HonestSalvage =
    (plan : RestorePlan) (dest : List ℕ) (s : Super) (images : Images) (layout : Layout) (C : Commit) (counts : Counts) (salvaged : Salvaged)
    → plan.dry ≡ false
    → IsHonest C images layout
    → (exec (committed C images layout) (listing plan dest s)).ending ≡ Ok counts
    → (salvage_run (fate images layout) plan dest s).ending ≡ Ok salvaged
    → IsLeft plan dest s (fate images layout) (committed C images layout) counts salvaged
    (steps_of (exec (committed C images layout) (listing plan dest s)).marks)
    (steps_of (salvage_run (fate images layout) plan dest s).marks)
