-- What a restore finds in images that a scrub left, wherever that was stopped.
use Rattle.std.specs.Prelude.{◌≡◌, ℕ, true, false, List, Result, Ok}
use Rattle.std.specs.List.{Any}
use Rattle.btr_files.specs.declared.plan.RestorePlan.{RestorePlan}
use Rattle.btr_prog.specs.Maps.{Each, IsWhole}
use Rattle.btr_prog.specs.Prog.{needs}
use Rattle.btr_prog.specs.Stages.{Early, Late}
use Rattle.btr_read.specs.Candidates.{Target}
use Rattle.btr_read.specs.Fate.{Fault, fate, is_plain, sought}
use Rattle.btr_restore.specs.Committed.{AreWhole, Commit, committed, want_of}
use Rattle.btr_restore.specs.Journey.{journey}
use Rattle.btr_scrub.specs.Repair.{blocks}
use Rattle.btr_scrub.specs.Right.{CanBeSpared, IsCommitted}
use Rattle.btr_volume.specs.Maps.{VolumeWant, array_layout, volume_map}
use Rattle.btr_volume.specs.Start.{Images, Start, layout_by}
use Rattle.btr_run.specs.Filesystem.{Filesystem, filesystem_of}
use Rattle.btr_run.specs.Repaired.{KeepsBlocks}
use Rattle.btr_run.specs.Scrubbed.{filesystem_as}

-- where a want of a volume is sought: one of the chunk tree by the chunks of the system array, any
-- other by the table that it is looked up in
abbrev pub sought_for : Start → VolumeWant → Result Target Fault
sought_for start (Early want) = sought (array_layout start) want
sought_for start (Late table want) = sought (layout_by start table) want

-- a want is tested by nothing, or is a block that a scrub of these images checks, and that can be spared
abbrev pub IsSparedOf : Images → Filesystem → Start → Commit → VolumeWant → Type 0
IsSparedOf images fs start C want =
    is_plain (want_of want) ≡ false
    → Any (λ t. (sought_for start want ≡ Ok t) × CanBeSpared images (filesystem_as fs) C t) (blocks images (filesystem_as fs))

-- a want that is tested by nothing has a candidate
abbrev pub HasPlain : Images → Start → VolumeWant → Type 0
HasPlain images start want = is_plain (want_of want) ≡ true → IsWhole (volume_map start (fate images) want)

-- A filesystem was to be mended, and each of its checked blocks that can be spared can be had from what is left. Then a
-- restore whose checked needs are such blocks finds a candidate for each: by the headline it is whole.
abbrev pub MendingKeepsRestores : Type 0
MendingKeepsRestores =
    (plan : RestorePlan) (dest : List ℕ) (images left : Images) (fs : Filesystem) (start : Start) (C : Commit)
    → IsCommitted images (filesystem_as fs) C
    → filesystem_of images ≡ Ok fs
    → KeepsBlocks images left
    → Each (IsSparedOf images fs start C) (needs (volume_map start (committed C left)) (journey plan dest start))
    → Each (HasPlain left start) (needs (volume_map start (committed C left)) (journey plan dest start))
    → AreWhole plan dest left start C
