-- What restore does where every candidate that passes its test is the committed block.
use Rattle.std.specs.Prelude.{◌≡◌, ℕ, List, [], ◌∷◌, ◌++◌, Option, Some, None, Result, Ok, Err}
use Rattle.btr_chunk.specs.declared.chunk.Chunk.{Chunk}
use Rattle.btr_files.specs.declared.plan.RestorePlan.{RestorePlan}
use Rattle.btr_prog.specs.Prog.{Mark, Wants, exec, steps_of, wants_of}
use Rattle.btr_prog.specs.Maps.{Each, IsWhole}
use Rattle.btr_read.specs.Fate.{Lost, fate}
use Rattle.btr_read.specs.Want.{addr_of}
use Rattle.btr_volume.specs.declared.fault.OpenFault.{OpenFault}
use Rattle.btr_volume.specs.declared.fault.OpenFault.TheVariants.{Diverged}
use Rattle.btr_volume.specs.Maps.{VolumeWant, diverged_at, volume_map}
use Rattle.btr_volume.specs.Start.{Images, Start, start_of, layout_by}
use Rattle.btr_restore.specs.Committed.{Commit, IsHonest, IsClosed, AreWhole, committed, want_of}
use Rattle.btr_restore.specs.Journey.{journey}
use Rattle.btr_restore.specs.Outcome.{RestoreOutcome, outcome_by, outcome}
use Rattle.btr_listing.specs.Step.{Step}

-- an outcome, where the candidates of the root tree's root block agree: else the images are refused
abbrev pub unless_diverged : Option ℕ → RestoreOutcome → RestoreOutcome
unless_diverged None found = found
unless_diverged (Some slot) found = outcome_by [] (Ok (Err (Diverged slot)))

-- what comes of restore by what the images start as
abbrev pub from_start : RestorePlan → List ℕ → Images → Result Start OpenFault → RestoreOutcome
from_start plan dest images (Err refusal) = outcome_by [] (Ok (Err refusal))
from_start plan dest images (Ok start) =
    unless_diverged (diverged_at images start) (outcome (exec (volume_map start (fate images)) (journey plan dest start)))

-- what comes of restore over the bytes of the images
abbrev pub restore_outcome : RestorePlan → List ℕ → Images → RestoreOutcome
restore_outcome plan dest images = from_start plan dest images (start_of images)

module _ (plan : RestorePlan) (dest : List ℕ) (images : Images) (start : Start) (C : Commit) where
  -- the outcome is that of exactly the steps before the first need without a candidate that passes, and names it
  pub record StopsShort (found : RestoreOutcome) : Type 0 where
    pub want : VolumeWant
    pub before : List (Mark VolumeWant Step)
    pub behind : List (Mark VolumeWant Step)
    pub place : (exec (volume_map start (committed C images)) (journey plan dest start)).marks ≡ before ++ (Wants want ∷ behind)
    pub whole : Each (λ w. IsWhole (volume_map start (fate images) w)) (wants_of before)
    pub lost : volume_map start (fate images) want ≡ Err (Lost (addr_of (want_of want)))
    pub is : found ≡ outcome_by (steps_of before) (Err (Lost (addr_of (want_of want))))

  -- the outcome is that of the committed journey where each need has a candidate that passes;
  -- else it stops before the first without one
  pub record IsRestored (found : RestoreOutcome) : Type 0 where
    pub whole : AreWhole plan dest images start C → found ≡ outcome (exec (volume_map start (committed C images)) (journey plan dest start))
    pub short : (AreWhole plan dest images start C → ⊥) → StopsShort found

-- the headline of restore: over honest images whose committed blocks hold all that is needed
abbrev pub Headline : Type 0
Headline =
    (plan : RestorePlan) (dest : List ℕ) (images : Images) (start : Start) (C : Commit) (table : List Chunk)
    → start_of images ≡ Ok start
    → IsHonest C images (layout_by start table)
    → IsClosed plan dest images start C table
    → IsRestored plan dest images start C (restore_outcome plan dest images)
