-- The command `super`.
use Rattle.std.specs.Prelude.{◌≡◌, ℕ, List, Option, Some, Result, Ok, Err}
use Rattle.std.specs.Option.{option_map}
use Rattle.btr_super.specs.Newest.{newest, newest_index}
use Rattle.btr_super.specs.declared.superblock.Super.{Super}
use Rattle.btr_volume.specs.Start.{supers_from}
use Rattle.btr_volume.specs.declared.fault.OpenFault.{OpenFault}
use Rattle.btr_run.specs.Faults.{open_answer}
use Rattle.btr_run.specs.Outcomes.{Outcome, Shown, refused, showing}
use Rattle.btr_run.specs.Text.{super_text}
use Rattle.btr_run.specs.declared.answer.Answer.TheVariants.{Done}

-- the text of a superblock is put
abbrev pub shown : ℕ → Super → Shown
shown slot s = record { answer = Done 0; text = super_text slot s }

-- the newest of the superblocks is shown, with the number of its slot
abbrev pub newest_shown : Result (List Super) OpenFault → Option Outcome
newest_shown (Ok supers) = option_map (λ s. showing (shown (newest_index supers) s)) (newest supers)
newest_shown (Err refusal) = Some (refused (open_answer refusal))

-- what `super` over the bytes of its images comes to
abbrev pub super_outcome : List (List ℕ) → Option Outcome
super_outcome images = newest_shown (supers_from 0 images)

-- some superblock is shown
abbrev pub IsSuperOutcome : Outcome → Type 0
IsSuperOutcome outcome = (slot : ℕ) × (s : Super) × (outcome ≡ showing (shown slot s))
