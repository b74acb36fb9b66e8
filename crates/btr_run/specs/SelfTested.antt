-- The command that tries the others: a volume of so many directories is made in memory, and what a
-- trial of it comes to is shown.
use Rattle.std.specs.Prelude.{◌≡◌, ◌≢◌, ℕ, ◌+◌, ◌*◌, ◌-◌, List, ◌++◌, codes, Option, Some, None}
use Rattle.std.specs.Fmt.{decimal}
use Rattle.btr_trial.specs.Shown.{differing, trial_text}
use Rattle.btr_trial.specs.Trial.{trial_of}
use Rattle.btr_volume.specs.Start.{Images}
use Rattle.btr_run.specs.Checked.{found}
use Rattle.btr_run.specs.Outcomes.{Outcome, Shown, showing}
use Rattle.btr_run.specs.Words.{Words, IsSentence}
use Rattle.btr_run.specs.declared.plan.Command.{Command}
use Rattle.btr_run.specs.declared.plan.Command.TheVariants.{SelfTest}
use Rattle.btr_run.specs.declared.plan.Plan.{Plan}

-- how many bytes the files of so many made directories have: file j of directory i has 4096 j + i
abbrev pub made_bytes : ℕ → ℕ
made_bytes number = number * (24576 + 2 * (number - 1))

-- the two lines before those of the trial
abbrev pub volume_text : ℕ → List ℕ
volume_text number =
    codes "self-test " ++ decimal number ++ codes "\ndirectories " ++ decimal number
    ++ codes " files " ++ decimal (4 * number) ++ codes " bytes "
    ++ decimal (made_bytes number) ++ codes "\n"

-- what a self-test shows by its volume: these lines, those of the trial, and how many of those
-- differ from the lines of a sound volume
abbrev pub tried_shown : ℕ → Images → Shown
tried_shown number volume =
    let tried = trial_of volume number in
    record { answer = found (differing tried); text = volume_text number ++ trial_text tried }

-- what a self-test may come to, whatever its volume holds: the trial of some volume is shown
abbrev pub IsTrialOutcome : ℕ → Outcome → Type 0
IsTrialOutcome number outcome =
    (volume : Images) × (outcome ≡ showing (tried_shown number volume))

-- the trial of a volume is shown, or of some where none is told
abbrev pub IsTrialOf : Option Images → ℕ → Outcome → Type 0
IsTrialOf None number outcome = IsTrialOutcome number outcome
IsTrialOf (Some volume) number outcome = outcome ≡ showing (tried_shown number volume)

-- the words ask for a self-test of so many directories
pub record AsksToTry (words : Words) (number : ℕ) : Type 0 where
  pub plan : Plan
  pub sentence : IsSentence plan words
  pub command : plan.command ≡ SelfTest number

-- the command takes images that are opened: it is no self-test
abbrev pub TakesImages : Command → Type 0
TakesImages command = (number : ℕ) → command ≢ SelfTest number
