-- The four lines of a trial, and how many of them differ from those of a sound volume.
use Rattle.std.specs.Prelude.{◌≡◌, ℕ, ◌+◌, ◌==◌, Bool, true, false, if◌then◌else◌, List, ◌++◌, codes, Option, Some, None, Result, Ok, Err}
use Rattle.std.specs.Fmt.{decimal}
use Rattle.btr_rack.specs.Out.{CallAccount, Counts, Puts}
use Rattle.btr_rack.specs.declared.error.SinkError.TheVariants.{Failed, Memory as memory_fault}
use Rattle.btr_volume.specs.declared.stop.Stop.{Stop}
use Rattle.btr_volume.specs.declared.stop.Stop.TheVariants.{Out, Memory}
use Rattle.btr_text.specs.Pieces.{piece_text}
use Rattle.btr_trial.specs.declared.lines.Said.{Said}
use Rattle.btr_trial.specs.declared.tried.Tried.{Tried}

-- what is said of a check, behind `check: `
abbrev pub findings_text : Option ℕ → List ℕ
findings_text None = codes "failed\n"
findings_text (Some count) = if count == 0 then codes "no findings\n" else decimal count ++ codes " findings\n"

-- what is said of a restore, behind `first restore: ` and `second restore: `
abbrev pub restore_text : Option Bool → List ℕ
restore_text None = codes "failed\n"
restore_text (Some true) = codes "same\n"
restore_text (Some false) = codes "differs\n"

-- what is said of a scrub, behind `scrub: `
abbrev pub lost_text : Option ℕ → List ℕ
lost_text None = codes "failed\n"
lost_text (Some count) = codes "lost " ++ decimal count ++ codes "\n"

-- what a piece with words before and behind it says
abbrev pub said_text : Said → List ℕ
said_text said = said.before.now ++ piece_text said.word ++ said.behind.now

-- the four lines
abbrev pub trial_text : Tried → List ℕ
trial_text t =
    codes "check: " ++ findings_text t.findings ++ codes "first restore: " ++ restore_text t.first ++ codes "scrub: " ++ lost_text t.lost
    ++ codes "second restore: " ++ restore_text t.second

-- 1 where a count isn't 0 or was refused, and else 0
abbrev pub if_count : Option ℕ → ℕ
if_count None = 1
if_count (Some count) = if count == 0 then 0 else 1

-- 1 where a comparison doesn't hold or was refused, and else 0
abbrev pub if_other : Option Bool → ℕ
if_other None = 1
if_other (Some true) = 0
if_other (Some false) = 1

-- how many of the four lines differ
abbrev pub differing : Tried → ℕ
differing t = if_count t.findings + if_other t.first + if_count t.lost + if_other t.second

-- What a trial did with its output, and what it answers: all four lines were put, and so many of them
-- differ; or the output failed, and a first part of them stands; or memory was wanted, and a first
-- part of them stands. Nothing else is answered.
abbrev pub EndsTrial : Tried → Option (List ℕ) → Option (List ℕ) → CallAccount → CallAccount → Result ℕ Stop → Type 0
EndsTrial t old new before after (Ok count) = (count ≡ differing t) × Puts {T = Unit {0}} old new (trial_text t) (Ok tt) × (after ≡ before)
EndsTrial t old new before after (Err Out) =
    Puts {T = Unit {0}} old new (trial_text t) (Err Failed) × Counts {T = Unit {0}} before after (Err Failed)
EndsTrial t old new before after (Err Memory) = Puts {T = Unit {0}} old new (trial_text t) (Err memory_fault) × (after ≡ before)
EndsTrial t old new before after (Err stop) = ⊥
