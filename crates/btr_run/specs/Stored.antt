-- What waits in the sink behind an answer.
use Rattle.std.specs.Prelude.{◌≡◌, ◌≢◌, ◌⊎◌, ℕ, Bool, false}
use Rattle.btr_rack.specs.Out.{CallAccount}
use Rattle.btr_run.specs.Outcomes.{CallFailed}
use Rattle.btr_run.specs.declared.answer.Answer.{Answer}
use Rattle.btr_run.specs.declared.answer.Answer.TheVariants.{Done, SinkFault, OutFault, Memory}

-- behind an answer that is neither that all was done nor a fault of the sink nothing waits
abbrev pub IsStored : Bool → Answer → Type 0
IsStored waits answer = ((skipped : ℕ) → answer ≢ Done skipped) → answer ≢ SinkFault → waits ≡ false

-- the same, but where a call of the sink failed, and the output refused the line of that
abbrev pub IsStoredOrTold : Bool → CallAccount → CallAccount → Answer → Type 0
IsStoredOrTold waits before after answer =
    ((skipped : ℕ) → answer ≢ Done skipped) → answer ≢ SinkFault
    → (waits ≡ false) ⊎ (((answer ≡ OutFault) ⊎ (answer ≡ Memory)) × CallFailed before after)
