-- The calls of a sink or an output in memory.
use Rattle.std.specs.Prelude.{◌≡◌, ℕ, ◌-◌, ◌^◌, Bool, true, false, ◌&&◌, ◌==◌, nat_lt, List, [], ◌∷◌, ◌++◌, Result, Ok, Err}
use Rattle.std.specs.List.{list_any}
use Rattle.btr_rack.specs.declared.error.SinkError.{SinkError}
use Rattle.btr_rack.specs.declared.error.SinkError.TheVariants.{Failed, Memory}
use Rattle.btr_rack.specs.Rack.{next_count}
use Rattle.btr_rack.specs.Memory.{is_empty}
use Rattle.btr_rack.specs.Out.{CallAccount}

-- how many calls were made, which are to fail by their number, and how many failed
pub record CallCount : Type 0 where
  pub made : ℕ
  pub failing : List ℕ
  pub faults : ℕ

-- the calls of a sink or an output before the first, none of which is to fail
abbrev pub no_calls : CallCount
no_calls = record { made = 0; failing = []; faults = 0 }

-- with one more call that is to fail
abbrev pub failing_call : ℕ → CallCount → CallCount
failing_call n c = record c { failing = c.failing ++ n ∷ [] }

-- nothing is to fail, and the count of faults is below its type's last value
abbrev pub is_sure : CallCount → Bool
is_sure c = is_empty c.failing && nat_lt c.faults (2 ^ 64 - 1)

-- the account of an output or a sink in memory: it may want memory at any call
abbrev pub account_of : CallCount → CallAccount
account_of c = record { faults = c.faults; sure = is_sure c; ample = false }

-- the next call is to fail
abbrev pub strikes : CallCount → Bool
strikes c = list_any (λ n. n == next_count c.made) c.failing

-- the calls after one more
abbrev pub after_call : CallCount → CallCount
after_call c = record c { made = next_count c.made }

-- the calls after one more that failed
abbrev pub after_fault : CallCount → CallCount
after_fault c = record c { made = next_count c.made; faults = next_count c.faults }

-- a call fails exactly where it is made to
abbrev pub CallsOnce : {T : Type 0} → CallCount → CallCount → Result T SinkError → Type 0
CallsOnce old new (Ok _) = (strikes old ≡ false) × (new ≡ after_call old)
CallsOnce old new (Err Failed) = (strikes old ≡ true) × (new ≡ after_fault old)
CallsOnce old new (Err Memory) = (strikes old ≡ false) × (new ≡ after_call old)
