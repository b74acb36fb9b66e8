-- What the calls of an output do.
use Rattle.std.specs.Prelude.{◌≡◌, ℕ, ◌-◌, ◌^◌, ◌<◌, Bool, true, false, List, ◌++◌, take, Option, Some, None, Result, Ok, Err}
use Rattle.btr_rack.specs.declared.error.SinkError.{SinkError}
use Rattle.btr_rack.specs.declared.error.SinkError.TheVariants.{Failed, Memory}
use Rattle.btr_rack.specs.Rack.{Rose}

-- the bytes are added to the text, where it is told
abbrev pub Adds : Option (List ℕ) → Option (List ℕ) → List ℕ → Type 0
Adds None new bytes = new ≡ None
Adds (Some old) new bytes = new ≡ Some (old ++ bytes)

-- all the bytes are added at Ok, and a first part of them otherwise
abbrev pub Puts : {T : Type 0} → Option (List ℕ) → Option (List ℕ) → List ℕ → Result T SinkError → Type 0
Puts old new bytes (Ok _) = Adds old new bytes
Puts old new bytes (Err _) = (n : ℕ) × Adds old new (take n bytes)

-- The account of an output or a sink: how many calls failed, whether it is sure, so that no call is to fail, and
-- whether it is ample, so that no call wants memory.
pub record CallAccount : Type 0 where
  pub faults : ℕ
  pub sure : Bool
  pub ample : Bool

-- what a call does to the account: the count of faults rises where the call answers Failed, and only there
abbrev pub Counts : {T : Type 0} → CallAccount → CallAccount → Result T SinkError → Type 0
Counts old new (Ok _) = new ≡ old
Counts old new (Err Failed) = (old.sure ≡ false) × Rose old.faults new.faults × (new ≡ record old { faults = new.faults })
Counts old new (Err Memory) = (old.ample ≡ false) × (new ≡ old)

-- the count of faults of a sure output or sink is below its type's last value
abbrev pub HasCountLeft : CallAccount → Type 0
HasCountLeft account = account.sure ≡ true → account.faults < 2 ^ 64 - 1
