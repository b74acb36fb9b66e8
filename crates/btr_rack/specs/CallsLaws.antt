-- What holds of the account of every output and every sink.
use Rattle.std.specs.Prelude.{◌≡◌, ℕ, ◌-◌, ◌^◌, ◌<◌, nat_lt, Bool, true, false, ◌&&◌}
use Rattle.std.proofs.lemmas.Bool.{ltb-true}
use Rattle.btr_rack.specs.Memory.{is_empty}
use Rattle.btr_rack.specs.Calls.{CallCount, account_of}
use Rattle.btr_rack.specs.Out.{HasCountLeft}

-- the count of failed calls of a sure account is below its type's last value
pub count_left : (quiet? : Bool) (faults : ℕ) → (quiet? && nat_lt faults (2 ^ 64 - 1)) ≡ true → faults < 2 ^ 64 - 1
count_left true faults e = ltb-true faults (2 ^ 64 - 1) e
count_left false faults e = cc

-- the account of calls in memory has a count left where it is sure
pub calls_count_left : (c : CallCount) → HasCountLeft (account_of c)
calls_count_left c = count_left (is_empty c.failing) c.faults

-- one that is never sure
pub unsure_count_left : (faults : ℕ) (ample : Bool) → HasCountLeft (record { faults = faults; sure = false; ample = ample })
unsure_count_left faults ample e = cc
