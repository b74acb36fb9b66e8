-- What lies behind a failed opening or read of an image, after calls that didn't fail.
use Rattle.std.proofs.Common.{◌≡◌, ℕ, ◌<◌, List, [], length, map, get_or, String, Some, refl, sym, ap, ◌∙◌, arith}
use Rattle.std.specs.Prelude.{slice_get}
use Rattle.std.specs.String.{string_bytes}
use Rattle.std.specs.declared.alloc.Global.{Global}
use Rattle.std.proofs.lemmas.List.{get_or-map, length-map}
use Rattle.std.proofs.lemmas.Option.{slice_get-get_or}
use Rattle.btr_rack.specs.Rack.{Seen, Account, NoneFailed, OnlyCounts}
use Rattle.btr_run.specs.Causes.{opened_with}

-- before any call none has failed
pub none_failed_yet : (account : Account) → NoneFailed account account
none_failed_yet account = record { faults = omega arith; fresh = refl; missed = refl; last = refl; opening = refl; shut = refl }

-- a rack after calls of which none failed, and then some that only read, is as it is with the account from before
pub opened_again : (old mid new : Seen) → NoneFailed old.account mid.account → OnlyCounts mid new → mid ≡ opened_with old.account new
opened_again old mid new none same =
    ap {A = Account} (λ a. record mid { account = a })
    (λ i. record { faults = none.faults i; fresh = none.fresh i; missed = none.missed i; last = none.last i; opening = none.opening i; shut = none.shut i })
    ∙ sym (ap (λ (s : Seen). record s { account = old.account }) same)

-- the name at an index, as the names' texts have it
pub name_at : (xs : List (String Global)) (i : ℕ) (x : String Global) (w : List ℕ) → i < length xs → w ≡ string_bytes x → x ≡ get_or xs i x
    → get_or (map string_bytes xs) i [] ≡ w
name_at xs i x w lt is at = get_or-map string_bytes xs i x [] lt ∙ sym (ap string_bytes at) ∙ sym is

-- there is a name at the index, with the bytes of its text
pub named_at : (xs : List (String Global)) (i : ℕ) (x : String Global) (w : List ℕ) → i < length xs → w ≡ string_bytes x → x ≡ get_or xs i x
    → slice_get (map string_bytes xs) i ≡ Some w
named_at xs i x w lt is at =
    slice_get-get_or (map string_bytes xs) i [] (omega (arith, length-map xs string_bytes)) ∙ ap (λ b. Some b) (name_at xs i x w lt is at)
