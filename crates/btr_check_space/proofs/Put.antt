-- Findings that are added one after another, and sets that grow.
use Rattle.std.proofs.Common.{◌≡◌, ℕ, ◌+◌, ◌<◌, Bool, true, false, ◌||◌, cond, List, length, take, get_or, Option, filter_map, option_to_list, refl, sym, ap}
use Rattle.std.proofs.Common.{◌∙◌}
use Rattle.std.proofs.lemmas.List.Folds.{list_any_more}
use Rattle.std.specs.BTreeMap.{is_at}
use Rattle.std.specs.BTreeSet.{BTreeSet, contains}
use Rattle.std.specs.Ordering.{is_eq}
use Rattle.std.specs.declared.cmp.Ordering.{Ordering}
use Rattle.btr_findings.proofs.Adding.{adds_as, adds_more}
use Rattle.btr_findings.specs.declared.finding.Finding.{Finding}
use Rattle.btr_findings.specs.Findings.{Adds, unless, FoundSet}
use Rattle.btr_check_space.specs.Orders.{KeysOf}

-- the same test and the same finding
pub unless_same : (a b : Bool) (x y : Finding) → a ≡ b → x ≡ y → unless a x ≡ unless b y
unless_same a b x y tests rows = ap (λ k. unless k x) tests ∙ ap (unless b) rows

-- the rule of one more thing
pub adds_row : {X : Type 0} (rule : X → Option Finding) (xs : List X) (i : ℕ) (d : X) (old now new : FoundSet) (row : Option Finding) → i < length xs
    → row ≡ rule (get_or xs i d)
    → Adds (filter_map rule (take i xs)) old now → Adds (option_to_list row) now new → Adds (filter_map rule (take (i + 1) xs)) old new
adds_row rule xs i d old now new row below is before here =
    adds_more rule xs i d old now new below before (adds_as (option_to_list row) (option_to_list (rule (get_or xs i d))) now new (ap option_to_list is) here)

or_turns : (a b : Bool) → cond a true b ≡ (b || a)
or_turns true true = refl
or_turns true false = refl
or_turns false true = refl
or_turns false false = refl

-- the key of one more thing
pub keys_more : {X K : Type 0} (R : K → K → Ordering) (key : X → K) (xs : List X) (i : ℕ) (d : X) (old new : BTreeSet K) → i < length xs
    → ((one : K) → contains R new one ≡ cond (is_at (R (key (get_or xs i d))) one) true (contains R old one))
    → KeysOf R key (take i xs) old → KeysOf R key (take (i + 1) xs) new
keys_more R key xs i d old new below more before one =
    more one
    ∙ or_turns (is_eq (R (key (get_or xs i d)) one)) (contains R old one)
    ∙ ap (λ b. b || is_eq (R (key (get_or xs i d)) one)) (before one)
    ∙ sym (list_any_more (λ x. is_eq (R (key x) one)) xs i d below)
