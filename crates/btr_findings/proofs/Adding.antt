-- Findings that are added to a set, some after others.
use Rattle.std.proofs.Common.{◌≡◌, ℕ, ◌+◌, ◌<◌, Bool, true, false, ◌||◌, List, [], ◌∷◌, ◌++◌, length, take, get_or, filter_map, flat_map, Option, Some, None}
use Rattle.std.proofs.Common.{Result, Ok, Err, OnOk, refl, sym, ap, ◌∙◌}
use Rattle.std.proofs.lemmas.Grind.{flat_map-append}
use Rattle.std.proofs.lemmas.List.{take_more, append-nil}
use Rattle.std.proofs.lemmas.List.Elements.{filter_map-append}
use Rattle.std.proofs.lemmas.List.Folds.{list_any-append}
use Rattle.std.specs.List.{cons_option}
use Rattle.std.specs.Option.{option_to_list}
use Rattle.btr_findings.specs.declared.finding.Finding.{Finding}
use Rattle.btr_findings.specs.Findings.{Adds, HasJust, has, is_one_of, is_same, FoundSet}

-- what was added to nothing is all there is
pub or_none : (a : Bool) → (a || false) ≡ a
or_none true = refl
or_none false = refl

or_third : (a b c : Bool) → (b || (a || c)) ≡ ((a || b) || c)
or_third true true c = refl
or_third true false c = refl
or_third false true c = refl
or_third false false c = refl

-- what follows where a call answers
pub on_ok : {A E : Type 0} (r : Result A E) (P Q : Type 0) → (P → Q) → OnOk r P → OnOk r Q
on_ok (Ok a) P Q f h = f h
on_ok (Err e) P Q f h = tt

-- none are added
pub adds_none : (set : FoundSet) → Adds [] set set
adds_none set one = refl

-- one finding is added
pub adds_one : (finding : Finding) (old new : FoundSet) → ((one : Finding) → has new one ≡ (is_same one finding || has old one)) → Adds (finding ∷ []) old new
adds_one finding old new h one = h one ∙ ap (λ b. b || has old one) (sym (or_none (is_same one finding)))

-- some, and then some more
pub adds_then : (xs ys : List Finding) (a b c : FoundSet) → Adds xs a b → Adds ys b c → Adds (xs ++ ys) a c
adds_then xs ys a b c first second one =
    second one ∙ ap (λ r. is_one_of ys one || r) (first one) ∙ or_third (is_one_of xs one) (is_one_of ys one) (has a one)
    ∙ ap (λ r. r || has a one) (sym (list_any-append (is_same one) xs ys))

-- the same findings, said otherwise
pub adds_as : (xs ys : List Finding) (a b : FoundSet) → xs ≡ ys → Adds xs a b → Adds ys a b
adds_as xs ys a b e h one = h one ∙ ap (λ (l : List Finding). is_one_of l one || has a one) e

-- what was added to an empty set is what it has
pub adds_just : (xs : List Finding) (a b : FoundSet) → ((one : Finding) → has a one ≡ false) → Adds xs a b → HasJust xs b
adds_just xs a b empty h one = h one ∙ ap (λ r. is_one_of xs one || r) (empty one) ∙ or_none (is_one_of xs one)

module _ {X : Type 0} (rule : X → Option Finding) (xs : List X) where
  -- what a rule found of one thing, as a list
  one_rule : (o : Option Finding) → cons_option o [] ≡ option_to_list o
  one_rule None = refl
  one_rule (Some finding) = refl

  -- a rule's findings on some things, one thing more
  pub adds_more : (i : ℕ) (d : X) (a b c : FoundSet) → i < length xs → Adds (filter_map rule (take i xs)) a b
      → Adds (option_to_list (rule (get_or xs i d))) b c → Adds (filter_map rule (take (i + 1) xs)) a c
  adds_more i d a b c below before here =
      adds_as (filter_map rule (take i xs) ++ option_to_list (rule (get_or xs i d))) (filter_map rule (take (i + 1) xs)) a c
      (sym (ap (filter_map rule) (take_more xs i d below) ∙ filter_map-append rule (take i xs) (get_or xs i d ∷ [])
      ∙ ap (λ l. filter_map rule (take i xs) ++ l) (one_rule (rule (get_or xs i d)))))
      (adds_then (filter_map rule (take i xs)) (option_to_list (rule (get_or xs i d))) a b c before here)

module _ {X : Type 0} (rule : X → List Finding) (xs : List X) where
  -- the same where a thing may have several
  pub adds_more_of : (i : ℕ) (d : X) (a b c : FoundSet) → i < length xs → Adds (flat_map rule (take i xs)) a b → Adds (rule (get_or xs i d)) b c
      → Adds (flat_map rule (take (i + 1) xs)) a c
  adds_more_of i d a b c below before here =
      adds_as (flat_map rule (take i xs) ++ rule (get_or xs i d)) (flat_map rule (take (i + 1) xs)) a c
      (sym (ap (flat_map rule) (take_more xs i d below) ∙ flat_map-append rule (take i xs) (get_or xs i d ∷ [])
      ∙ ap (λ l. flat_map rule (take i xs) ++ l) (append-nil (rule (get_or xs i d)))))
      (adds_then (flat_map rule (take i xs)) (rule (get_or xs i d)) a b c before here)
