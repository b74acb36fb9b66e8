-- What is kept of uses is what they are, however often and in whatever order they come.
use Rattle.std.proofs.Common.{◌≡◌, Bool, true, false, ◌||◌, List, [], ◌∷◌, map, flat_map, fold, refl, sym, ap, ◌∙◌}
use Rattle.std.proofs.lemmas.List.Folds.{list_any-append}
use Rattle.std.specs.BTreeSet.{insert_key}
use Rattle.std.specs.List.{list_any}
use Rattle.btr_findings.proofs.Sets.{any-insert, finding_total}
use Rattle.btr_findings.specs.Findings.{finding_cmp, is_one_of, is_same}
use Rattle.btr_findings.specs.declared.extent.Extent.{Extent}
use Rattle.btr_findings.specs.declared.finding.Finding.{Finding}
use Rattle.btr_refs.specs.Counts.{counted_all}
use Rattle.btr_refs.specs.Extents.{KeptExtents}
use Rattle.btr_refs.specs.Forward.{Use, Uses, Tally, extent_findings, met, misused_by, no_uses, tally_with, with_use}
use Rattle.btr_refs.specs.Misusing.{misused_at, with_findings}
use Rattle.btr_findings.proofs.Rules.{or_turns}
use Rattle.btr_findings.proofs.Adding.{or_none}

-- the references that are counted
pub refs_all : (stored : KeptExtents) (uses : List Use) (old : Uses) → (fold (with_use stored) old uses).refs ≡ counted_all old.refs (map met uses)
refs_all stored [] old = refl
refs_all stored (one ∷ uses) old = refs_all stored uses (with_use stored old one)

-- what is kept beside what is stored
pub uses_all : (uses : List Use) (old : Tally) → fold tally_with old uses ≡ record { stored = old.stored; uses = fold (with_use old.stored) old.uses uses }
uses_all [] old = refl
uses_all (one ∷ uses) old = uses_all uses (tally_with old one)

-- each is met among each, in whatever order
module _ {X Y : Type 0} (p : X → Y → Bool) where
  -- what never holds holds of none
  none_any : (ys : List Y) → list_any (λ y. false) ys ≡ false
  none_any [] = refl
  none_any (y ∷ ys) = none_any ys

  -- one of two tests holds of one of a list where the first or the second holds of one
  or_any : (q r : Y → Bool) (ys : List Y) → (list_any q ys || list_any r ys) ≡ list_any (λ y. q y || r y) ys
  or_any q r [] = refl
  or_any q r (y ∷ ys) = turned (q y) (list_any q ys) (r y) (list_any r ys) ∙ ap (λ b. (q y || r y) || b) (or_any q r ys)
    where
      turned : (a b c d : Bool) → ((a || b) || (c || d)) ≡ ((a || c) || (b || d))
      turned true b c d = refl
      turned false true true d = refl
      turned false true false d = refl
      turned false false c d = refl

  -- one of a list meets one of another where one of the other meets one of it
  any_swap : (xs : List X) (ys : List Y) → list_any (λ x. list_any (p x) ys) xs ≡ list_any (λ y. list_any (λ x. p x y) xs) ys
  any_swap [] ys = sym (none_any ys)
  any_swap (x ∷ xs) ys = ap (λ b. list_any (p x) ys || b) (any_swap xs ys) ∙ or_any (p x) (λ y. list_any (λ z. p z y) xs) ys

-- tests that are the same hold of one of a list alike
any_alike : {X : Type 0} (p q : X → Bool) → ((x : X) → p x ≡ q x) → (xs : List X) → list_any p xs ≡ list_any q xs
any_alike p q same [] = refl
any_alike p q same (x ∷ xs) = ap (λ b. b || list_any p xs) (same x) ∙ ap (λ b. q x || b) (any_alike p q same xs)

module _ (one : Finding) where
  -- a finding that something of a list gives
  any_of : {X : Type 0} (f : X → List Finding) (xs : List X) → is_one_of (flat_map f xs) one ≡ list_any (λ x. is_one_of (f x) one) xs
  any_of f [] = refl
  any_of f (x ∷ xs) = list_any-append (is_same one) (f x) (flat_map f xs) ∙ ap (λ b. is_one_of (f x) one || b) (any_of f xs)

  -- a set with some more has those and what it had
  any_with : (more set : List Finding) → is_one_of (with_findings set more) one ≡ (is_one_of more one || is_one_of set one)
  any_with [] set = refl
  any_with (finding ∷ more) set =
      any_with more (insert_key finding_cmp set finding) ∙ ap (λ b. is_one_of more one || b) (any-insert finding_cmp finding_total one set finding)
      ∙ or_turns (is_one_of more one) (is_same one finding) (is_one_of set one)

  module _ (stored : KeptExtents) where
    -- what is kept once some uses came is what is wrong by one of them, and what was kept
    kept_any : (uses : List Use) (old : Uses) → is_one_of (fold (with_use stored) old uses).misused one
        ≡ (list_any (λ (u : Use). is_one_of (misused_by stored u) one) uses || is_one_of old.misused one)
    kept_any [] old = refl
    kept_any (u ∷ uses) old =
        let by : Use → Bool = λ other. is_one_of (misused_by stored other) one in
        kept_any uses (with_use stored old u) ∙ ap (λ b. list_any by uses || b) (any_with (misused_by stored u) old.misused)
        ∙ or_turns (list_any by uses) (by u) (is_one_of old.misused one)

    -- the finding is one of what is wrong with an extent by a use
    abbrev pair_any : Extent → Use → Bool
    pair_any extent u = is_one_of (misused_at stored.nodesize u.addr u.what extent) one

    -- what is kept of all uses is what is wrong with all extents by them
    pub misused_any : (uses : List Use) → is_one_of (fold (with_use stored) no_uses uses).misused one
        ≡ is_one_of (flat_map (extent_findings stored.nodesize uses) stored.extents) one
    misused_any uses =
        kept_any uses no_uses ∙ or_none (list_any (λ (u : Use). is_one_of (misused_by stored u) one) uses)
        ∙ any_alike (λ (u : Use). is_one_of (misused_by stored u) one) (λ u. list_any (λ extent. pair_any extent u) stored.extents)
        (λ u. any_of (misused_at stored.nodesize u.addr u.what) stored.extents) uses
        ∙ sym (any_swap pair_any stored.extents uses)
        ∙ sym (any_of (extent_findings stored.nodesize uses) stored.extents
        ∙ any_alike (λ extent. is_one_of (extent_findings stored.nodesize uses extent) one) (λ extent. list_any (pair_any extent) uses)
        (λ extent. any_of (λ (u : Use). misused_at stored.nodesize u.addr u.what extent) uses) stored.extents)
