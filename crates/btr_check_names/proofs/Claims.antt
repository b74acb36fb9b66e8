-- Claims and names that are the same.
use Rattle.std.proofs.Common.{◌≡◌, ℕ, Bool, true, false, ◌&&◌, List, refl, sym, ap, ◌∙◌, eqb-true, eq-eqb, true≢false}
use Rattle.std.proofs.lemmas.Slice.Eq.{bytes_eq-Decides}
use Rattle.std.proofs.lemmas.Cmp.{on_total, then_total, nat_cmp_total}
use Rattle.std.specs.Cmp.{IsTotalOrder}
use Rattle.std.specs.FinMap.{IsAntisymmetric}
use Rattle.std.specs.Ordering.{is_eq, nat_cmp, ordering_then}
use Rattle.std.specs.Str.{bytes_eq}
use Rattle.std.specs.declared.cmp.Ordering.{Ordering}
use Rattle.btr_check_names.specs.declared.claim.Claim.{Claim}
use Rattle.btr_check_names.specs.declared.dir_entry.Target.{Target}
use Rattle.btr_check_names.specs.Pairs.{claim_cmp}
use Rattle.btr_check_names.specs.Sets.{target_cmp}
use Rattle.btr_check_names.proofs.Looking.{same_number, is_eq-then}

-- names that compare as equal are the same name
pub same_names : (xs ys : List ℕ) → bytes_eq xs ys ≡ true → xs ≡ ys
same_names xs ys h = (bytes_eq-Decides xs ys).0 h

-- a name compares as equal to itself
pub name_itself : (xs : List ℕ) → bytes_eq xs xs ≡ true
name_itself xs = (bytes_eq-Decides xs xs).1 refl

-- where two tests hold together, each of them does
pub two_hold : (a b : Bool) → (a && b) ≡ true → (a ≡ true) × (b ≡ true)
two_hold true b h = (refl, h)
two_hold false b h = absurd (true≢false (sym h))

-- numbers that compare as equal are the same number
pub number_is : (x y : ℕ) → is_eq (nat_cmp x y) ≡ true → x ≡ y
number_is x y h = sym (eqb-true y x (sym (same_number x y) ∙ h))

number_itself : (x : ℕ) → is_eq (nat_cmp x x) ≡ true
number_itself x = same_number x x ∙ eq-eqb x x refl

-- where two comparisons in turn say equal, each of them does
then_is : (a b : Ordering) → is_eq (ordering_then a b) ≡ true → (is_eq a ≡ true) × (is_eq b ≡ true)
then_is a b h = two_hold (is_eq a) (is_eq b) (sym (is_eq-then a b) ∙ h)

-- where each of two comparisons says equal, so do both in turn
then_both : (a b : Ordering) → is_eq a ≡ true → is_eq b ≡ true → is_eq (ordering_then a b) ≡ true
then_both a b one two = is_eq-then a b ∙ (λ i. one i && two i)

-- targets that compare as equal are the same
same_target : (a b : Target) → is_eq (target_cmp a b) ≡ true → a ≡ b
same_target a b h =
    let one = then_is (nat_cmp a.objectid b.objectid) (ordering_then (nat_cmp a.kind b.kind) (nat_cmp a.offset b.offset)) h in
    let two = then_is (nat_cmp a.kind b.kind) (nat_cmp a.offset b.offset) one.1 in
    λ i. record { objectid = number_is a.objectid b.objectid one.0 i; kind = number_is a.kind b.kind two.0 i; offset = number_is a.offset b.offset two.1 i }

-- claims that compare as equal are the same
pub same_claim : (a b : Claim) → is_eq (claim_cmp a b) ≡ true → a ≡ b
same_claim a b h =
    let last : Ordering = ordering_then (target_cmp a.target b.target) (nat_cmp a.kind b.kind) in
    let one = then_is (nat_cmp a.dir b.dir) (ordering_then (nat_cmp a.offset b.offset) last) h in
    let two = then_is (nat_cmp a.offset b.offset) last one.1 in
    let three = then_is (target_cmp a.target b.target) (nat_cmp a.kind b.kind) two.1 in
    λ i. record {
      dir = number_is a.dir b.dir one.0 i;
      offset = number_is a.offset b.offset two.0 i;
      target = same_target a.target b.target three.0 i;
      kind = number_is a.kind b.kind three.1 i;
    }

target_itself : (a : Target) → is_eq (target_cmp a a) ≡ true
target_itself a =
    then_both (nat_cmp a.objectid a.objectid) (ordering_then (nat_cmp a.kind a.kind) (nat_cmp a.offset a.offset)) (number_itself a.objectid)
    (then_both (nat_cmp a.kind a.kind) (nat_cmp a.offset a.offset) (number_itself a.kind) (number_itself a.offset))

-- a claim compares as equal to itself
pub claim_itself : (a : Claim) → is_eq (claim_cmp a a) ≡ true
claim_itself a =
    let last : Ordering = ordering_then (target_cmp a.target a.target) (nat_cmp a.kind a.kind) in
    then_both (nat_cmp a.dir a.dir) (ordering_then (nat_cmp a.offset a.offset) last) (number_itself a.dir)
    (then_both (nat_cmp a.offset a.offset) last (number_itself a.offset)
    (then_both (target_cmp a.target a.target) (nat_cmp a.kind a.kind) (target_itself a.target) (number_itself a.kind)))

-- the order of targets is total
targets_total : IsTotalOrder target_cmp
targets_total = then_total (on_total (λ (t : Target). t.objectid) nat_cmp_total)
    (then_total (on_total (λ (t : Target). t.kind) nat_cmp_total) (on_total (λ (t : Target). t.offset) nat_cmp_total))

-- the order of claims
pub claims_total : IsTotalOrder claim_cmp
claims_total =
    then_total (on_total (λ (c : Claim). c.dir) nat_cmp_total) (then_total (on_total (λ (c : Claim). c.offset) nat_cmp_total)
    (then_total (on_total (λ (c : Claim). c.target) targets_total) (on_total (λ (c : Claim). c.kind) nat_cmp_total)))

-- two claims of which neither is above the other are one
pub one_claim : IsAntisymmetric claim_cmp
one_claim a b same = same_claim a b (ap is_eq same)
