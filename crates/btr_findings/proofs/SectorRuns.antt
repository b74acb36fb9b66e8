-- Runs of sectors, cut and joined, and how the findings on sectors compare.
use Rattle.std.proofs.Common.{◌≡◌, ℕ, zero, suc, ◌+◌, ◌-◌, ◌*◌, ◌/◌, ◌%◌, ◌^◌, ◌<◌, ◌≤◌, Bool, true, false, ◌&&◌, ◌||◌, List, [], ◌∷◌, ◌++◌, map, eqb, refl}
use Rattle.std.proofs.Common.{sym, ap, ◌∙◌, arith}
use Rattle.std.proofs.lemmas.Bool.Decides.{nat_tests}
use Rattle.std.proofs.lemmas.List.{map-append}
use Rattle.std.proofs.lemmas.List.Folds.{list_any-append}
use Rattle.std.specs.List.{range_with_len, AllByRecursion}
use Rattle.std.specs.Ordering.{is_eq, is_lt, nat_cmp, ordering_then}
use Rattle.std.specs.declared.cmp.Ordering.{Ordering}
use Rattle.std.specs.declared.cmp.Ordering.TheVariants.{Less, Equal, Greater}
use Rattle.btr_findings.specs.declared.finding.Finding.{Finding}
use Rattle.btr_findings.specs.declared.sector_rule.SectorRule.{SectorRule}
use Rattle.btr_findings.specs.declared.sector_rule.SectorRule.TheVariants.{Missing, Overlap, Stray, Lost}
use Rattle.btr_findings.specs.Findings.{finding_cmp, is_one_of, is_same, shown_sum}
use Rattle.btr_findings.specs.Runs.{is_rule}
use Rattle.btr_findings.specs.Sectors.{IsRunAt, sector_finding}

-- the findings on sectors, by the number of the first
abbrev pub lines : SectorRule → ℕ → ℕ → List Finding
lines rule first count = map (λ i. sector_finding rule (i * 4096)) (range_with_len first count)

-- numbers one after another, in two parts
pub range_join : (first a b : ℕ) → range_with_len first (a + b) ≡ range_with_len first a ++ range_with_len (first + a) b
range_join first zero b =
    let none : zero + b ≡ b = omega arith in
    let here : first ≡ first + zero = omega arith in
    ap (range_with_len first) none ∙ ap (λ n. range_with_len n b) here
range_join first (suc a) b =
    let more : suc a + b ≡ suc (a + b) = omega arith in
    let next : first + 1 + a ≡ first + suc a = omega arith in
    ap (range_with_len first) more ∙ ap (λ l. first ∷ l) (range_join (first + 1) a b)
    ∙ ap (λ n. first ∷ (range_with_len (first + 1) a ++ range_with_len n b)) next

-- two runs, one behind the other, are one
pub lines_join : (rule : SectorRule) (first a b : ℕ) → lines rule first (a + b) ≡ lines rule first a ++ lines rule (first + a) b
lines_join rule first a b =
    ap (map (λ i. sector_finding rule (i * 4096))) (range_join first a b)
    ∙ map-append (λ i. sector_finding rule (i * 4096)) (range_with_len first a) (range_with_len (first + a) b)

-- what holds of each sector holds of the findings
pub all_lines : (P : Finding → Type 0) (rule : SectorRule) (first count : ℕ)
    → ((i : ℕ) → first ≤ i → i < first + count → P (sector_finding rule (i * 4096))) → AllByRecursion P (lines rule first count)
all_lines P rule first zero each = tt
all_lines P rule first (suc count) each =
    (each first (omega arith) (omega arith), all_lines P rule (first + 1) count (λ i from below. each i (omega (arith, from)) (omega (arith, below))))

-- whether a finding is one of those on some sectors
abbrev pub is_line : SectorRule → ℕ → ℕ → Finding → Bool
is_line rule first count one = is_one_of (lines rule first count) one

-- a finding on the sectors of two parts, one behind the other, is on those of one of them
pub is_line_join : (rule : SectorRule) (first a b : ℕ) (one : Finding) → is_line rule first (a + b) one
    ≡ (is_line rule first a one || is_line rule (first + a) b one)
is_line_join rule first a b one =
    ap (λ l. is_one_of l one) (lines_join rule first a b) ∙ list_any-append (is_same one) (lines rule first a) (lines rule (first + a) b)

middle : (a b c : Bool) → (a || (b || c)) ≡ ((a || (b || c)) || b)
middle true b c = refl
middle false true c = refl
middle false false true = refl
middle false false false = refl

-- no sector
pub is_line_none : (rule : SectorRule) (first count : ℕ) (one : Finding) → count ≡ 0 → is_line rule first count one ≡ false
is_line_none rule first count one e = ap (λ n. is_line rule first n one) e

-- the sectors of a part that ends within the whole are among those of the whole
is_line_inside : (rule : SectorRule) (first count start part : ℕ) (one : Finding) → first ≤ start → start + part ≤ first + count
    → is_line rule first count one ≡ (is_line rule first count one || is_line rule start part one)
is_line_inside rule first count start part one from to =
    let front : ℕ = start - first in
    let back : ℕ = count - (front + part) in
    let all : count ≡ front + (part + back) = omega (arith, from, to) in
    let here : first + front ≡ start = omega (arith, from) in
    let whole : is_line rule first count one ≡ (is_line rule first front one || (is_line rule start part one || is_line rule (start + part) back one)) =
    ap (λ n. is_line rule first n one) all
    ∙ is_line_join rule first front (part + back) one
    ∙ ap (λ n. is_line rule first front one || is_line rule n (part + back) one) here
    ∙ ap (λ b. is_line rule first front one || b) (is_line_join rule start part back one) in
    whole
    ∙ middle (is_line rule first front one) (is_line rule start part one) (is_line rule (start + part) back one)
    ∙ ap (λ b. b || is_line rule start part one) (sym whole)

pub or_none : (a : Bool) → a ≡ (a || false)
or_none true = refl
or_none false = refl

-- the sectors of a part are among those of the whole
pub is_line_part : (rule : SectorRule) (first count start part : ℕ) (one : Finding) → first ≤ start → part ≤ first + count - start
    → is_line rule first count one ≡ (is_line rule first count one || is_line rule start part one)
is_line_part rule first count start zero one from few = or_none (is_line rule first count one)
is_line_part rule first count start (suc part) one from few = is_line_inside rule first count start (suc part) one from (omega (arith, few))

-- where the trees and the inodes are tested as the same, they are
same_numbers : (tree inode tree' inode' : ℕ) → (eqb tree tree' && eqb inode inode') ≡ true → (tree ≡ tree') × (inode ≡ inode')
same_numbers tree inode tree' inode' e =
    let first : tree ≡ tree' = grind (arith, nat_tests) in
    let second : inode ≡ inode' = grind (arith, nat_tests) in
    (first, second)

-- rules that the test says are one are the same
pub same_rule : (a b : SectorRule) → is_rule a b ≡ true → a ≡ b
same_rule (Missing tree inode) (Missing tree' inode') e = let both = same_numbers tree inode tree' inode' e in λ i. Missing (both.0 i) (both.1 i)
same_rule Overlap Overlap e = refl
same_rule Stray Stray e = refl
same_rule Lost Lost e = refl
same_rule (Missing tree inode) Overlap e = cc
same_rule (Missing tree inode) Stray e = cc
same_rule (Missing tree inode) Lost e = cc
same_rule Overlap (Missing tree inode) e = cc
same_rule Overlap Stray e = cc
same_rule Overlap Lost e = cc
same_rule Stray (Missing tree inode) e = cc
same_rule Stray Overlap e = cc
same_rule Stray Lost e = cc
same_rule Lost (Missing tree inode) e = cc
same_rule Lost Overlap e = cc
same_rule Lost Stray e = cc

-- how rules are ordered
abbrev pub rule_cmp : SectorRule → SectorRule → Ordering
rule_cmp a b = finding_cmp (sector_finding a 0) (sector_finding b 0)

-- three orders one after another, put together otherwise
by_third : (p q r : Ordering) → ordering_then p (ordering_then q (ordering_then r Equal)) ≡ ordering_then (ordering_then p (ordering_then q Equal)) r
by_third Less q r = refl
by_third Greater q r = refl
by_third Equal Less r = refl
by_third Equal Greater r = refl
by_third Equal Equal Less = refl
by_third Equal Equal Equal = refl
by_third Equal Equal Greater = refl

-- an order behind which nothing is compared says what it says
then_none : (r : Ordering) → ordering_then r Equal ≡ r
then_none Less = refl
then_none Equal = refl
then_none Greater = refl

-- findings on sectors are ordered by the rule, and then by the address
pub lines_cmp : (a b : SectorRule) (x y : ℕ) → finding_cmp (sector_finding a x) (sector_finding b y) ≡ ordering_then (rule_cmp a b) (nat_cmp x y)
lines_cmp (Missing tree inode) (Missing tree' inode') x y = by_third (nat_cmp tree tree') (nat_cmp inode inode') (nat_cmp x y)
lines_cmp Overlap Overlap x y = then_none (nat_cmp x y)
lines_cmp Stray Stray x y = then_none (nat_cmp x y)
lines_cmp Lost Lost x y = then_none (nat_cmp x y)
lines_cmp (Missing tree inode) Overlap x y = refl
lines_cmp (Missing tree inode) Stray x y = refl
lines_cmp (Missing tree inode) Lost x y = refl
lines_cmp Overlap (Missing tree inode) x y = refl
lines_cmp Overlap Stray x y = refl
lines_cmp Overlap Lost x y = refl
lines_cmp Stray (Missing tree inode) x y = refl
lines_cmp Stray Overlap x y = refl
lines_cmp Stray Lost x y = refl
lines_cmp Lost (Missing tree inode) x y = refl
lines_cmp Lost Overlap x y = refl
lines_cmp Lost Stray x y = refl

-- two orders one after another say equal where both do
both_tied : (p q : Ordering) → is_eq (ordering_then p (ordering_then q Equal)) ≡ (is_eq p && is_eq q)
both_tied Less q = refl
both_tied Greater q = refl
both_tied Equal Less = refl
both_tied Equal Equal = refl
both_tied Equal Greater = refl

-- numbers compare as equal where they are the same
pub tied_number : (x y : ℕ) → is_eq (nat_cmp x y) ≡ eqb x y
tied_number x y = grind (arith, nat_tests)

-- rules compare as equal where they are one
pub rule_tied : (a b : SectorRule) → is_eq (rule_cmp a b) ≡ is_rule a b
rule_tied (Missing tree inode) (Missing tree' inode') =
    both_tied (nat_cmp tree tree') (nat_cmp inode inode') ∙ ap (λ b. b && is_eq (nat_cmp inode inode')) (tied_number tree tree')
    ∙ ap (λ b. eqb tree tree' && b) (tied_number inode inode')
rule_tied Overlap Overlap = refl
rule_tied Stray Stray = refl
rule_tied Lost Lost = refl
rule_tied (Missing tree inode) Overlap = refl
rule_tied (Missing tree inode) Stray = refl
rule_tied (Missing tree inode) Lost = refl
rule_tied Overlap (Missing tree inode) = refl
rule_tied Overlap Stray = refl
rule_tied Overlap Lost = refl
rule_tied Stray (Missing tree inode) = refl
rule_tied Stray Overlap = refl
rule_tied Stray Lost = refl
rule_tied Lost (Missing tree inode) = refl
rule_tied Lost Overlap = refl
rule_tied Lost Stray = refl

-- no rule comes before the first
never_below : (n : ℕ) → is_lt (nat_cmp n 0) ≡ false
never_below n = grind (arith, nat_tests)

-- where neither of two orders says less, both one after another don't
first_of_two : (p q : Ordering) → is_lt p ≡ false → is_lt q ≡ false → is_lt (ordering_then p q) ≡ false
first_of_two Less q a b = a
first_of_two Equal q a b = b
first_of_two Greater q a b = refl

-- no finding on a sector comes before the one that no sector at all would have
pub none_before : (rule : SectorRule) (first : ℕ) → is_lt (finding_cmp (sector_finding rule first) (sector_finding (Missing 0 0) 0)) ≡ false
none_before (Missing tree inode) first =
    first_of_two (nat_cmp tree 0) _ (never_below tree) (first_of_two (nat_cmp inode 0) _ (never_below inode)
    (first_of_two (nat_cmp first 0) _ (never_below first) refl))
none_before Overlap first = refl
none_before Stray first = refl
none_before Lost first = refl

-- one function after another on a list, or both at once
map_both : (f : ℕ → ℕ) (g : ℕ → Finding) (list : List ℕ) → map g (map f list) ≡ map (λ i. g (f i)) list
map_both f g [] = refl
map_both f g (i ∷ list) = ap (λ l. g (f i) ∷ l) (map_both f g list)

-- functions that are the same from two places on make the same lists of the numbers there
same_map : (f g : ℕ → Finding) (a b count : ℕ) → ((i : ℕ) → i < count → f (a + i) ≡ g (b + i)) → map f (range_with_len a count) ≡ map g (range_with_len b count)
same_map f g a b zero same = refl
same_map f g a b (suc count) same =
    let first : a + 0 ≡ a = omega arith in
    let second : b + 0 ≡ b = omega arith in
    let here : f a ≡ g b = ap f (sym first) ∙ same 0 (omega arith) ∙ ap g second in
    ap (λ one. one ∷ map f (range_with_len (a + 1) count)) here
    ∙ ap (λ l. g b ∷ l) (same_map f g (a + 1) (b + 1) count (λ i below.
    let one : a + 1 + i ≡ a + (i + 1) = omega arith in
    let other : b + (i + 1) ≡ b + 1 + i = omega arith in
    ap f one ∙ same (i + 1) (omega (arith, below)) ∙ ap g other))

-- a run is at the address of its first sector
pub run_at : (rule : SectorRule) (start first count : ℕ) → first ≡ start / 4096 → start % 4096 ≡ 0 → first + count ≤ 2 ^ 52
    → IsRunAt rule start count (record { rule = rule; first = first; count = count })
run_at rule start first count is whole below = record {
  within = below;
  findings =
      same_map (λ i. sector_finding rule (i * 4096)) (λ i. sector_finding rule (shown_sum (start + i * 4096))) first 0 count (λ i under.
      let addr : (first + i) * 4096 ≡ shown_sum (start + (0 + i) * 4096) = omega (arith, is, whole, below, under) in
      ap (sector_finding rule) addr)
      ∙ sym (map_both (λ i. start + i * 4096) (λ addr. sector_finding rule (shown_sum addr)) (range_with_len 0 count));
  long = refl;
}
