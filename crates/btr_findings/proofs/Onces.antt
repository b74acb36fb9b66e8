-- Runs of sectors of which each sector is left to the first that has it.
use Rattle.std.proofs.Common.{◌≡◌, ℕ, zero, suc, ◌+◌, ◌-◌, ◌*◌, ◌<◌, ◌≤◌, max, min, Bool, true, false, ◌||◌, cond, ◌⊎◌, List, [], ◌∷◌, ◌++◌, length}
use Rattle.std.proofs.Common.{get_or, set, take, drop, refl, sym, ap, subst, inl, inr, append_assoc, ◌∙◌, arith}
use Rattle.std.proofs.lemmas.Bool.{cases_lt, true≢false, false≢true}
use Rattle.std.proofs.lemmas.Bool.Decides.{nat_tests}
use Rattle.std.proofs.lemmas.Cmp.{tied_itself}
use Rattle.std.proofs.lemmas.List.{drop_more, drop-set-lt, take_more_set}
use Rattle.std.proofs.lemmas.List.Elements.{All-from_recursion, recursion_from_All}
use Rattle.std.proofs.lemmas.List.Folds.{list_any-append}
use Rattle.std.proofs.lemmas.Map.Keys.{ge_from_not_lt}
use Rattle.std.specs.List.{All, AllByRecursion, list_any}
use Rattle.std.proofs.lemmas.List.Sorted.{list_any-IsPermutation}
use Rattle.std.specs.List.Sorted.{IsPermutation, IsSortedByKey, IsStrictlySortedBy}
use Rattle.std.specs.Ordering.{is_eq, is_lt, nat_cmp, ordering_then, ordering_reverse}
use Rattle.std.specs.declared.cmp.Ordering.{Ordering}
use Rattle.std.specs.declared.cmp.Ordering.TheVariants.{Less, Equal, Greater}
use Rattle.btr_findings.specs.declared.finding.Finding.{Finding}
use Rattle.btr_findings.specs.declared.sector_rule.SectorRule.{SectorRule}
use Rattle.btr_findings.specs.declared.sector_run.SectorRun.{SectorRun}
use Rattle.btr_findings.specs.Findings.{finding_cmp, is_one_of, is_same}
use Rattle.btr_findings.specs.Runs.{IsSoundRun, each_once, is_rule, met_by, no_run, reaching, without}
use Rattle.btr_findings.specs.Sectors.{IsRunWithin, run_findings, runs_findings, sector_finding}
use Rattle.btr_findings.proofs.SectorRuns.{all_lines, is_line, is_line_join, is_line_none, is_line_part, lines, lines_cmp, none_before, rule_cmp, rule_tied}
use Rattle.btr_findings.proofs.SectorRuns.{or_none}
use Rattle.btr_findings.proofs.SectorRuns.{same_rule}
use Rattle.btr_findings.proofs.Sets.{all-weaker, finding_total}

-- what runs are sorted by
abbrev pub key_of : SectorRun → Finding
key_of run = sector_finding run.rule run.first

-- none of some runs comes before the one in front of it
abbrev Rising : Finding → List SectorRun → Type 0
Rising key [] = Unit {0}
Rising key (run ∷ runs) = (is_lt (finding_cmp (key_of run) key) ≡ false) × Rising (key_of run) runs

-- of sorted runs behind a first one, none comes before the one in front of it
rising_behind : (first : SectorRun) (runs : List SectorRun) → IsSortedByKey key_of finding_cmp (first ∷ runs) → Rising (key_of first) runs
rising_behind first [] sorted = tt
rising_behind first (run ∷ runs) sorted = (
  sorted 0 first (omega arith) (omega arith),
  rising_behind run runs (λ k d from below.
      let one : suc k + 1 ≡ suc (k + 1) = omega arith in
      subst (λ n. is_lt (finding_cmp (key_of (get_or (first ∷ run ∷ runs) n d)) (key_of (get_or (run ∷ runs) k d))) ≡ false) one
      (sorted (suc k) d (omega arith) (omega (arith, below)))),
)

-- of sorted runs none comes before the one in front of it, nor the first before no sector at all
pub rising : (runs : List SectorRun) → IsSortedByKey key_of finding_cmp runs → Rising (key_of no_run) runs
rising [] sorted = tt
rising (run ∷ runs) sorted = (none_before run.rule run.first, rising_behind run runs sorted)

-- where the first of two orders says equal and both together don't say less, the second doesn't
not_less_tied : (p q : Ordering) → is_eq p ≡ true → is_lt (ordering_then p q) ≡ false → is_lt q ≡ false
not_less_tied Less q e h = absurd (false≢true e)
not_less_tied Equal q e h = h
not_less_tied Greater q e h = absurd (false≢true e)

-- where the first of two orders doesn't say equal and both together don't say less, the first says greater
greater_of : (p q : Ordering) → is_eq p ≡ false → is_lt (ordering_then p q) ≡ false → p ≡ Greater
greater_of Less q e h = absurd (true≢false h)
greater_of Equal q e h = absurd (true≢false e)
greater_of Greater q e h = refl

pub or_regroups : (a b c : Bool) → ((a || b) || c) ≡ (a || (b || c))
or_regroups true b c = refl
or_regroups false b c = refl

or_turns : (a b c : Bool) → ((a || b) || c) ≡ ((a || c) || b)
or_turns true b c = refl
or_turns false true true = refl
or_turns false true false = refl
or_turns false false true = refl
or_turns false false false = refl

or_twice : (a b : Bool) → (a || b) ≡ ((a || b) || b)
or_twice true b = refl
or_twice false true = refl
or_twice false false = refl

-- a number below another compares as less
nat_below : (x y : ℕ) → x < y → nat_cmp x y ≡ Less
nat_below x y below = grind (arith, nat_tests)

-- a finding comes behind all sectors of a rule that are below an end
abbrev Behind : SectorRun → Finding → Type 0
Behind last one = (i : ℕ) → i < last.first + last.count → finding_cmp (sector_finding last.rule (i * 4096)) one ≡ Less

-- the findings of a rule ascend by their sectors
lines_ascend : (rule : SectorRule) (i j : ℕ) → i < j → finding_cmp (sector_finding rule (i * 4096)) (sector_finding rule (j * 4096)) ≡ Less
lines_ascend rule i j below =
    let tied : is_eq (rule_cmp rule rule) ≡ true = ap is_eq (tied_itself finding_total (sector_finding rule 0)) in
    lines_cmp rule rule (i * 4096) (j * 4096)
    ∙ ap (λ r. ordering_then r (nat_cmp (i * 4096) (j * 4096))) (tied_itself finding_total (sector_finding rule 0))
    ∙ nat_below (i * 4096) (j * 4096) (omega (arith, below))

module _ (earlier run : SectorRun) where
  abbrev end : ℕ
  end = earlier.first + earlier.count

  abbrev same : Bool
  same = is_rule earlier.rule run.rule

  -- how many of its sectors the earlier one has
  abbrev met : ℕ
  met = met_by earlier run

  -- of a run of its own rule the earlier one has the sectors up to its end
  met_same : same ≡ true → met ≡ min run.count (end - run.first)
  met_same e = ap (λ b. cond b (min run.count (end - run.first)) 0) e

  -- of a run of another rule the earlier one has none
  met_other : same ≡ false → met ≡ 0
  met_other e = ap (λ b. cond b (min run.count (end - run.first)) 0) e

  -- the run as far as it or the earlier one reaches
  abbrev longer : SectorRun
  longer = record { rule = run.rule; first = run.first; count = max run.count (end - run.first) }

  -- a run of the earlier one's rule reaches as far as either of them
  reaching_same : same ≡ true → reaching earlier run ≡ longer
  reaching_same e = ap (λ b. cond b longer run) e

  -- a run of another rule reaches as far as by itself
  reaching_other : same ≡ false → reaching earlier run ≡ run
  reaching_other e = ap (λ b. cond b longer run) e

  -- what holds where both are of one rule, and where they aren't, holds
  by_same : (P : Type 0) → (same ≡ true → P) → (same ≡ false → P) → P
  by_same P alike apart = by same refl
    where
      by : (b : Bool) → same ≡ b → P
      by true e = alike e
      by false e = apart e

  -- a run, as far as it reaches, still begins where it did
  key_reaching : key_of (reaching earlier run) ≡ key_of run
  key_reaching = by_same (key_of (reaching earlier run) ≡ key_of run) (λ e. ap key_of (reaching_same e)) (λ e. ap key_of (reaching_other e))

  -- the earlier run has no more than all sectors of the run
  met_few : met ≤ run.count
  met_few = by_same (met ≤ run.count) (λ e. let is : met ≡ min run.count (end - run.first) = met_same e in omega (arith, is))
      (λ e. let is : met ≡ 0 = met_other e in omega (arith, is))

  -- that it doesn't come before the earlier one says where it begins
  begins : is_lt (finding_cmp (key_of run) (key_of earlier)) ≡ false
      → is_lt (ordering_then (rule_cmp run.rule earlier.rule) (nat_cmp run.first earlier.first)) ≡ false
  begins up = sym (ap is_lt (lines_cmp run.rule earlier.rule run.first earlier.first)) ∙ up

  -- rules that are one compare as equal
  tied_rules : same ≡ true → is_eq (rule_cmp run.rule earlier.rule) ≡ true
  tied_rules e =
      let is : earlier.rule ≡ run.rule = same_rule earlier.rule run.rule e in
      ap (λ rule. is_eq (rule_cmp rule earlier.rule)) (sym is) ∙ rule_tied earlier.rule earlier.rule ∙ ap (λ rule. is_rule earlier.rule rule) is ∙ e

  -- a run of one rule that doesn't come before the earlier one begins at its first sector or behind it
  begins_behind : same ≡ true → is_lt (finding_cmp (key_of run) (key_of earlier)) ≡ false → earlier.first ≤ run.first
  begins_behind e up = ge_from_not_lt run.first earlier.first
      (not_less_tied (rule_cmp run.rule earlier.rule) (nat_cmp run.first earlier.first) (tied_rules e) (begins up))

  -- the rule of another run comes behind
  reverse_is : (p q : Ordering) → p ≡ ordering_reverse q → is_eq p ≡ is_eq q
  reverse_is p Less e = ap is_eq e
  reverse_is p Equal e = ap is_eq e
  reverse_is p Greater e = ap is_eq e

  -- a run of another rule that doesn't come before the earlier one has a later rule
  rule_behind : same ≡ false → is_lt (finding_cmp (key_of run) (key_of earlier)) ≡ false → rule_cmp earlier.rule run.rule ≡ Less
  rule_behind e up =
      let turned : rule_cmp run.rule earlier.rule ≡ ordering_reverse (rule_cmp earlier.rule run.rule) =
      finding_total.antisymm (sector_finding run.rule 0) (sector_finding earlier.rule 0) in
      let apart : is_eq (rule_cmp run.rule earlier.rule) ≡ false =
      reverse_is (rule_cmp run.rule earlier.rule) (rule_cmp earlier.rule run.rule) turned ∙ rule_tied earlier.rule run.rule ∙ e in
      finding_total.antisymm (sector_finding earlier.rule 0) (sector_finding run.rule 0)
      ∙ ap ordering_reverse (greater_of (rule_cmp run.rule earlier.rule) (nat_cmp run.first earlier.first) apart (begins up))

  module _ (one : Finding) where
    -- the finding is on a sector of the earlier run
    abbrev here : Bool
    here = is_line earlier.rule earlier.first earlier.count one

    -- the finding is on a sector of the run
    abbrev there : Bool
    there = is_line run.rule run.first run.count one

    -- the finding is on a sector of the run that the earlier one has
    abbrev part : Bool
    part = is_line run.rule run.first met one

    -- the finding is on a sector of the run that is left
    abbrev left : Bool
    left = is_line run.rule (run.first + met) (run.count - met) one

    -- the sectors of the run are those that the earlier one has and those that are left
    there_is : there ≡ (part || left)
    there_is =
        let all : run.count ≡ met + (run.count - met) = omega (arith, met_few) in
        ap (λ n. is_line run.rule run.first n one) all ∙ is_line_join run.rule run.first met (run.count - met) one

    -- what the earlier run has of the run is among its own sectors
    part_is : is_lt (finding_cmp (key_of run) (key_of earlier)) ≡ false → here ≡ (here || part)
    part_is up = by_same (here ≡ (here || part))
        (λ e.
        let is : met ≡ min run.count (end - run.first) = met_same e in
        is_line_part earlier.rule earlier.first earlier.count run.first met one (begins_behind e up) (omega (arith, is))
        ∙ ap (λ rule. here || is_line rule run.first met one) (same_rule earlier.rule run.rule e))
        (λ e. or_none here ∙ sym (ap (λ b. here || b) (is_line_none run.rule run.first met one (met_other e))))

    -- with the sectors of the earlier one, those that are left are all of it
    left_is : is_lt (finding_cmp (key_of run) (key_of earlier)) ≡ false → (here || left) ≡ (here || there)
    left_is up = ap (λ b. b || left) (part_is up) ∙ or_regroups here part left ∙ ap (λ b. here || b) (sym there_is)

    -- the finding is on a sector of the run, as far as that reaches
    abbrev reached : Bool
    reached = is_one_of (run_findings (reaching earlier run)) one

    -- where both are of one rule, all sectors up to the later end are among those of both
    longer_is : same ≡ true → is_lt (finding_cmp (key_of run) (key_of earlier)) ≡ false → (here || there)
        ≡ ((here || there) || is_line run.rule run.first (max run.count (end - run.first)) one)
    longer_is e up = by (cases_lt run.count (end - run.first))
      where
        -- the same by which of them ends later
        by : (run.count < end - run.first) ⊎ (end - run.first ≤ run.count) → (here || there)
            ≡ ((here || there) || is_line run.rule run.first (max run.count (end - run.first)) one)
        by (inl below) =
            let is : max run.count (end - run.first) ≡ end - run.first = omega (arith, below) in
            ap (λ b. b || there)
            (is_line_part earlier.rule earlier.first earlier.count run.first (end - run.first) one (begins_behind e up) (omega arith)
            ∙ ap (λ rule. here || is_line rule run.first (end - run.first) one) (same_rule earlier.rule run.rule e))
            ∙ or_turns here (is_line run.rule run.first (end - run.first) one) there
            ∙ ap (λ n. (here || there) || is_line run.rule run.first n one) (sym is)
        by (inr above) =
            let is : max run.count (end - run.first) ≡ run.count = omega (arith, above) in
            or_twice here there ∙ ap (λ n. (here || there) || is_line run.rule run.first n one) (sym is)

    -- as far as it reaches, all are among them
    reached_is : is_lt (finding_cmp (key_of run) (key_of earlier)) ≡ false → (here || there) ≡ ((here || there) || reached)
    reached_is up = by_same ((here || there) ≡ ((here || there) || reached))
        (λ e. longer_is e up ∙ ap (λ r. (here || there) || is_one_of (run_findings r) one) (sym (reaching_same e)))
        (λ e. or_twice here there ∙ ap (λ r. (here || there) || is_one_of (run_findings r) one) (sym (reaching_other e)))

  -- the sectors that are left of the run come behind all of the earlier one
  left_behind : is_lt (finding_cmp (key_of run) (key_of earlier)) ≡ false → AllByRecursion (Behind earlier) (run_findings (without earlier run))
  left_behind up = all_lines (Behind earlier) run.rule (run.first + met) (run.count - met)
      (λ j from below i under. by_same (finding_cmp (sector_finding earlier.rule (i * 4096)) (sector_finding run.rule (j * 4096)) ≡ Less)
      (λ e.
      let is : met ≡ min run.count (end - run.first) = met_same e in
      let ordered : i < j = omega (arith, is, from, below, under) in
      ap (λ rule. finding_cmp (sector_finding rule (i * 4096)) (sector_finding run.rule (j * 4096))) (same_rule earlier.rule run.rule e)
      ∙ lines_ascend run.rule i j ordered)
      (λ e.
      lines_cmp earlier.rule run.rule (i * 4096) (j * 4096) ∙ ap (λ r. ordering_then r (nat_cmp (i * 4096) (j * 4096))) (rule_behind e up)))

  -- what comes behind all that the run reaches comes behind the earlier run too
  behind_longer : (one : Finding) → is_lt (finding_cmp (key_of run) (key_of earlier)) ≡ false → 0 < run.count → Behind (reaching earlier run) one
      → Behind earlier one
  behind_longer one up some behind i under = by_same (finding_cmp (sector_finding earlier.rule (i * 4096)) one ≡ Less)
      (λ e.
      let at : Behind longer one = subst (λ r. Behind r one) (reaching_same e) behind in
      ap (λ rule. finding_cmp (sector_finding rule (i * 4096)) one) (same_rule earlier.rule run.rule e) ∙ at i (omega (arith, under)))
      (λ e.
      let at : Behind run one = subst (λ r. Behind r one) (reaching_other e) behind in
      let before : finding_cmp (sector_finding earlier.rule (i * 4096)) (sector_finding run.rule (0 * 4096)) ≡ Less =
      lines_cmp earlier.rule run.rule (i * 4096) (0 * 4096) ∙ ap (λ r. ordering_then r (nat_cmp (i * 4096) (0 * 4096))) (rule_behind e up) in
      finding_total.trans (sector_finding earlier.rule (i * 4096)) (sector_finding run.rule (0 * 4096)) one before (at 0 (omega (arith, some))))

  -- the sectors that are left come before what comes behind all that it reaches
  before_behind : (one : Finding) → Behind (reaching earlier run) one → (j : ℕ) → j < run.first + run.count
      → finding_cmp (sector_finding run.rule (j * 4096)) one ≡ Less
  before_behind one behind j below = by_same (finding_cmp (sector_finding run.rule (j * 4096)) one ≡ Less)
      (λ e. let at : Behind longer one = subst (λ r. Behind r one) (reaching_same e) behind in at j (omega (arith, below)))
      (λ e. let at : Behind run one = subst (λ r. Behind r one) (reaching_other e) behind in at j below)

-- the findings on some runs are those on the first and those on the others
runs_is : (run : SectorRun) (runs : List SectorRun) (one : Finding) → is_one_of (runs_findings (run ∷ runs)) one
    ≡ (is_one_of (run_findings run) one || is_one_of (runs_findings runs) one)
runs_is run runs one = list_any-append (is_same one) (run_findings run) (runs_findings runs)

regroup : (e w r n x y : Bool) → (e || w) ≡ (e || r) → (e || r) ≡ ((e || r) || n) → (n || x) ≡ (n || y) → (e || (w || x)) ≡ (e || (r || y))
regroup e w r n x y left reached more =
    sym (or_regroups e w x) ∙ ap (λ b. b || x) left ∙ ap (λ b. b || x) reached ∙ or_regroups (e || r) n x ∙ ap (λ b. (e || r) || b) more
    ∙ sym (or_regroups (e || r) n y) ∙ ap (λ b. b || y) (sym reached) ∙ or_regroups e r y

-- all sectors are left that were there
still_there : (earlier : SectorRun) (key : Finding) (runs : List SectorRun) (one : Finding) → key_of earlier ≡ key → Rising key runs
    → (is_one_of (run_findings earlier) one || is_one_of (runs_findings (each_once earlier runs)) one)
    ≡ (is_one_of (run_findings earlier) one || is_one_of (runs_findings runs) one)
still_there earlier key [] one is up = refl
still_there earlier key (run ∷ runs) one is up =
    let up0 : is_lt (finding_cmp (key_of run) (key_of earlier)) ≡ false = ap (λ k. is_lt (finding_cmp (key_of run) k)) is ∙ up.0 in
    ap (λ b. is_one_of (run_findings earlier) one || b) (runs_is (without earlier run) (each_once (reaching earlier run) runs) one)
    ∙ regroup (here earlier run one) (left earlier run one) (there earlier run one) (reached earlier run one)
    (is_one_of (runs_findings (each_once (reaching earlier run) runs)) one) (is_one_of (runs_findings runs) one)
    (left_is earlier run one up0) (reached_is earlier run one up0) (still_there (reaching earlier run) (key_of run) runs one (key_reaching earlier run) up.1)
    ∙ ap (λ b. is_one_of (run_findings earlier) one || b) (sym (runs_is run runs one))

-- where each sector is left to the first run that has it, sorted runs have the findings that they had
pub once_same : (runs : List SectorRun) (one : Finding) → IsSortedByKey key_of finding_cmp runs
    → is_one_of (runs_findings (each_once no_run runs)) one ≡ is_one_of (runs_findings runs) one
once_same runs one sorted = still_there no_run (key_of no_run) runs one refl (rising runs sorted)

-- lists of findings one behind the other
pub all_append : (P : Finding → Type 0) (xs ys : List Finding) → AllByRecursion P xs → AllByRecursion P ys → AllByRecursion P (xs ++ ys)
all_append P [] ys first second = second
all_append P (x ∷ xs) ys first second = (first.0, all_append P xs ys first.1 second)

-- two ascending lists make one, where the second comes behind all of the first
sorted_append : (xs ys : List Finding) → IsStrictlySortedBy finding_cmp xs → IsStrictlySortedBy finding_cmp ys
    → AllByRecursion (λ x. AllByRecursion (λ y. finding_cmp x y ≡ Less) ys) xs → IsStrictlySortedBy finding_cmp (xs ++ ys)
unfolding IsStrictlySortedBy
sorted_append [] ys first second apart = second
sorted_append (x ∷ xs) ys first second apart = (all_append (λ y. finding_cmp x y ≡ Less) xs ys first.0 apart.0, sorted_append xs ys first.1 second apart.1)

-- the findings on the sectors of a run ascend
lines_sorted : (rule : SectorRule) (first count : ℕ) → IsStrictlySortedBy finding_cmp (lines rule first count)
unfolding IsStrictlySortedBy
lines_sorted rule first zero = tt
lines_sorted rule first (suc count) = (
  all_lines (λ y. finding_cmp (sector_finding rule (first * 4096)) y ≡ Less) rule (first + 1) count
      (λ j from below. lines_ascend rule first j (omega (arith, from))),
  lines_sorted rule (first + 1) count,
)

-- the first of runs that are kept is kept
all_kept : (run : SectorRun) (runs : List SectorRun) → All IsSoundRun (run ∷ runs) → IsSoundRun run
all_kept run runs all = all 0 run (omega arith)

-- where each sector is left to the first run that has it, the findings ascend, and come behind those of the run in front
ascending : (earlier : SectorRun) (key : Finding) (runs : List SectorRun) → key_of earlier ≡ key → Rising key runs → AllByRecursion IsSoundRun runs
    → AllByRecursion (Behind earlier) (runs_findings (each_once earlier runs)) × IsStrictlySortedBy finding_cmp (runs_findings (each_once earlier runs))
unfolding IsStrictlySortedBy
ascending earlier key [] is up kept = (tt, tt)
ascending earlier key (run ∷ runs) is up kept =
    let up0 : is_lt (finding_cmp (key_of run) (key_of earlier)) ≡ false = ap (λ k. is_lt (finding_cmp (key_of run) k)) is ∙ up.0 in
    let longer = reaching earlier run in
    let rest = runs_findings (each_once longer runs) in
    let more = ascending longer (key_of run) runs (key_reaching earlier run) up.1 kept.1 in
    let few : met_by earlier run ≤ run.count = met_few earlier run in
    let behind = all-weaker (Behind longer) (Behind earlier) (λ y h. behind_longer earlier run y up0 kept.0.some h) rest more.0 in
    let apart = all_lines (λ x. AllByRecursion (λ y. finding_cmp x y ≡ Less) rest) run.rule (run.first + met_by earlier run) (run.count - met_by earlier run)
    (λ j from below. all-weaker (Behind longer) (λ y. finding_cmp (sector_finding run.rule (j * 4096)) y ≡ Less)
    (λ y h. before_behind earlier run y h j (omega (arith, below, few))) rest more.0) in (
      all_append (Behind earlier) (run_findings (without earlier run)) rest (left_behind earlier run up0) behind,
      sorted_append (run_findings (without earlier run)) rest
          (lines_sorted run.rule (run.first + met_by earlier run) (run.count - met_by earlier run)) more.1 apart,
    )

-- where each sector is left to the first run that has it, the findings on sorted runs ascend
pub once_sorted : (runs : List SectorRun) → IsSortedByKey key_of finding_cmp runs → All IsSoundRun runs
    → IsStrictlySortedBy finding_cmp (runs_findings (each_once no_run runs))
once_sorted runs sorted kept = (ascending no_run (key_of no_run) runs refl (rising runs sorted) (recursion_from_All IsSoundRun runs kept)).1

-- they stay within the addresses
within_from : (earlier : SectorRun) (runs : List SectorRun) → AllByRecursion IsSoundRun runs → AllByRecursion IsRunWithin (each_once earlier runs)
within_from earlier [] kept = tt
within_from earlier (run ∷ runs) kept =
    let few : met_by earlier run ≤ run.count = met_few earlier run in
    let all = kept.0.within in
    (omega (arith, few, all), within_from (reaching earlier run) runs kept.1)

-- where each sector is left to the first run that has it, the sectors of all runs end at 2^64 at the latest
pub once_within : (runs : List SectorRun) → All IsSoundRun runs → All IsRunWithin (each_once no_run runs)
once_within runs kept = All-from_recursion IsRunWithin (each_once no_run runs) (within_from no_run runs (recursion_from_All IsSoundRun runs kept))

-- a run, as far as it or an earlier one reaches, ends at 2^64 at the latest
pub reaching_within : (earlier run : SectorRun) → IsRunWithin earlier → IsRunWithin run → IsRunWithin (reaching earlier run)
reaching_within earlier run first second = by_same earlier run (IsRunWithin (reaching earlier run))
    (λ e. subst IsRunWithin (sym (reaching_same earlier run e)) (omega (arith, first, second)))
    (λ e. subst IsRunWithin (sym (reaching_other earlier run e)) second)

-- one run more is left
pub once_more : (earlier d : SectorRun) (list : List SectorRun) (i : ℕ) → i < length list
    → take (i + 1) (set list i (without earlier (get_or list i d)))
    ++ each_once (reaching earlier (get_or list i d)) (drop (i + 1) (set list i (without earlier (get_or list i d)))) ≡ take i list
    ++ each_once earlier (drop i list)
once_more earlier d list i below =
    let run = get_or list i d in
    let left = without earlier run in
    let rest = drop (i + 1) list in
    ap (λ l. l ++ each_once (reaching earlier run) (drop (i + 1) (set list i left))) (take_more_set list i left below)
    ∙ ap (λ l. (take i list ++ left ∷ []) ++ each_once (reaching earlier run) l) (drop-set-lt (i + 1) list i left (omega arith))
    ∙ append_assoc (take i list) (left ∷ []) (each_once (reaching earlier run) rest)
    ∙ sym (ap (λ l. take i list ++ each_once earlier l) (drop_more list i d below))

-- a finding is on some runs where it is on one of them
any_made : (runs : List SectorRun) (one : Finding) → is_one_of (runs_findings runs) one ≡ list_any (λ run. is_one_of (run_findings run) one) runs
any_made [] one = refl
any_made (run ∷ runs) one = runs_is run runs one ∙ ap (λ b. is_one_of (run_findings run) one || b) (any_made runs one)

-- in whatever order they stand
pub same_permuted : (runs sorted : List SectorRun) (one : Finding) → IsPermutation runs sorted → is_one_of (runs_findings sorted) one
    ≡ is_one_of (runs_findings runs) one
same_permuted runs sorted one moved =
    any_made sorted one ∙ sym (list_any-IsPermutation (λ run. is_one_of (run_findings run) one) runs sorted moved) ∙ sym (any_made runs one)
