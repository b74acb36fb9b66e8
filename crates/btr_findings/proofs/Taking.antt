-- The first of findings that stand in two lists.
use Rattle.std.proofs.Common.{◌≡◌, ℕ, zero, suc, ◌+◌, ◌*◌, ◌^◌, ◌<◌, ◌≤◌, Bool, true, false, ◌||◌, cond, List, [], ◌∷◌, ◌++◌, length, take, drop}
use Rattle.std.proofs.Common.{get_or, slice_get, Option, Some, None, refl, sym, ap, subst, ◌∙◌, arith, add-zero, length-append, ltb}
use mir.Val.{bool_byte}
use Rattle.std.proofs.lemmas.Bool.Decides.{nat_tests}
use Rattle.std.proofs.lemmas.Grind.{flat_map-append}
use Rattle.std.proofs.lemmas.List.{append-nil, drop_all, drop_more, take_more}
use Rattle.std.proofs.lemmas.List.Folds.{list_any-append}
use Rattle.std.proofs.lemmas.List.FromFn.{get_or-map-range_with_len, length-map-range_with_len}
use Rattle.std.specs.List.{AllByRecursion}
use Rattle.std.specs.List.Sorted.{IsStrictlySortedBy}
use Rattle.std.specs.Ordering.{ordering_reverse}
use Rattle.std.specs.declared.cmp.Ordering.{Ordering}
use Rattle.std.specs.declared.cmp.Ordering.TheVariants.{Less, Equal, Greater}
use Rattle.btr_findings.specs.declared.finding.Finding.{Finding}
use Rattle.btr_findings.specs.declared.findings.RunPlace.{RunPlace}
use Rattle.btr_findings.specs.declared.findings.Step.{Step}
use Rattle.btr_findings.specs.declared.sector_run.SectorRun.{SectorRun}
use Rattle.btr_findings.specs.Findings.{TakesFirst, finding_cmp, in_order, is_one_of, is_same}
use Rattle.btr_findings.specs.Runs.{AreListed, finding_of, no_run, runs_left, sector_at, step_by, step_of}
use Rattle.btr_findings.specs.Sectors.{run_findings, runs_findings, sector_finding}
use Rattle.btr_findings.proofs.Sets.{all-weaker, finding_exact, finding_total, first_in_order, same_findings}
use Rattle.btr_findings.proofs.Onces.{all_append}

more_is : (n : ℕ) → suc n + 1 ≡ suc (n + 1)
more_is n = omega arith

-- a list has a first element and others behind it, or none
abbrev pub StartsWith : Option Finding → List Finding → List Finding → Type 0
StartsWith None list rest = (list ≡ []) × (rest ≡ [])
StartsWith (Some first) list rest = list ≡ first ∷ rest

-- what comes before all of a list
abbrev Before : Finding → List Finding → Type 0
Before first list = AllByRecursion (λ y. finding_cmp first y ≡ Less) list

-- the first of an ascending list comes before all the others
sorted_head : (first : Finding) (list rest : List Finding) → list ≡ first ∷ rest → IsStrictlySortedBy finding_cmp list → Before first rest
unfolding IsStrictlySortedBy
sorted_head first list rest is sorted = (subst (IsStrictlySortedBy finding_cmp) is sorted).0

-- the others of an ascending list ascend
sorted_rest : (first : Finding) (list rest : List Finding) → list ≡ first ∷ rest → IsStrictlySortedBy finding_cmp list → IsStrictlySortedBy finding_cmp rest
unfolding IsStrictlySortedBy
sorted_rest first list rest is sorted = (subst (IsStrictlySortedBy finding_cmp) is sorted).1

-- what comes before the first of an ascending list comes before all of it
before_all : (first second : Finding) (list rest : List Finding) → finding_cmp first second ≡ Less → list ≡ second ∷ rest
    → IsStrictlySortedBy finding_cmp list → Before first list
before_all first second list rest below is sorted =
    subst (Before first) (sym is) (
      below,
      all-weaker (λ y. finding_cmp second y ≡ Less) (λ y. finding_cmp first y ≡ Less)
          (λ y behind. finding_total.trans first second y below behind) rest (sorted_head second list rest is sorted),
    )

or_moves : (a b c : Bool) → (a || (b || c)) ≡ (b || (a || c))
or_moves true true c = refl
or_moves true false c = refl
or_moves false b c = refl

or_meets : (a b c : Bool) → ((a || b) || (a || c)) ≡ (a || (b || c))
or_meets true b c = refl
or_meets false b c = refl

-- the same set, whichever list one stands in
moved : (xs ys : List Finding) (one : Finding) → in_order (xs ++ one ∷ ys) ≡ in_order (one ∷ (xs ++ ys))
moved xs ys one = same_findings (xs ++ one ∷ ys) (one ∷ (xs ++ ys)) (λ q.
    list_any-append (is_same q) xs (one ∷ ys) ∙ or_moves (is_one_of xs q) (is_same q one) (is_one_of ys q)
    ∙ ap (λ b. is_same q one || b) (sym (list_any-append (is_same q) xs ys)))

-- a finding that stands in both lists is in their set as if it stood in one
met_twice : (xs ys : List Finding) (one : Finding) → in_order ((one ∷ xs) ++ one ∷ ys) ≡ in_order (one ∷ (xs ++ ys))
met_twice xs ys one = same_findings ((one ∷ xs) ++ one ∷ ys) (one ∷ (xs ++ ys)) (λ q.
    list_any-append (is_same q) (one ∷ xs) (one ∷ ys) ∙ or_meets (is_same q one) (is_one_of xs q) (is_one_of ys q)
    ∙ ap (λ b. is_same q one || b) (sym (list_any-append (is_same q) xs ys)))

module _ (singles singles' lines lines' : List Finding) where
  -- a step takes the first of the set of both lists, if there is one
  abbrev Takes : Step → Type 0
  Takes step = TakesFirst (in_order (singles ++ lines)) (in_order (cond step.single singles' singles ++ cond step.line lines' lines)) step.finding

  -- where both lists have a first one, the lesser is the first of all, or the one that stands in both
  both : (single line : Finding) (order : Ordering) → finding_cmp single line ≡ order → singles ≡ single ∷ singles' → lines ≡ line ∷ lines'
      → IsStrictlySortedBy finding_cmp singles → IsStrictlySortedBy finding_cmp lines → Takes (step_by single line order)
  both single line Less below is is' up up' =
      ap (λ l. in_order (l ++ lines)) is
      ∙ first_in_order single (singles' ++ lines) (all_append (λ y. finding_cmp single y ≡ Less) singles' lines
      (sorted_head single singles singles' is up) (before_all single line lines lines' below is' up'))
  both single line Equal tied is is' up up' =
      let same : single ≡ line = finding_exact single line tied in
      ap (λ l. in_order (l ++ lines)) (is ∙ ap (λ f. f ∷ singles') same)
      ∙ ap (λ l. in_order ((line ∷ singles') ++ l)) is'
      ∙ met_twice singles' lines' line
      ∙ first_in_order line (singles' ++ lines') (all_append (λ y. finding_cmp line y ≡ Less) singles' lines'
      (subst (λ f. Before f singles') same (sorted_head single singles singles' is up)) (sorted_head line lines lines' is' up'))
  both single line Greater above is is' up up' =
      let below : finding_cmp line single ≡ Less = finding_total.antisymm line single ∙ ap ordering_reverse above in
      ap (λ l. in_order (singles ++ l)) is'
      ∙ moved singles lines' line
      ∙ first_in_order line (singles ++ lines') (all_append (λ y. finding_cmp line y ≡ Less) singles lines'
      (before_all line single singles singles' below is up) (sorted_head line lines lines' is' up'))

  -- the lesser of the first ones is the first of all
  pub takes : (single line : Option Finding) → StartsWith single singles singles' → StartsWith line lines lines'
      → IsStrictlySortedBy finding_cmp singles → IsStrictlySortedBy finding_cmp lines → Takes (step_of single line)
  takes None None is is' up up' =
      let none : in_order (singles ++ lines) ≡ [] = ap (λ l. in_order (l ++ lines)) is.0 ∙ ap in_order is'.0 in
      (none, none)
  takes None (Some line) is is' up up' =
      ap (λ l. in_order (l ++ lines)) is.0 ∙ ap in_order is' ∙ first_in_order line lines' (sorted_head line lines lines' is' up')
      ∙ ap (λ l. line ∷ in_order (l ++ lines')) (sym is.0)
  takes (Some single) None is is' up up' =
      ap (λ l. in_order (l ++ lines)) is
      ∙ first_in_order single (singles' ++ lines) (all_append (λ y. finding_cmp single y ≡ Less) singles' lines
      (sorted_head single singles singles' is up) (subst (Before single) (sym is'.0) tt))
  takes (Some single) (Some line) is is' up up' = both single line (finding_cmp single line) refl is is' up up'

-- what is left ascends, and is no longer
pub ascends : (first : Option Finding) (list rest : List Finding) (taken : Bool) → StartsWith first list rest → IsStrictlySortedBy finding_cmp list
    → IsStrictlySortedBy finding_cmp (cond taken rest list)
ascends first list rest false is up = up
ascends None list rest true is up = subst (IsStrictlySortedBy finding_cmp) (is.0 ∙ sym is.1) up
ascends (Some first) list rest true is up = sorted_rest first list rest is up

-- a list of which the first was taken, or not, is no longer than it was
pub no_longer : (first : Option Finding) (list rest : List Finding) (taken : Bool) → StartsWith first list rest → length (cond taken rest list) ≤ length list
no_longer first list rest false is = omega arith
no_longer None list rest true is = let none : length rest ≡ length list = ap length (is.1 ∙ sym is.0) in omega (arith, none)
no_longer (Some first) list rest true is = let more : length list ≡ length (first ∷ rest) = ap length is in omega (arith, more)

-- the first of the single findings that are left
pub starts_single : (list : List Finding) (at : ℕ) → StartsWith (slice_get list at) (drop at list) (drop (at + 1) list)
starts_single [] zero = (refl, refl)
starts_single [] (suc at) = (refl, ap (λ n. drop n []) (more_is at))
starts_single (one ∷ list) zero = refl
starts_single (one ∷ list) (suc at) = subst (λ n. StartsWith (slice_get list at) (drop at list) (drop n (one ∷ list))) (sym (more_is at))
    (starts_single list at)

-- how many findings a run has
pub count_of : (run : SectorRun) → length (run_findings run) ≡ run.count
count_of run = length-map-range_with_len (λ i. sector_finding run.rule (i * 4096)) run.first run.count

-- and of the sectors
starts_here : (run : SectorRun) (runs : List SectorRun) (done : ℕ) → done < run.count → runs_left (run ∷ runs) done
    ≡ sector_finding run.rule ((run.first + done) * 4096) ∷ runs_left (run ∷ runs) (done + 1)
starts_here run runs done below =
    ap (λ l. l ++ runs_findings runs) (drop_more (run_findings run) done (sector_finding run.rule 0) (omega (arith, below, count_of run)))
    ∙ ap (λ one. one ∷ runs_left (run ∷ runs) (done + 1)) (get_or-map-range_with_len (λ i. sector_finding run.rule (i * 4096)) run.first run.count
    done (run.first + done) (sector_finding run.rule 0) below refl)

-- the first of the findings on runs that are left
pub starts_line : (runs : List SectorRun) (at done : ℕ) → (at < length runs → done < (get_or runs at no_run).count)
    → StartsWith (finding_of done (slice_get runs at)) (runs_left (drop at runs) done) (runs_left (drop at runs) (done + 1))
starts_line [] zero done unfinished = (refl, refl)
starts_line [] (suc at) done unfinished = (refl, refl)
starts_line (run ∷ runs) zero done unfinished =
    let below : done < run.count = unfinished (omega arith) in
    let tests : ltb done run.count ≡ true = grind (arith, nat_tests) in
    subst (λ b. StartsWith (cond b (Some (sector_finding run.rule ((run.first + done) * 4096))) None) (runs_left (run ∷ runs) done)
    (runs_left (run ∷ runs) (done + 1))) (sym tests) (starts_here run runs done below)
starts_line (run ∷ runs) (suc at) done unfinished = starts_line runs at done (λ below. unfinished (omega (arith, below)))

-- what is left where one more is taken, or none
pub singles_left : (taken : Bool) (list : List Finding) (at more : ℕ) → more ≡ bool_byte taken → drop (at + more) list
    ≡ cond taken (drop (at + 1) list) (drop at list)
singles_left true list at more is = ap (λ n. drop (at + n) list) is
singles_left false list at more is = ap (λ n. drop (at + n) list) is ∙ ap (λ n. drop n list) (add-zero at)

-- what is left of the findings on runs where one more is done, or none
pub lines_left : (taken : Bool) (runs : List SectorRun) (done more : ℕ) → more ≡ bool_byte taken → runs_left runs (done + more)
    ≡ cond taken (runs_left runs (done + 1)) (runs_left runs done)
lines_left true runs done more is = ap (λ n. runs_left runs (done + n)) is
lines_left false runs done more is = ap (λ n. runs_left runs (done + n)) is ∙ ap (runs_left runs) (add-zero done)

-- how many findings runs have
pub count_more : (runs : List SectorRun) (i : ℕ) (d : SectorRun) → i < length runs → length (runs_findings (take (i + 1) runs))
    ≡ length (runs_findings (take i runs)) + (get_or runs i d).count
count_more runs i d below =
    ap (λ l. length (runs_findings l)) (take_more runs i d below)
    ∙ ap length (flat_map-append run_findings (take i runs) (get_or runs i d ∷ [])
    ∙ ap (λ l. runs_findings (take i runs) ++ l) (append-nil (run_findings (get_or runs i d))))
    ∙ length-append (runs_findings (take i runs)) (run_findings (get_or runs i d))
    ∙ ap (λ n. length (runs_findings (take i runs)) + n) (count_of (get_or runs i d))

-- nothing is done yet
pub none_done : (runs : List SectorRun) → runs_left runs 0 ≡ runs_findings runs
none_done [] = refl
none_done (run ∷ runs) = refl

-- a run that is done is left for the next
pub run_done : (runs : List SectorRun) (at done : ℕ) (d : SectorRun) → at < length runs → (get_or runs at d).count ≤ done
    → runs_left (drop (at + 1) runs) 0 ≡ runs_left (drop at runs) done
run_done runs at done d below all =
    none_done (drop (at + 1) runs)
    ∙ ap (λ l. l ++ runs_findings (drop (at + 1) runs)) (sym
    (drop_all done (run_findings (get_or runs at d)) (omega (arith, all, count_of (get_or runs at d)))))
    ∙ ap (λ l. runs_left l done) (sym (drop_more runs at d below))

module _ (single : List Finding) (runs : List SectorRun) (at : ℕ) (place : RunPlace) (step : Step) (more next : ℕ) where
  -- the single findings that are left
  abbrev front : List Finding
  front = drop at single

  -- the findings on sectors that are left
  abbrev lines_in : List Finding
  lines_in = runs_left (drop place.run runs) place.done

  -- the run at hand, if there is one, has a sector that isn't done
  abbrev pub IsOpen : Type 0
  IsOpen = place.run < length runs → place.done < (get_or runs place.run no_run).count

  -- the step is the one for the first single finding and the first on a sector
  abbrev pub IsStep : Type 0
  IsStep = step ≡ step_of (slice_get single at) (sector_at runs place)

  -- the single findings that are left behind the step
  singles_is : more ≡ bool_byte step.single → drop (at + more) single ≡ cond step.single (drop (at + 1) single) front
  singles_is is = singles_left step.single single at more is

  -- the findings on sectors that are left behind the step
  lines_is : next ≡ bool_byte step.line → runs_left (drop place.run runs) (place.done + next)
      ≡ cond step.line (runs_left (drop place.run runs) (place.done + 1)) lines_in
  lines_is is = lines_left step.line (drop place.run runs) place.done next is

  -- what is left is listed as before
  pub next_listed : IsOpen → more ≡ bool_byte step.single → next ≡ bool_byte step.line → AreListed front lines_in runs
      → AreListed (drop (at + more) single) (runs_left (drop place.run runs) (place.done + next)) runs
  next_listed unfinished is is' listed =
      let first = starts_single single at in
      let second = starts_line runs place.run place.done unfinished in
      let shorter : length (drop (at + more) single) ≤ length front =
      subst (λ (l : List Finding). length l ≤ length front) (sym (singles_is is))
      (no_longer (slice_get single at) front (drop (at + 1) single) step.single first) in
      let shorter' : length (runs_left (drop place.run runs) (place.done + next)) ≤ length lines_in =
      subst (λ (l : List Finding). length l ≤ length lines_in) (sym (lines_is is'))
      (no_longer (sector_at runs place) lines_in (runs_left (drop place.run runs) (place.done + 1)) step.line second) in
      record {
        single_ascend = subst (IsStrictlySortedBy finding_cmp) (sym (singles_is is))
            (ascends (slice_get single at) front (drop (at + 1) single) step.single first listed.single_ascend);
        lines_ascend = subst (IsStrictlySortedBy finding_cmp) (sym (lines_is is'))
            (ascends (sector_at runs place) lines_in (runs_left (drop place.run runs) (place.done + 1)) step.line second listed.lines_ascend);
        within = listed.within;
        few = let few : length front + length lines_in < 2 ^ 64 = listed.few in omega (arith, few, shorter, shorter');
      }

  -- and the first of all is taken
  pub next_takes : IsOpen → IsStep → more ≡ bool_byte step.single → next ≡ bool_byte step.line → AreListed front lines_in runs
      → TakesFirst (in_order (front ++ lines_in)) (in_order (drop (at + more) single ++ runs_left (drop place.run runs) (place.done + next))) step.finding
  next_takes unfinished stepped is is' listed =
      let rest = drop (at + 1) single in
      let rest' = runs_left (drop place.run runs) (place.done + 1) in
      let all : Takes front rest lines_in rest' step =
      subst (Takes front rest lines_in rest') (sym stepped)
      (takes front rest lines_in rest' (slice_get single at) (sector_at runs place) (starts_single single at)
      (starts_line runs place.run place.done unfinished) listed.single_ascend listed.lines_ascend) in
      subst (λ (l : List Finding). TakesFirst (in_order (front ++ lines_in)) (in_order (l ++ runs_left (drop place.run runs) (place.done + next)))
      step.finding) (sym (singles_is is))
      (subst (λ (l : List Finding). TakesFirst (in_order (front ++ lines_in)) (in_order (cond step.single rest front ++ l)) step.finding)
      (sym (lines_is is')) all)
