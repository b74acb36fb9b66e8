-- Sectors that all pass a test, or none of which does.
use Rattle.std.proofs.Common.{◌≡◌, ℕ, zero, suc, ◌+◌, ◌*◌, ◌<◌, ◌≤◌, Bool, true, false, List, [], ◌∷◌, ◌++◌, map, filter_map, refl, sym, ap, ◌∙◌, arith}
use Rattle.std.proofs.lemmas.List.{map-append}
use Rattle.std.proofs.lemmas.List.Elements.{filter_map-append}
use Rattle.std.specs.List.{cons_option, range_with_len}
use Rattle.btr_findings.specs.declared.sector_rule.SectorRule.{SectorRule}
use Rattle.btr_findings.specs.Findings.{Adds, FoundSet, shown_sum, unless}
use Rattle.btr_findings.specs.Sectors.{sector_finding, sectors}
use Rattle.btr_findings.proofs.Adding.{adds_as, adds_then}
use Rattle.btr_check_sums.specs.Broken.{broken, broken_if}
use Rattle.btr_findings.proofs.SectorRuns.{range_join}

-- sectors from a later one on are those that are counted from its address
shifted : (start done first b : ℕ) → map (λ i. start + i * 4096) (range_with_len (first + done) b)
    ≡ map (λ i. start + done * 4096 + i * 4096) (range_with_len first b)
shifted start done first zero = refl
shifted start done first (suc b) =
    let here : start + (first + done) * 4096 ≡ start + done * 4096 + first * 4096 = omega arith in
    let next : first + done + 1 ≡ first + 1 + done = omega arith in
    ap (λ n. n ∷ map (λ i. start + i * 4096) (range_with_len (first + done + 1) b)) here
    ∙ ap (λ n. (start + done * 4096 + first * 4096) ∷ map (λ i. start + i * 4096) (range_with_len n b)) next
    ∙ ap (λ l. (start + done * 4096 + first * 4096) ∷ l) (shifted start done (first + 1) b)

-- sectors one behind another, in two parts
pub sectors_join : (start done more : ℕ) → sectors start (done + more) ≡ sectors start done ++ sectors (start + done * 4096) more
sectors_join start done more =
    ap (map (λ i. start + i * 4096)) (range_join 0 done more)
    ∙ map-append (λ i. start + i * 4096) (range_with_len 0 done) (range_with_len (0 + done) more)
    ∙ ap (λ l. sectors start done ++ l) (shifted start done 0 more)

module _ (rule : SectorRule) (keeps : ℕ → Bool) (start : ℕ) where
  -- so many sectors behind an address, from the one at a place on
  abbrev parts : ℕ → ℕ → List ℕ
  parts first count = map (λ i. start + i * 4096) (range_with_len first count)

  -- where all sectors pass there is no finding
  all_pass : (first count : ℕ) → ((i : ℕ) → first ≤ i → i < first + count → keeps (start + i * 4096) ≡ true)
      → filter_map (broken rule keeps) (parts first count) ≡ []
  all_pass first zero each = refl
  all_pass first (suc count) each =
      ap (λ b. cons_option (unless b (sector_finding rule (shown_sum (start + first * 4096))))
      (filter_map (broken rule keeps) (parts (first + 1) count))) (each first (omega arith) (omega arith))
      ∙ all_pass (first + 1) count (λ i from below. each i (omega (arith, from)) (omega (arith, below)))

  -- where no sector passes there is a finding on each
  none_pass : (first count : ℕ) → ((i : ℕ) → first ≤ i → i < first + count → keeps (start + i * 4096) ≡ false)
      → filter_map (broken rule keeps) (parts first count) ≡ map (λ addr. sector_finding rule (shown_sum addr)) (parts first count)
  none_pass first zero each = refl
  none_pass first (suc count) each =
      ap (λ b. cons_option (unless b (sector_finding rule (shown_sum (start + first * 4096))))
      (filter_map (broken rule keeps) (parts (first + 1) count))) (each first (omega arith) (omega arith))
      ∙ ap (λ l. sector_finding rule (shown_sum (start + first * 4096)) ∷ l)
      (none_pass (first + 1) count (λ i from below. each i (omega (arith, from)) (omega (arith, below))))

  -- where all stand the same, that says what the findings are
  pub same_pass : (held : Bool) (count : ℕ) → ((i : ℕ) → i < count → keeps (start + i * 4096) ≡ held)
      → filter_map (broken rule keeps) (sectors start count) ≡ broken_if held rule start count
  same_pass true count each = all_pass 0 count (λ i from below. each i (omega (arith, below)))
  same_pass false count each = none_pass 0 count (λ i from below. each i (omega (arith, below)))

-- the findings on some sectors more
pub broken_more : (rule : SectorRule) (keeps : ℕ → Bool) (start done more : ℕ) (held : Bool) (old now new : FoundSet)
    → ((i : ℕ) → i < more → keeps (start + done * 4096 + i * 4096) ≡ held)
    → Adds (filter_map (broken rule keeps) (sectors start done)) old now → Adds (broken_if held rule (start + done * 4096) more) now new
    → Adds (filter_map (broken rule keeps) (sectors start (done + more))) old new
broken_more rule keeps start done more held old now new each before here =
    let next = start + done * 4096 in
    adds_as (filter_map (broken rule keeps) (sectors start done) ++ broken_if held rule next more)
    (filter_map (broken rule keeps) (sectors start (done + more))) old new
    (ap (λ l. filter_map (broken rule keeps) (sectors start done) ++ l) (sym (same_pass rule keeps next held more each))
    ∙ sym (filter_map-append (broken rule keeps) (sectors start done) (sectors next more))
    ∙ ap (filter_map (broken rule keeps)) (sym (sectors_join start done more)))
    (adds_then (filter_map (broken rule keeps) (sectors start done)) (broken_if held rule next more) old now new before here)
