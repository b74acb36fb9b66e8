-- Sets of findings that grow.
use Rattle.std.proofs.Common.{◌≡◌, ℕ, ◌+◌, ◌*◌, Bool, true, false, ◌||◌, List, [], ◌∷◌, ◌++◌, map, Result, Ok, Err, IfOk, refl, sym, ap, ◌∙◌, arith}
use Rattle.std.proofs.lemmas.List.{map-append}
use Rattle.std.proofs.lemmas.List.FromFn.{map-range_with_len_more}
use Rattle.std.proofs.lemmas.List.Folds.{list_any-append}
use Rattle.std.specs.BTreeSet.{BTreeSet, insert_key}
use Rattle.btr_findings.specs.declared.finding.Finding.{Finding}
use Rattle.btr_findings.specs.declared.sector_rule.SectorRule.{SectorRule}
use Rattle.btr_findings.specs.declared.sector_run.SectorRun.{SectorRun}
use Rattle.btr_findings.specs.Findings.{Adds, FoundSet, finding_cmp, has, is_one_of, is_same, shown_sum}
use Rattle.btr_findings.specs.Runs.{found_set}
use Rattle.btr_findings.specs.Sectors.{run_findings, runs_findings, sector_finding, sector_findings, sectors}
use Rattle.btr_findings.proofs.Sets.{any-insert, finding_total}
use Rattle.btr_findings.proofs.Onces.{or_regroups}

-- where a call answers, what follows of its answer holds
pub if_ok : {A E : Type 0} (r : Result A E) (P Q : A → Type 0) → ((a : A) → P a → Q a) → IfOk r P → IfOk r Q
if_ok (Ok a) P Q f h = f a h
if_ok (Err e) P Q f h = h

or_last : (a b c : Bool) → (a || (b || c)) ≡ (c || (a || b))
or_last true b true = refl
or_last true b false = refl
or_last false true true = refl
or_last false true false = refl
or_last false false true = refl
or_last false false false = refl

or_turned : (a b c : Bool) → (a || (b || c)) ≡ ((b || (a || false)) || c)
or_turned true true c = refl
or_turned true false c = refl
or_turned false true c = refl
or_turned false false c = refl

-- a single finding was put into a set
pub single_put : (old new : BTreeSet Finding) (runs : List SectorRun) (finding : Finding) → new.keys ≡ insert_key finding_cmp old.keys finding
    → (one : Finding) → has (found_set new runs) one ≡ (is_same one finding || has (found_set old runs) one)
single_put old new runs finding keys one =
    list_any-append (is_same one) new.keys (runs_findings runs)
    ∙ ap (λ l. is_one_of l one || is_one_of (runs_findings runs) one) keys
    ∙ ap (λ b. b || is_one_of (runs_findings runs) one) (any-insert finding_cmp finding_total one old.keys finding)
    ∙ or_regroups (is_same one finding) (is_one_of old.keys one) (is_one_of (runs_findings runs) one)
    ∙ ap (λ b. is_same one finding || b) (sym (list_any-append (is_same one) old.keys (runs_findings runs)))

-- a run was
pub run_put : (single : BTreeSet Finding) (old new : List SectorRun) (run : SectorRun) (findings : List Finding) → runs_findings new
    ≡ runs_findings old ++ run_findings run → run_findings run ≡ findings
    → Adds findings (found_set single old) (found_set single new)
run_put single old new run findings more is one =
    list_any-append (is_same one) single.keys (runs_findings new)
    ∙ ap (λ l. is_one_of single.keys one || is_one_of l one) (more ∙ ap (λ l. runs_findings old ++ l) is)
    ∙ ap (λ b. is_one_of single.keys one || b) (list_any-append (is_same one) (runs_findings old) findings)
    ∙ or_last (is_one_of single.keys one) (is_one_of (runs_findings old) one) (is_one_of findings one)
    ∙ ap (λ b. is_one_of findings one || b) (sym (list_any-append (is_same one) single.keys (runs_findings old)))

-- the findings on so many sectors, and on one more
findings_more : (rule : SectorRule) (start i : ℕ) → sector_findings rule start (i + 1) ≡ sector_findings rule start i
    ++ sector_finding rule (shown_sum (start + i * 4096)) ∷ []
findings_more rule start i =
    ap (map (λ addr. sector_finding rule (shown_sum addr))) (map-range_with_len_more (λ k. start + k * 4096) 0 i i (omega arith))
    ∙ map-append (λ addr. sector_finding rule (shown_sum addr)) (sectors start i) ((start + i * 4096) ∷ [])

-- the finding on one sector more was
pub sectors_more : (rule : SectorRule) (start i : ℕ) (finding : Finding) (old now new : FoundSet) → finding
    ≡ sector_finding rule (shown_sum (start + i * 4096)) → Adds (sector_findings rule start i) old now
    → ((one : Finding) → has new one ≡ (is_same one finding || has now one)) → Adds (sector_findings rule start (i + 1)) old new
sectors_more rule start i finding old now new is before here one =
    here one
    ∙ ap (λ b. is_same one finding || b) (before one)
    ∙ or_turned (is_same one finding) (is_one_of (sector_findings rule start i) one) (has old one)
    ∙ ap (λ f. (is_one_of (sector_findings rule start i) one || is_one_of (f ∷ []) one) || has old one) is
    ∙ ap (λ b. b || has old one) (sym (list_any-append (is_same one) (sector_findings rule start i) (sector_finding rule (shown_sum (start + i * 4096)) ∷ [])))
    ∙ ap (λ l. is_one_of l one || has old one) (sym (findings_more rule start i))
