use Rattle.std.proofs.Common.{◌≡◌, ◌||◌, ◌+◌, ◌<◌, ◌^◌, ◌++◌, List, drop, length, take, sym, ap, subst, ◌∙◌, arith, rules}
use Rattle.std.proofs.lemmas.Grind.{common_steps}
use Rattle.std.proofs.lemmas.List.Folds.{list_any-append}
use Rattle.std.proofs.lemmas.List.Sorted.{All-permutation, answers_always}
use Rattle.std.specs.List.{All}
use Rattle.std.specs.List.Sorted.{IsSortedByKey, IsStrictlySortedBy}
use Rattle.btr_findings.specs.declared.finding.Finding.{Finding}
use Rattle.btr_findings.specs.declared.sector_run.SectorRun.{SectorRun}
use Rattle.btr_findings.specs.Findings.{finding_cmp, in_order, is_one_of, is_same}
use Rattle.btr_findings.specs.Runs.{AreListed, IsSoundRun, each_once, no_run, runs_left}
use Rattle.btr_findings.specs.Sectors.{runs_findings}
use Rattle.btr_findings.proofs.Onces.{key_of, once_same, once_sorted, once_within, same_permuted}
use Rattle.btr_findings.proofs.Sets.{same_findings}
use Rattle.btr_findings.proofs.Taking.{none_done}
use Rattle.btr_findings.proofs.findings.Findings.of.Goals as goal

pub take_once-requires : goal.take_once-requires
take_once-requires c = subst (All IsSoundRun) (sym c.deref_mut.ensures.value)
    (All-permutation IsSoundRun c.args.runs.items c.sort_unstable_by_key.new.self.items c.sort_unstable_by_key.ensures.permutation c.requires.runs)

-- the runs as they are kept
kept_is : (c : goal.In_ok-are_few) → take c.sort_unstable_by_key.new.self.len
    (c.take_once.new.runs ++ drop (length c.take_once.new.runs) c.sort_unstable_by_key.new.self.items) ≡ each_once no_run c.sort_unstable_by_key.new.self.items
kept_is c =
    let whole : take c.sort_unstable_by_key.new.self.len
    (c.take_once.new.runs ++ drop (length c.take_once.new.runs) c.sort_unstable_by_key.new.self.items) ≡ c.take_once.new.runs =
    grind (arith, common_steps) in
    whole ∙ c.take_once.ensures ∙ ap (each_once no_run) c.deref_mut.ensures.value

sorted_is : (c : goal.In_ok-are_few) → IsSortedByKey key_of finding_cmp c.sort_unstable_by_key.new.self.items
sorted_is c = c.sort_unstable_by_key.ensures.sorted key_of (answers_always _ _ _ (λ f a r g h. search rules))

pub invariant_of-result : goal.invariant_of-result
invariant_of-result c =
    let single = c.args.single.items in
    let sorted = c.sort_unstable_by_key.new.self.items in
    let once = each_once no_run sorted in
    let kept : All IsSoundRun sorted = All-permutation IsSoundRun c.args.runs.items sorted c.sort_unstable_by_key.ensures.permutation c.requires.runs in
    let few : length single + length (runs_findings once) < 2 ^ 64 =
    subst (λ (l : List SectorRun). length single + length (runs_findings l) < 2 ^ 64) (kept_is c)
    (subst (λ (l : List SectorRun). length single + length (runs_findings l) < 2 ^ 64) c.as_slice-2.ensures.value
    (subst (λ (l : List Finding). length l + length (runs_findings c.as_slice-2.result.now) < 2 ^ 64) c.as_slice.ensures.value c.in_ok-are_few.ensures)) in
    subst (λ (l : List SectorRun). AreListed single (runs_left l 0) l) (sym (kept_is c))
    (record {
      single_ascend = c.requires.single;
      lines_ascend = subst (IsStrictlySortedBy finding_cmp) (sym (none_done once)) (once_sorted sorted (sorted_is c) kept);
      within = once_within sorted kept;
      few = subst (λ (l : List Finding). length single + length l < 2 ^ 64) (sym (none_done once)) few;
    })

pub returns : goal.returns
returns c =
    let single = c.args.single.items in
    let runs = c.args.runs.items in
    let sorted = c.sort_unstable_by_key.new.self.items in
    let once = each_once no_run sorted in
    ap (λ (l : List SectorRun). in_order (single ++ runs_left l 0)) (kept_is c)
    ∙ ap (λ (l : List Finding). in_order (single ++ l)) (none_done once)
    ∙ same_findings (single ++ runs_findings once) (single ++ runs_findings runs) (λ one.
    list_any-append (is_same one) single (runs_findings once)
    ∙ ap (λ b. is_one_of single one || b) (once_same sorted one (sorted_is c) ∙ same_permuted runs sorted one c.sort_unstable_by_key.ensures.permutation)
    ∙ sym (list_any-append (is_same one) single (runs_findings runs)))
