-- Runs of checksums that were collected.
use Rattle.std.proofs.Common.{◌≡◌, List, [], fold, Option, ap, ◌∙◌}
use Rattle.btr_base.specs.declared.kind.SumKind.{SumKind}
use Rattle.btr_items.specs.declared.sum_run.SumRun.{SumRun}
use Rattle.btr_findings.proofs.Adding.{adds_as}
use Rattle.btr_findings.specs.Findings.{Adds, FoundSet}
use Rattle.btr_findings.specs.declared.extent.Extent.{Extent}
use Rattle.btr_check_sums.specs.Items.{RunsMet, KeepsRuns, runs_step, runs_in}
use Rattle.btr_check_sums.specs.Sums.{sum_findings}
use Rattle.btr_volume.specs.declared.root.TreeRoot.{TreeRoot}
use Rattle.btr_check.proofs.Passes.{marks_items}
use Rattle.btr_check.specs.Data.{sum_runs}
use Rattle.btr_check.specs.Families.{IsRunsOf, found_on_sums}
use Rattle.btr_check.specs.Filesystem.{Filesystem, extents, kind_of_sums}
use Rattle.btr_check.specs.Passes.{Lists, marks_if}
use Rattle.btr_check.specs.Trees.{last_of, items_if}

module _ (fs : Filesystem) where
  -- what a visit of the checksum tree kept is its runs of checksums
  pub runs_are : KeepsRuns → (trees : List TreeRoot) (tree : Option TreeRoot) (kind : SumKind) (none met : RunsMet) → Lists trees fs → tree ≡ last_of 7 trees
      → kind ≡ kind_of_sums fs → none ≡ record { kind = kind; runs = [] }
      → met ≡ fold runs_step none (marks_if fs.blocks tree) → IsRunsOf fs met
  runs_are law trees tree kind none met lists is same empty folded =
      ap (λ (m : RunsMet). m.runs) (folded ∙ ap (λ n. fold runs_step n (marks_if fs.blocks tree)) (empty ∙ (λ i. record { kind = same i; runs = [] }))
      ∙ law (kind_of_sums fs) (marks_if fs.blocks tree))
      ∙ ap (runs_in (kind_of_sums fs)) (marks_items fs.blocks tree) ∙ ap (λ t. runs_in (kind_of_sums fs) (items_if fs.blocks t)) (is ∙ ap (last_of 7) lists)

  -- what was put of runs and extents is what is found on checksums
  pub sums_put : (run_list : List SumRun) (extent_list : List Extent) (a b : FoundSet) → run_list ≡ sum_runs fs → extent_list ≡ extents fs
      → Adds (sum_findings run_list extent_list) a b → Adds (found_on_sums fs) a b
  sums_put run_list extent_list a b one two adds = adds_as (sum_findings run_list extent_list) (found_on_sums fs) a b (λ i. sum_findings (one i) (two i)) adds
