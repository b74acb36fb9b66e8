-- What is kept of the items that are met.
use Rattle.std.proofs.Common.{◌≡◌, ℕ, List, [], ◌∷◌, fold, refl, ◌∙◌}
use Rattle.btr_base.specs.declared.kind.SumKind.{SumKind}
use Rattle.btr_items.specs.declared.sum_run.SumRun.{SumRun}
use Rattle.btr_check_space.proofs.Collecting.{collects}
use Rattle.btr_check_space.specs.Items.{with_mark}
use Rattle.btr_tour.specs.Tour.{Mark}
use Rattle.btr_check_sums.specs.Items.{runs_step, uses_step, run_in, loose_in, used_in, KeepsRuns, KeepsUses}
use Rattle.btr_check_sums.specs.declared.used_range.UsedRange.{UsedRange}

-- of the checksum tree the kind is kept as it is, and the runs as marks come
runs_kept : (kind : SumKind) (runs : List SumRun) (marks : List Mark)
    → fold runs_step (record { kind = kind; runs = runs }) marks ≡ record { kind = kind; runs = fold (with_mark (run_in kind)) runs marks }
runs_kept kind runs [] = refl
runs_kept kind runs (mark ∷ marks) = runs_kept kind (with_mark (run_in kind) runs mark) marks

-- of a tour of the checksum tree all runs among its items are kept
pub keeps_runs : KeepsRuns
keeps_runs kind marks = runs_kept kind [] marks ∙ (λ i. record { kind = kind; runs = collects (run_in kind) marks i })

-- of a tree of files two lists are kept, each as marks come
uses_kept : (loose : List ℕ) (used : List UsedRange) (marks : List Mark)
    → fold uses_step (record { loose = loose; used = used }) marks
    ≡ record { loose = fold (with_mark loose_in) loose marks; used = fold (with_mark used_in) used marks }
uses_kept loose used [] = refl
uses_kept loose used (mark ∷ marks) = uses_kept (with_mark loose_in loose mark) (with_mark used_in used mark) marks

-- of a tour of a tree of files all inodes without checksums and all used ranges among its items are kept
pub keeps_uses : KeepsUses
keeps_uses marks = uses_kept [] [] marks ∙ (λ i. record { loose = collects loose_in marks i; used = collects used_in marks i })
