-- Where the images are honest the candidates of the root tree's root block agree.
use Rattle.std.proofs.Common.{◌≡◌, inl, inr, ℕ, List, Option, Some, None, IsSome, Result, Ok, Err, refl, sym, ap, ◌∙◌}
use Rattle.std.proofs.lemmas.Bool.{false≢true}
use Rattle.btr_chunk.specs.declared.chunk.Chunk.{Chunk}
use Rattle.btr_files.specs.declared.plan.RestorePlan.{RestorePlan}
use Rattle.btr_prog.specs.Prog.{BlockMap, Run, exec}
use Rattle.btr_prog.specs.Maps.{cut}
use Rattle.btr_prog.proofs.Lost.{missing}
use Rattle.btr_prog.proofs.Quieting.{quiet_ends}
use Rattle.btr_prog.proofs.Runs.{cut_law, cut-whole}
use Rattle.btr_read.proofs.Compared.{disagreeing-agreed}
use Rattle.btr_read.specs.Fate.{Agree, Fault, fate}
use Rattle.btr_read.specs.declared.want.Want.{Want}
use Rattle.btr_volume.specs.Maps.{array_layout, diverged_at, roots_differ}
use Rattle.btr_volume.specs.Start.{Images, Start, layout_by}
use Rattle.btr_volume.specs.Table.{TableResult, table_scan}
use Rattle.btr_volume.specs.Tree.{root_want}
use Rattle.btr_restore.specs.Committed.{Commit, IsHonest, IsClosed, committed}
use Rattle.btr_listing.specs.Step.{Step}
use Rattle.btr_restore.proofs.Held.{scan, scan_within}

module _ (plan : RestorePlan) (dest : List ℕ) (images : Images) (start : Start) (C : Commit) (table : List Chunk)
    (honest : IsHonest C images (layout_by start table)) (closed : IsClosed plan dest images start C table) where
  -- the candidates that pass are the committed block
  roots_agree : (block : Option (List ℕ)) → C (root_want start.sup) ≡ block → IsSome block → Agree images (layout_by start table) (root_want start.sup)
  roots_agree None is some a b in_a in_b = absurd (false≢true some)
  roots_agree (Some bytes) is some a b in_a in_b = honest (root_want start.sup) bytes a is in_a ∙ sym (honest (root_want start.sup) bytes b is in_b)

  -- what the images have of a want, as the system array finds it
  abbrev Here : BlockMap Want Fault
  Here = fate images (array_layout start)

  -- what the committed blocks have of a want, as the system array finds it
  abbrev There : BlockMap Want Fault
  There = committed C images (array_layout start)

  -- the run of the scan of the chunk tree over the committed blocks
  abbrev Scanned : Run Want Fault Step TableResult
  Scanned = exec There (scan plan dest images start C table honest closed)

  -- under the committed table the candidates of the root tree's root block don't differ
  by_table : (ending : Result TableResult Fault) → ending ≡ Ok (Ok table) → roots_differ images start ending ≡ None
  by_table ending is = ap (roots_differ images start) is
      ∙ disagreeing-agreed images (layout_by start table) (root_want start.sup) (roots_agree (C (root_want start.sup)) refl closed.root)

  -- where a scan comes to a fault there is no table to compare candidates by
  by_fault : (ending : Result TableResult Fault) (fault : Fault) → ending ≡ Err fault → roots_differ images start ending ≡ None
  by_fault ending fault is = ap (roots_differ images start) is

  -- over honest images whose committed blocks hold all that restore needs, the candidates of the root tree's root block agree
  pub none_diverged : diverged_at images start ≡ None
  none_diverged =
      let p = scan plan dest images start C table honest closed in
      let cut_here : exec Here p ≡ cut Here Scanned = cut_law Here There p (scan_within plan dest images start C table honest closed) in
      let ends : (exec Here (table_scan start)).ending ≡ (cut Here Scanned).ending = sym (quiet_ends Step Here (table_scan start))
      ∙ ap (λ (r : Run Want Fault Step TableResult). r.ending) cut_here in
      elim (missing Here Scanned.marks Scanned.ending) [
        | inl whole ↦
            by_table (exec Here (table_scan start)).ending
            (ends ∙ ap (λ (r : Run Want Fault Step TableResult). r.ending) (cut-whole Here Scanned whole) ∙ quiet_ends Step There (table_scan start)
            ∙ closed.stands)
        | inr m ↦ by_fault (exec Here (table_scan start)).ending m.fault (ends ∙ m.ending)
      ]
