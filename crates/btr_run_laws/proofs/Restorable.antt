-- What a restore of the example needs.
use Rattle.std.proofs.Common.{◌≡◌, List, [], ◌∷◌, None, Result, Ok, refl, sym, subst}
use Rattle.std.specs.Prelude.{codes}
use Rattle.std.specs.Str.{chars, is_utf8}
use Rattle.std.specs.Char.{encode_utf8}
use Rattle.std.specs.Fmt.{digits}
use Rattle.btr_files.specs.declared.counts.Counts.{Counts}
use Rattle.btr_items.specs.Parts.{parts_within}
use Rattle.btr_node.specs.Block.{entry_count, entry_key, is_leaf, item_at, items}
use Rattle.btr_prog.specs.Maps.{Each, IsWhole}
use Rattle.btr_prog.specs.Prog.{exec, needs}
use Rattle.btr_prog.specs.Stages.{Early, Late}
use Rattle.btr_read.specs.Fate.{Agreed, fate}
use Rattle.btr_read.specs.declared.want.Want.TheVariants.{Tree}
use Rattle.btr_restore.specs.Committed.{AreWhole, IsClosed, EndsInOrder, IsIn, committed, want_of}
use Rattle.btr_restore.specs.Journey.{journey}
use Rattle.btr_super.specs.Super.{super_of}
use Rattle.btr_run.specs.Order.{IsAgreed}
use Rattle.btr_volume.specs.Maps.{VolumeWant, array_layout, table_or, volume_map}
use Rattle.btr_volume.specs.Start.{layout_by}
use Rattle.btr_volume.specs.Table.{table_scan}
use Rattle.btr_volume.specs.declared.fault.OpenFault.{OpenFault}
use Rattle.btr_run_laws.specs.Complete.{own_fault}
use Rattle.btr_run_laws.specs.Example.{MeetsRestores, committed_blocks, images, plan, sealed, start, table}
use Rattle.btr_run_laws.proofs.Repairable.{scan_ends}
use Rattle.btr_run_laws.proofs.Sealed.{agreed, begun, chunk_fate, file_fate, honest, root_fate}

-- the scan of the committed chunk tree comes to the table
stands : (exec (committed committed_blocks images (array_layout start)) (table_scan start)).ending ≡ Ok (Ok table)
unfolding is_leaf items entry_count item_at entry_key super_of sealed
stands = refl

-- the wants of the committed journey
abbrev file_needs : List VolumeWant
file_needs = Late table (Tree 1056768 7 0) ∷ Late table (Tree 1056768 7 0) ∷ Late table (Tree 1056768 7 0) ∷ Late table (Tree 1056768 7 0) ∷ []

-- all of them: the leaf of the chunk tree, twice that of the root tree, and four times that of the files
abbrev its_needs : List VolumeWant
its_needs = Early (Tree 1048576 7 0) ∷ Late table (Tree 1052672 7 0) ∷ Late table (Tree 1052672 7 0) ∷ file_needs

-- the committed journey needs exactly these
needs_are : needs (volume_map start (committed committed_blocks images)) (journey plan (codes "out") start) ≡ its_needs
unfolding is_leaf items entry_count item_at entry_key is_utf8 chars encode_utf8 digits parts_within super_of sealed
needs_are = refl

-- it ends with one file
ends : (exec (volume_map start (committed committed_blocks images)) (journey plan (codes "out") start)).ending
    ≡ Ok (Ok (record { dirs = 0; files = 1; skipped = 0 }))
unfolding is_leaf items entry_count item_at entry_key is_utf8 chars encode_utf8 digits parts_within super_of sealed
ends = refl

-- none of its blocks breaks a rule
well : own_fault (volume_map start (committed committed_blocks images)) (journey plan (codes "out") start) ≡ None
unfolding is_leaf items entry_count item_at entry_key is_utf8 chars encode_utf8 digits parts_within super_of sealed
well = refl

-- what they want was committed
held : Each (λ want. IsIn committed_blocks (want_of want)) its_needs
held = (λ e. refl, (λ e. refl, (λ e. refl, (λ e. refl, (λ e. refl, (λ e. refl, (λ e. refl, tt)))))))

-- the committed blocks hold all that is needed
closed : IsClosed plan (codes "out") images start committed_blocks table
unfolding super_of sealed
closed = record {
  stands = stands;
  root = refl;
  holds = subst (Each (λ want. IsIn committed_blocks (want_of want))) (sym needs_are) held;
  well = subst (EndsInOrder {A = Result Counts OpenFault}) (sym ends) tt;
}

-- each of them has a candidate that passes
abbrev Here : VolumeWant → Type 0
Here want = IsWhole (volume_map start (fate images) want)

-- the leaf of the chunk tree is there
chunks_here : Here (Early (Tree 1048576 7 0))
chunks_here = subst IsWhole (sym chunk_fate) tt

-- the leaf of the root tree is there
root_here : Here (Late table (Tree 1052672 7 0))
root_here = subst IsWhole (sym root_fate) tt

-- the leaf of the tree of files is there
file_here : Here (Late table (Tree 1056768 7 0))
file_here = subst IsWhole (sym file_fate) tt

-- each want of the committed journey has a candidate that passes
whole : AreWhole plan (codes "out") images start committed_blocks
whole = subst (Each Here) (sym needs_are) (chunks_here, (root_here, (root_here, (file_here, (file_here, (file_here, (file_here, tt)))))))

-- the copies agree, by the table of the images
agreed_so : IsAgreed images start
agreed_so = subst (λ e. Agreed images (layout_by start (table_or start.array e))) (sym scan_ends) agreed

-- the example meets what the clauses on restores ask for
pub meets_restores : MeetsRestores
meets_restores = record {
  begun = begun;
  honest = honest;
  closed = closed;
  well = well;
  whole = whole;
  agreed = agreed_so;
}
