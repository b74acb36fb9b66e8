-- What an item of a tree comes to.
use Rattle.std.proofs.Common.{◌≡◌, ℕ, ◌+◌, ◌-◌, ◌^◌, ◌<◌, ◌≤◌, Bool, true, false, cond, not}
use Rattle.std.proofs.Common.{List, length, Option, Result, Ok, Err, sym, ap, ◌∙◌, subst, arith}
use Rattle.std.proofs.Common.{eq-eqb}
use Rattle.std.specs.Prelude.{◌==◌, ◌&&◌, ◌||◌, nat_le, nat_lt, slice_index}
use Rattle.std.proofs.lemmas.Bool.{ne_eqb}
use Rattle.std.proofs.lemmas.Bool.Decides.{nat_tests}
use Rattle.btr_base.specs.Field.{number_at}
use Rattle.btr_items.specs.FileExtent.{file_extent_of, end_of, place_fits, is_range, holds, shape_of}
use Rattle.btr_items.specs.Form.{fields_if, map_ok}
use Rattle.btr_items.specs.Key.{is_aligned}
use Rattle.btr_items.specs.declared.fault.ItemFault.{ItemFault}
use Rattle.btr_items.specs.declared.file_extent.FileExtent.{FileExtent}
use Rattle.btr_items.specs.declared.shape.Shape.{Shape}
use Rattle.btr_items.specs.declared.shape.Shape.TheVariants as shape
use Rattle.btr_prog.specs.Prog.{Return, Stop}
use Rattle.btr_read.specs.Fate as fate
use Rattle.btr_walk.specs.Le.{TreeItem}
use Rattle.btr_volume.specs.Lookup.{Program, formed}
use Rattle.btr_volume.specs.declared.root.TreeRoot.{TreeRoot}
use Rattle.btr_files.proofs.Extending.{below, both, of_fields, of_map}
use Rattle.btr_resolve.specs.Owning.{end_in, extent_met, item_met, owner_if, position_in, FitsFile}
use Rattle.btr_resolve.specs.declared.owner.Met.{Met}
use Rattle.btr_resolve.specs.declared.owner.Owner.{Owner}

-- ---- an extent ends below 2^64

module _ (offset : ℕ) (body : List ℕ) where
  -- how many bytes of the file the extent in the body covers, if it isn't inline
  abbrev len : ℕ
  len = number_at 8 45 body

  -- an extent whose place keeps its form ends below 2^64 in the file
  placed_fits : place_fits offset body ≡ true → offset + len < 2 ^ 64
  placed_fits h =
      let addr = number_at 8 21 body in
      let disk_len = number_at 8 29 body in
      let skip = number_at 8 37 body in
      let packed = not (slice_index body 16 == 0) in
      let whole = length body == 53 in
      let e = both (whole && is_range offset len && not (len == 0) && is_range addr disk_len)
      ((addr == 0) || (is_aligned skip && (packed || holds disk_len skip len))) h in
      let d = both (whole && is_range offset len && not (len == 0)) (is_range addr disk_len) e.0 in
      let c = both (whole && is_range offset len) (not (len == 0)) d.0 in
      let b = both whole (is_range offset len) c.0 in
      below (offset + len) (2 ^ 64) (both (is_aligned offset && is_aligned len) (nat_lt (offset + len) (2 ^ 64)) b.1).1

  abbrev regular : Shape
  regular = shape.Regular (number_at 8 21 body) (number_at 8 29 body) (number_at 8 37 body) len

  abbrev prealloc : Shape
  prealloc = shape.Prealloc (number_at 8 21 body) (number_at 8 29 body) (number_at 8 37 body) len

  abbrev inline : Result Shape ItemFault
  inline = Ok (shape.Inline (length body - 21))

  -- a shape of any type, if it isn't inline, ends below 2^64 in the file
  by_kind : (s : Shape) (a b c : Bool)
      → cond a inline (cond b (fields_if (place_fits offset body) regular)
      (cond c (fields_if (place_fits offset body) prealloc) (Err (record {})))) ≡ Ok s → FitsFile offset s
  by_kind s true b c h = let e : shape.Inline (length body - 21) ≡ s = cc in subst (FitsFile offset) e tt
  by_kind s false true c h = let f = of_fields (place_fits offset body) regular s h in subst (FitsFile offset) f.1 (placed_fits f.0)
  by_kind s false false true h = let f = of_fields (place_fits offset body) prealloc s h in subst (FitsFile offset) f.1 (placed_fits f.0)
  by_kind s false false false h = let z : ⊥ = cc in absurd z

  -- the fields that stand in the body, with a shape
  abbrev of_shape : Shape → FileExtent
  of_shape s = record {
    generation = number_at 8 0 body;
    ram = number_at 8 8 body;
    compression = slice_index body 16;
    encoded = not (slice_index body 17 == 0) || not (number_at 2 18 body == 0);
    shape = s;
  }

  -- an extent that came of a body, if it isn't inline, ends below 2^64 in the file
  by_test : (fields : FileExtent) (b : Bool) → cond b (map_ok of_shape (shape_of offset body)) (Err (record {})) ≡ Ok fields
      → FitsFile offset fields.shape
  by_test fields true h =
      let m = of_map of_shape (shape_of offset body) fields h in
      let k = slice_index body 20 in
      subst (FitsFile offset) (ap (λ (x : FileExtent). x.shape) m.2) (by_kind m.0 (k == 0) (k == 1) (k == 2) m.1)
  by_test fields false h = let z : ⊥ = cc in absurd z

  -- an extent that keeps its form, if it isn't inline, ends below 2^64 in the file
  pub extent_fits : (fields : FileExtent) → Ok fields ≡ file_extent_of offset body → FitsFile offset fields.shape
  extent_fits fields h = by_test fields (nat_le 21 (length body) && is_aligned offset) (sym h)

-- ---- an item, case by case

is_behind : (end start : ℕ) → end ≤ start → nat_le end start ≡ true
is_behind end start h = grind (arith, nat_tests)

is_before : (end start : ℕ) → start < end → nat_le end start ≡ false
is_before end start h = grind (arith, nat_tests)

module _ (addr : ℕ) (tree : TreeRoot) (met : Met) (item : TreeItem) where
  -- what an EXTENT_DATA comes to, by its form
  abbrev by_form : Result FileExtent ItemFault → Program Owner (Result Met (Unit {0}))
  by_form r = formed item r (extent_met addr tree met item)

  -- an item of another type comes to nothing
  pub met_other : (item.key.kind ≡ 108 → ⊥) → item_met addr tree met item ≡ Return (Ok met)
  met_other other = ap (λ b. cond b (by_form (file_extent_of item.key.offset item.body)) (Return (Ok met))) (ne_eqb _ _ other)

  -- an EXTENT_DATA comes to what its form says
  met_extent : item.key.kind ≡ 108 → (r : Result FileExtent ItemFault) → r ≡ file_extent_of item.key.offset item.body
      → item_met addr tree met item ≡ by_form r
  met_extent is r read = ap (λ b. cond b (by_form (file_extent_of item.key.offset item.body)) (Return (Ok met))) (eq-eqb _ _ is)
      ∙ ap by_form (sym read)

  module _ (is : item.key.kind ≡ 108) (fields : FileExtent) (read : Ok fields ≡ file_extent_of item.key.offset item.body) where
    -- what was met once this extent is
    abbrev next : Met
    next = record { inode = item.key.objectid; end = end_of item.key.offset fields }

    -- an owner, if the extent has the address at a position, and on
    abbrev by_position : Option ℕ → Program Owner (Result Met (Unit {0}))
    by_position position = owner_if tree item.key.objectid position next

    -- an extent that begins before the end of the file's last one makes its leaf malformed
    pub met_late : item.key.offset < end_in met item.key.objectid → item_met addr tree met item ≡ Stop (fate.Malformed item.leaf)
    met_late late = met_extent is (Ok fields) read
        ∙ ap (λ b. cond b (by_position (position_in addr item.key.offset fields)) (Stop (fate.Malformed item.leaf))) (is_before _ _ late)

    -- an extent in its order comes to the owner at the position by which it has the address, if it has it
    pub met_behind : end_in met item.key.objectid ≤ item.key.offset → (position : Option ℕ)
        → position ≡ position_in addr item.key.offset fields → item_met addr tree met item ≡ by_position position
    met_behind behind position found =
        met_extent is (Ok fields) read
        ∙ ap (λ b. cond b (by_position (position_in addr item.key.offset fields)) (Stop (fate.Malformed item.leaf))) (is_behind _ _ behind)
        ∙ ap by_position (sym found)
