-- The pieces of a file are its bytes.
use Rattle.std.proofs.Common.{◌≡◌, ℕ, ◌-◌, ◌<◌, ◌≤◌, Bool, true, false, cond, length, List, [], ◌∷◌, Option, Some, None, Result, Ok, Err, refl, sym, ap, ◌∙◌}
use Rattle.std.proofs.Common.{subst, arith}
use Rattle.std.specs.Prelude.{◌==◌, ◌&&◌, nat_le, nat_lt, find, slice_index}
use Rattle.std.specs.Option.{option_map_or}
use Rattle.std.proofs.lemmas.Bool.Decides.{nat_tests}
use Rattle.btr_base.specs.declared.kind.SumKind.{SumKind}
use Rattle.btr_items.specs.FileExtent.{file_extent_of, end_of}
use Rattle.btr_items.specs.declared.fault.ItemFault.{ItemFault}
use Rattle.btr_items.specs.declared.file_extent.FileExtent.{FileExtent}
use Rattle.btr_prog.specs.Prog.{Return, Stop, Need, Emit, Wants, Run, first, given, exec, steps, steps_of, bind, after}
use Rattle.btr_prog.specs.Thread.{thread, go_on}
use Rattle.btr_prog.proofs.Runs.{exec-bind}
use Rattle.btr_read.specs.Fate.{Fault, Malformed}
use Rattle.btr_read.specs.declared.want.Want.{Want}
use Rattle.btr_walk.specs.Le.{TreeItem}
use Rattle.btr_walk.specs.Range.{RangeProg, range}
use Rattle.btr_walk.specs.Reading.{Map}
use Rattle.btr_volume.specs.declared.root.TreeRoot.{TreeRoot}
use Rattle.btr_volume.specs.Lookup.{Program, formed}
use Rattle.btr_volume.specs.Tree.{key, last}
use Rattle.btr_files.specs.Content.{Piece, gap, piece, pieces, content}
use Rattle.btr_files.specs.Extents.{Extent, extent, in_order, extents_in, extents, judged}
use Rattle.btr_files.specs.FileAt.{covers, byte_in, file_at, bytes_of, IsSectorLong, ContentIsFile}
use Rattle.btr_files.proofs.Binds.{bind_assoc}
use Rattle.btr_files.proofs.Extending.{test_lt, is_le, extent_known, below}
use Rattle.btr_files.proofs.Fills.{Fills, Marks, bytes_in, fills_marks, fills_as, fills_last}
use Rattle.btr_files.proofs.ExtentBytes.{byte, PutsExtent, puts_clear}

-- where both hold, the second does
pub left_of : (a b : Bool) → (a && b) ≡ true → b ≡ true
left_of true b h = h
left_of false b h = let z : ⊥ = cc in absurd z

-- the extents behind a position cover none before it
module _ (B : Map) where
  -- no extent in some items, behind one that ends at a position, covers a place before it
  abbrev Behind : RangeProg → Type 0
  Behind items = (end p : ℕ) → p < end → find (covers p) (steps B (extents_in end items)) ≡ None

  -- where a block is wanted first, no extent behind it covers a place before the position
  none_given : (k : List ℕ → RangeProg) → ((bytes : List ℕ) → Behind (k bytes)) → (x : Result (List ℕ) Fault) (end p : ℕ) → p < end
      → find (covers p) (steps_of (given x (λ bytes. exec B (extents_in end (k bytes)))).marks) ≡ None
  none_given k ih (Ok bytes) end p lt = ih bytes end p lt
  none_given k ih (Err f) end p lt = refl

  module _ (item : TreeItem) (items : RangeProg) (ih : Behind items) (end p : ℕ) (lt : p < end) where
    abbrev on : ℕ → Program Extent (Unit {0})
    on end' = extents_in end' items

    -- an extent by its order, and those behind it, cover no place before the position
    none_order : (fields : FileExtent) (b : Bool) → nat_le end item.key.offset ≡ b →
        find (covers p) (steps B (bind (cond b (Emit (extent item fields) (Return (Ok (end_of item.key.offset fields)))) (Stop (Malformed item.leaf)))
        (go_on on))) ≡ None
    none_order fields true e =
        let le : end ≤ item.key.offset = is_le end item.key.offset e in
        let out : covers p (extent item fields) ≡ false =
        ap (λ (b : Bool). b && nat_lt p (end_of item.key.offset fields)) (test_lt p item.key.offset (omega (arith, lt, le))) in
        ap (λ (b : Bool). cond b (Some (extent item fields)) (find (covers p) (steps B (on (end_of item.key.offset fields))))) out
        ∙ ih (end_of item.key.offset fields) p (omega (arith, lt, le))
    none_order fields false e = refl

    -- an item by its form, and the items behind it, have no extent that covers a place before the position
    none_form : (r : Result FileExtent ItemFault) → find (covers p)
        (steps B (bind (formed item r (λ fields. in_order end (extent item fields))) (go_on on))) ≡ None
    none_form (Ok fields) = none_order fields (nat_le end item.key.offset) refl
    none_form (Err fault) = refl

  -- whatever the items are, no extent behind a position covers a place before it
  none_behind : (items : RangeProg) → Behind items
  none_behind (Return u) end p lt = refl
  none_behind (Stop f) end p lt = refl
  none_behind (Need w k) end p lt = none_given k (λ bytes. none_behind (k bytes)) (B w) end p lt
  none_behind (Emit item items) end p lt = none_form item items (none_behind items) end p lt (file_extent_of item.key.offset item.body)

-- the first of some extents, and the others
module _ (g : Extent → ℕ) (x : Extent) (o : Option Extent) where
  abbrev others : ℕ
  others = option_map_or g o 0

  -- where the other extents have zero, the place has what the first has, if that covers it
  first_here : (b : Bool) → others ≡ 0 → cond b (g x) 0 ≡ option_map_or g (cond b (Some x) o) 0
  first_here true e = refl
  first_here false e = sym e

  -- where the first has zero, and so have the others if it covers the place, the place has what the others have
  first_gone : (b : Bool) → cond b (g x) 0 ≡ 0 → (b ≡ true → others ≡ 0) → others ≡ option_map_or g (cond b (Some x) o) 0
  first_gone true z e = e refl ∙ sym z
  first_gone false z e = refl

module _ (B : Map) (kind : SumKind) (sums : Option TreeRoot) (nosum : Bool) (size : ℕ)
    (whole : (want : Want) (bytes : List ℕ) → B want ≡ Ok bytes → IsSectorLong want bytes) where
  -- ---- the extents of some items
  abbrev at_end : ℕ → Unit {0} → ℕ
  at_end at u = at

  abbrev one : ℕ → Extent → Program Piece (Result ℕ ℕ)
  one = piece kind sums nosum size

  abbrev zeros : ℕ → Program Piece (Unit {0})
  zeros at = gap (size - at) (Return tt)

  -- the byte at a position of a file of some extents
  abbrev bytes_at : List Extent → ℕ → ℕ
  bytes_at = file_at B kind sums nosum

  -- a run that ends well gives the bytes of a function from a position on up to the size
  abbrev Filled : (ℕ → ℕ) → ℕ → Run Want Fault Piece (Unit {0}) → Type 0
  Filled f at q = q.ending ≡ Ok tt → Fills f at size (bytes_in q.marks)

  -- the pieces of the extents in some items are the bytes that these extents have
  abbrev Given : RangeProg → Type 0
  Given items = (at end : ℕ) → at ≤ end → at ≤ size → Filled (bytes_at (steps B (extents_in end items))) at
      (exec B (pieces kind sums nosum size at (extents_in end items)))

  -- where a block is wanted first, the pieces behind it are the bytes of the extents behind it
  given_need : (w : Want) (k : List ℕ → RangeProg) → ((bytes : List ℕ) → Given (k bytes)) → (x : Result (List ℕ) Fault) (at end : ℕ) → at ≤ end → at ≤ size →
      Filled (bytes_at (steps_of (given x (λ bytes. exec B (extents_in end (k bytes)))).marks)) at
      (first (Wants w) (given x (λ bytes. exec B (pieces kind sums nosum size at (extents_in end (k bytes))))))
  given_need w k ih (Ok bytes) at end behind low ok = ih bytes at end behind low ok
  given_need w k ih (Err f) at end behind low ok = let z : ⊥ = cc in absurd z

  module _ (item : TreeItem) (items : RangeProg) (ih : Given items) (at end : ℕ) (behind : at ≤ end) (low : at ≤ size) where
    module _ (fields : FileExtent) (form : Ok fields ≡ file_extent_of item.key.offset item.body) (order : end ≤ item.key.offset) where
      abbrev x : Extent
      x = extent item fields

      abbrev end_x : ℕ
      end_x = end_of item.key.offset fields

      -- the extents in the items behind this one
      abbrev xs : List Extent
      xs = steps B (extents_in end_x items)

      -- the pieces of the extents behind this one, from a position on
      abbrev K : ℕ → Program Piece ℕ
      K at' = thread one at_end at' (extents_in end_x items)

      -- the extents behind this one have zero before its end
      none_else : (p : ℕ) → p < end_x → bytes_at xs p ≡ 0
      none_else p lt = ap (λ (o : Option Extent). option_map_or (λ y. byte_in B kind sums nosum p y y.fields.shape) o 0) (none_behind B items end_x p lt)

      -- the byte of this extent at a position, and zero where it doesn't cover it
      abbrev byte_x : ℕ → ℕ
      byte_x = byte B kind sums nosum size whole x at

      -- before its end the byte of this extent is the one of it and those behind it
      here : (p : ℕ) → p < end_x → byte_x p ≡ bytes_at (x ∷ xs) p
      here p lt = first_here (λ y. byte_in B kind sums nosum p y y.fields.shape) x (find (covers p) xs) (covers p x) (none_else p lt)

      -- a position that the extent covers lies before its end
      covered : (p : ℕ) → covers p x ≡ true → p < end_x
      covered p e = below p end_x (left_of (nat_le item.key.offset p) (nat_lt p end_x) e)

      -- where this extent has zero, the file has what the extents behind it have
      gone : (p : ℕ) → byte_x p ≡ 0 → bytes_at xs p ≡ bytes_at (x ∷ xs) p
      gone p z = first_gone (λ y. byte_in B kind sums nosum p y y.fields.shape) x (find (covers p) xs) (covers p x) z (λ e. none_else p (covered p e))

      -- the bytes that this extent puts
      abbrev Put : Result ℕ ℕ → List ℕ → Type 0
      Put = PutsExtent byte_x size end_x at

      -- where an extent puts its bytes, its pieces and those behind it are the bytes of the extents
      filled_by : (ms : Marks) (e : Result (Result ℕ ℕ) Fault) → ((r : Result ℕ ℕ) → e ≡ Ok r → Put r (bytes_in ms))
          → Filled (bytes_at (x ∷ xs)) at (after ms e (λ r. exec B (bind (go_on K r) zeros)))
      filled_by ms (Ok (Ok at')) h ok =
          let p = h (Ok at') refl in
          fills_marks (bytes_at (x ∷ xs)) at at' size ms (exec B (pieces kind sums nosum size at' (extents_in end_x items))).marks
          (fills_as byte_x (bytes_at (x ∷ xs)) at at' (bytes_in ms) (λ q le lt. here q (omega (arith, lt, p.short))) p.fills)
          (fills_as (bytes_at xs) (bytes_at (x ∷ xs)) at' size (bytes_in (exec B (pieces kind sums nosum size at' (extents_in end_x items))).marks)
          (λ q le lt. gone q (p.over q le lt))
          (ih at' end_x p.short p.within ok))
      filled_by ms (Ok (Err at')) h ok =
          let p = h (Err at') refl in
          fills_marks (bytes_at (x ∷ xs)) at at' size ms (exec B (zeros at')).marks
          (fills_as byte_x (bytes_at (x ∷ xs)) at at' (bytes_in ms) (λ q le lt. here q (omega (arith, lt, p.short))) p.fills)
          (fills_last (bytes_at (x ∷ xs)) B at' size p.within (λ q le lt. sym (here q (omega (arith, lt, p.ends))) ∙ p.over q le lt))
      filled_by ms (Err f) h ok = let z : ⊥ = cc in absurd z

      -- the pieces of an extent in its order, and those behind it, are the bytes of the extents
      filled_clear : Filled (bytes_at (x ∷ xs)) at (exec B (bind (bind (one at x) (go_on K)) zeros))
      filled_clear =
          let q = exec B (one at x) in
          subst (Filled (bytes_at (x ∷ xs)) at) (sym (ap (exec B) (bind_assoc (one at x) (go_on K) zeros)
          ∙ exec-bind B (one at x) (λ r. bind (go_on K r) zeros)))
          (filled_by q.marks q.ending
          (puts_clear B kind sums nosum size whole x at low (omega (arith, behind, order)) item.body refl
          (λ clear. extent_known item.key.offset item.body fields clear form) (judged fields) refl))

    abbrev more : ℕ → Program Extent (Unit {0})
    more end' = extents_in end' items

    -- the pieces of an extent by its order, and those behind it, are the bytes of the extents
    filled_order : (fields : FileExtent) → Ok fields ≡ file_extent_of item.key.offset item.body → (b : Bool) → nat_le end item.key.offset ≡ b →
        Filled (bytes_at (steps B (bind (cond b (Emit (extent item fields) (Return (Ok (end_of item.key.offset fields))))
        (Stop (Malformed item.leaf))) (go_on more)))) at
        (exec B (pieces kind sums nosum size at (bind (cond b (Emit (extent item fields) (Return (Ok (end_of item.key.offset fields))))
        (Stop (Malformed item.leaf))) (go_on more))))
    filled_order fields form true e ok = filled_clear fields form (is_le end item.key.offset e) ok
    filled_order fields form false e ok = let z : ⊥ = cc in absurd z

    -- the pieces of an item by its form, and those of the items behind it, are the bytes of the extents
    filled_form : (r : Result FileExtent ItemFault) → r ≡ file_extent_of item.key.offset item.body →
        Filled (bytes_at (steps B (bind (formed item r (λ fields. in_order end (extent item fields))) (go_on more)))) at
        (exec B (pieces kind sums nosum size at (bind (formed item r (λ fields. in_order end (extent item fields))) (go_on more))))
    filled_form (Ok fields) form ok = filled_order fields form (nat_le end item.key.offset) refl ok
    filled_form (Err fault) form ok = let z : ⊥ = cc in absurd z

  -- whatever the items are, the pieces of their extents are the bytes that the extents have
  given_filled : (items : RangeProg) → Given items
  given_filled (Return u) at end behind low ok = fills_last (bytes_at []) B at size low (λ p le lt. refl)
  given_filled (Stop f) at end behind low ok = let z : ⊥ = cc in absurd z
  given_filled (Need w k) at end behind low ok = given_need w k (λ bytes. given_filled (k bytes)) (B w) at end behind low ok
  given_filled (Emit item items) at end behind low ok = filled_form item items (given_filled items) at end behind low
      (file_extent_of item.key.offset item.body) refl ok

  module _ (tree : TreeRoot) (ino : ℕ) where
    -- where a program ends well, its pieces are as many bytes as the size, each the one that the file's extents have there
    abbrev IsFile : Program Piece (Unit {0}) → Type 0
    IsFile p = (exec B p).ending ≡ Ok tt → (length (bytes_of (steps B p)) ≡ size)
        × ((i : ℕ) → i < size → slice_index (bytes_of (steps B p)) i ≡ bytes_at (steps B (extents tree ino)) i)

    -- a file is given as its bytes, whether it is empty or not
    by_empty : (b : Bool) → (size == 0) ≡ b → IsFile (cond b (Return tt) (pieces kind sums nosum size 0 (extents tree ino)))
    by_empty true e ok = let none : size ≡ 0 = grind (arith, nat_tests) in (omega (arith, none), λ i lt. absurd (omega (arith, none, lt)))
    by_empty false e ok =
        let h = given_filled (range (key ino 108 0) (key ino 108 last) tree.place) 0 0 (omega arith) (omega arith) ok in
        (omega (arith, h.long), λ i lt. h.spells i (omega (arith, h.long, lt)) ∙ ap (bytes_at (steps B (extents tree ino))) (omega arith))

    -- the content of a file is its bytes
    file_bytes : IsFile (content kind sums nosum size tree ino)
    file_bytes = by_empty (size == 0) refl

-- the pieces of a file that could be read are its bytes, each at its position, as many as its size
pub content_is : ContentIsFile
content_is B kind sums nosum size tree ino whole ok = file_bytes B kind sums nosum size whole tree ino ok
