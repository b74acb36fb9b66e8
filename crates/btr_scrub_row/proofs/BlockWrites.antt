-- The write that mends a block, as it is made from the bytes in memory.
use Rattle.std.proofs.Common.{◌≡◌, ℕ, ◌+◌, ◌≤◌, ◌||◌, Bool, false, not, List, [], ◌∷◌, length, take, Some, IsNone, refl, sym, ap, ◌∙◌, subst, arith}
use Rattle.std.proofs.Common.{length-take}
use Rattle.btr_scrub_row.proofs.Common.{CanWrite, CanWriteIn, FullStripe, HasPart, Images, IsOfRow, Layout, Range, Row, Seen, Slice, SlicePiece, Target, Want}
use Rattle.btr_scrub_row.proofs.Common.{mending_writes, mirrors, range_in, range_in_element, range_of, size_of}
use Rattle.btr_scrub_row.specs.Memory.{IsSettled}
use Rattle.btr_scrub_row.specs.Writing.{write_at}
use Rattle.btr_scrub_row.proofs.Elements.{IsElement, Lies, block_lies, can_write_in, is_at, its_element, lies, lies_in_row}
use Rattle.btr_scrub_row.proofs.Held.{IsBlock, lies_at}
use Rattle.btr_scrub_row.specs.declared.settling.Settled.{Settled}
use Rattle.btr_scrub_row.proofs.Settled.{writes_one, written_at}

module _ {layout : Layout} {stripe : FullStripe} {row : Row} {want : Want} {t : Target} {piece : SlicePiece} (b : IsBlock layout stripe row want t piece) where
  -- the block's slice is a part of the row
  has : HasPart row.chunk.profile (length row.chunk.stripes) (Slice t.at.index)
  has = subst (λ c. HasPart c.profile (length c.stripes) (Slice t.at.index)) b.on.chunk
      (subst IsNone (sym (ap mirrors b.on.chunk ∙ b.of.is.parity)) refl, b.placed.position.index)

  el : IsElement layout row (Slice t.at.index)
  el = its_element b.of (Slice t.at.index) has

  l : Lies layout row (Slice t.at.index)
  l = lies el

  -- the block's own place lies in the element of its slice
  stands : range_of t (Slice t.at.index) ≡ Some (range_in l.slot (l.off + t.at.rest) (size_of t))
  stands = let at = lies_at b in block_lies el l t b.on at.devices b.placed.position b.placed.inside

  -- the block's own place
  pub own_range : (range : Range) × (range_of t (Slice t.at.index) ≡ Some range)
  own_range = (range_in l.slot (l.off + t.at.rest) (size_of t), stands)

  module _ (element : Range) (is : range_in_element layout row (Slice piece.index) 0 65536 ≡ Some element) where
    is' : range_in_element layout row (Slice t.at.index) 0 65536 ≡ Some element
    is' = ap (λ i. range_in_element layout row (Slice i) 0 65536) (sym b.placed.index) ∙ is

    -- the block can be written there
    pub written : {rack : Seen} {marks : List Bool} → CanWrite layout rack marks → CanWriteIn element piece.rest piece.len rack marks
    written can = can_write_in el l element is' piece.rest piece.len (omega (arith, b.placed.rest, b.placed.len, b.placed.inside)) can

    -- the range is one of the row's
    pub in_the_row : (n : ℕ) → n ≡ piece.len → IsOfRow layout row (range_in element.slot (element.off + piece.rest) n)
    in_the_row n long = lies_in_row el l element is' piece.rest n (omega (arith, long, b.placed.rest, b.placed.len, b.placed.inside))

    -- one write, where something is wrong and bytes are given
    pub writes_it : (images : Images) (block : List ℕ) (settled : Settled) → size_of t ≤ length block → IsSettled images row t block settled
        → (settled.good || not settled.given) ≡ false
        → write_at element.slot (element.off + piece.rest) (take piece.len block) ∷ [] ≡ mending_writes images row.failing t
    writes_it images block settled long settles some =
        let at = is_at el l element is' in
        let bytes = take (size_of t) block in
        let size : length bytes ≡ size_of t = omega (arith, length-take (size_of t) block, long) in
        ap (λ n. write_at element.slot (element.off + piece.rest) (take n block) ∷ []) b.placed.len
        ∙ ap (λ s. write_at s (element.off + piece.rest) bytes ∷ []) at.slot
        ∙ ap (λ o. write_at l.slot (o + piece.rest) bytes ∷ []) at.off
        ∙ ap (λ r. write_at l.slot (l.off + r) bytes ∷ []) b.placed.rest
        ∙ ap (λ n. written_at (range_in l.slot (l.off + t.at.rest) n) bytes ∷ []) size
        ∙ sym (writes_one images row t block settled settles (range_in l.slot (l.off + t.at.rest) (size_of t)) stands some)
