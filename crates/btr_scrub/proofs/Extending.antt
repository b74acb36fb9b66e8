-- What becomes of an extent, by the tests that it is put to.
use Rattle.std.proofs.Common.{◌≡◌, ℕ, ◌+◌, true, false, cond, Option, Some, ap, ◌∙◌}
use Rattle.btr_scrub.proofs.Common.{Chunk, Crosses, Extent, Meeting, Return, Super, TreeItem, TreeRoot, bind, blocks_of, extent_met}
use Rattle.btr_prog.specs.Prog.{Stop}
use Rattle.btr_read.specs.Fate.{Malformed}
use Rattle.btr_scrub.specs.Units.{extent_of, is_crossing, is_extent, is_malformed, item_met}

module _ (s : Super) (sums : Option TreeRoot) (chunk : Chunk) (end : ℕ) where
  module _ (leaf : ℕ) (extent : Extent) where
    -- the blocks of the extent, and the address behind it
    abbrev blocks : Meeting ℕ
    blocks = bind (blocks_of s sums extent extent.level) (λ u. Return (extent.addr + extent.len))

    -- the same, or a stop where it crosses the chunk's end or an element
    abbrev judged : Meeting ℕ
    judged = cond (is_crossing chunk extent) (Stop (Crosses extent.addr)) blocks

    -- an extent that is malformed stops
    pub extent_malformed : is_malformed s end extent ≡ true → extent_met s sums chunk end leaf (Some extent) ≡ Stop (Malformed leaf)
    extent_malformed e = ap (λ b. cond b (Stop (Malformed leaf)) judged) e

    -- so does one that crosses the chunk's end or an element
    pub extent_crosses : is_malformed s end extent ≡ false → is_crossing chunk extent ≡ true → extent_met s sums chunk end leaf (Some extent)
        ≡ Stop (Crosses extent.addr)
    extent_crosses e h = ap (λ b. cond b (Stop (Malformed leaf)) judged) e ∙ ap (λ b. cond b (Stop (Crosses extent.addr)) blocks) h

    -- any other gives its blocks
    pub extent_gives : is_malformed s end extent ≡ false → is_crossing chunk extent ≡ false → extent_met s sums chunk end leaf (Some extent) ≡ blocks
    extent_gives e h = ap (λ b. cond b (Stop (Malformed leaf)) judged) e ∙ ap (λ b. cond b (Stop (Crosses extent.addr)) blocks) h

  -- an item that is no extent gives nothing
  pub item_other : (item : TreeItem) → is_extent item.key ≡ false → item_met s sums chunk end item ≡ Return end
  item_other item e = ap (λ b. cond b (extent_met s sums chunk end item.leaf (extent_of s item)) (Return end)) e

  -- one that is gives what its extent does
  pub item_extent : (item : TreeItem) (found : Option Extent) (leaf : ℕ) → is_extent item.key ≡ true → extent_of s item ≡ found → item.leaf ≡ leaf
      → item_met s sums chunk end item ≡ extent_met s sums chunk end leaf found
  item_extent item found leaf e is at =
      ap (λ b. cond b (extent_met s sums chunk end item.leaf (extent_of s item)) (Return end)) e
      ∙ ap (extent_met s sums chunk end item.leaf) is
      ∙ ap (λ l. extent_met s sums chunk end l found) at
