-- Blocks that lie in a chunk of the table have a position.
use Rattle.std.proofs.Common.{◌≡◌, ℕ, zero, suc, ◌+◌, ◌-◌, ◌*◌, ◌%◌, ◌<◌, ◌≤◌, false, ◌&&◌, ltb, List, Some, IsOk, sym, subst, arith}
use Rattle.std.specs.Prelude.{slice_get}
use Rattle.btr_scrub.proofs.Common.{AreUpTo, Chunk, IsFirstRefused, IsTable, Layout, Plain, TreeFault, Want, addr_of, chunk_at, crosses, facts}
use Rattle.btr_scrub.proofs.Common.{false_from_ne_true, holds, is_striped, len_of, plains_from, sought}
use Rattle.std.proofs.lemmas.Bool.{le-ltb, or_from, and_right}
use Rattle.btr_chunk.proofs.Searches.{find-first}
use Rattle.btr_scrub.specs.Judging.{ArePlaced}
use Rattle.btr_scrub.specs.Listed.{PassesFrom}
use Rattle.btr_scrub.proofs.Positions.{bounds_of, held_between, find_at}
use Rattle.btr_scrub.proofs.Refusing.{refused_behind, upto_more}

module _ (layout : Layout) (table : IsTable layout.chunks) (number : ℕ) (chunk : Chunk) (there : slice_get layout.chunks number ≡ Some chunk) where
  -- an address in the chunk is held by it
  pub chunk_there : (addr : ℕ) → chunk.start ≤ addr → addr < chunk.start + chunk.length → chunk_at layout.chunks addr ≡ Some chunk
  chunk_there addr from to = find-first (λ c. holds c addr) layout.chunks number chunk there (held_between chunk addr from to) (λ j c lt e. before j c lt e)
    where
      -- no chunk before it holds the address
      before : (j : ℕ) (c : Chunk) → j < number → slice_get layout.chunks j ≡ Some c → holds c addr ≡ false
      before j c lt e = false_from_ne_true (holds c addr) (λ h.
          absurd (omega (arith, (bounds_of c addr h).1, (table.apart j number c chunk lt e there).0, from)))

  -- a block that doesn't cross has a position
  pub placed : (want : Want) → chunk.start ≤ addr_of want → addr_of want < chunk.start + chunk.length
      → crosses chunk (addr_of want) (len_of layout.setting want) ≡ false → IsOk (sought layout want)
  placed want from to fine = rw (chunk_there (addr_of want) from to, held_between chunk (addr_of want) from to, fine)

  -- a sector of the chunk doesn't cross an element
  pub sector_fits : (addr : ℕ) → addr % 4096 ≡ 0 → chunk.start ≤ addr → addr + 4096 ≤ chunk.start + chunk.length → crosses chunk addr 4096 ≡ false
  sector_fits addr aligned from to =
      or_from (ltb (chunk.start + chunk.length) (addr + 4096)) (is_striped chunk.profile && ltb 65536 ((addr - chunk.start) % 65536 + 4096))
      (le-ltb (chunk.start + chunk.length) (addr + 4096) to)
      (and_right (is_striped chunk.profile) (ltb 65536 ((addr - chunk.start) % 65536 + 4096))
      (le-ltb 65536 ((addr - chunk.start) % 65536 + 4096) (omega (arith, aligned, (facts chunk (table.sound number chunk there).0).aligned, from))))

-- sectors up to the end of the chunk of an address, from that on
pub placed_in : (layout : Layout) → IsTable layout.chunks → (addr : ℕ) (chunk : Chunk) → chunk_at layout.chunks addr ≡ Some chunk → addr % 4096 ≡ 0
    → ArePlaced layout addr (chunk.start + chunk.length - 4095)
placed_in layout table addr chunk is aligned i lt =
    let at = find_at (λ (c : Chunk). holds c addr) layout.chunks chunk is in
    let other : ℕ = addr + i * 4096 in
    let from : chunk.start ≤ addr = (bounds_of chunk addr at.2).0 in
    let behind : chunk.start ≤ other = omega (arith, from) in
    let same : other % 4096 ≡ 0 = omega (arith, aligned) in
    let within : other + 4096 ≤ chunk.start + chunk.length = omega (arith, lt) in
    placed layout table at.0 chunk at.1 (Plain other) behind (omega (arith, within)) (sector_fits layout table at.0 chunk at.1 other same behind within)

-- ---- plain sectors that are passed

module _ (layout : Layout) where
  -- plain sectors that have a position follow each other
  plains_upto : (n addr : ℕ) → ((i : ℕ) → i < n → IsOk (sought layout (Plain (addr + i * 4096)))) → AreUpTo layout addr (addr + n * 4096) (plains_from addr n)
  plains_upto zero addr placed = omega arith
  plains_upto (suc n) addr placed = (
    omega arith,
    subst (λ (a : ℕ). IsOk (sought layout (Plain a))) (omega arith) (placed 0 (omega arith)),
    subst (λ (to : ℕ). AreUpTo layout (addr + 4096) to (plains_from (addr + 4096) n)) (omega arith)
        (plains_upto n (addr + 4096) (λ i lt. subst (λ (a : ℕ). IsOk (sought layout (Plain a))) (omega arith) (placed (suc i) (omega (arith, lt))))),
  )

  module _ (old new : List Want) (from bound end : ℕ) (h : PassesFrom old from bound end new) (placed : ArePlaced layout from bound) where
    -- the sectors that are passed have positions, one behind another up to where the last one ends
    passed : AreUpTo layout from (from + h.count * 4096) (plains_from from h.count)
    passed = plains_upto h.count from (λ i lt. placed i (h.below i lt))

    -- where those behind a passed block reach an end, all do
    pub passed_apart : (to : ℕ) → AreUpTo layout end to new → AreUpTo layout from to old
    passed_apart to a =
        subst (AreUpTo layout from to) (sym h.split) (upto_more layout from (from + h.count * 4096) to (plains_from from h.count) new passed
        (subst (λ (e : ℕ). AreUpTo layout e to new) h.ends a))

    -- where one behind it is refused first, it is so of all
    pub passed_refused : (fault : TreeFault) → IsFirstRefused layout end new fault → IsFirstRefused layout from old fault
    passed_refused fault a =
        subst (λ ws. IsFirstRefused layout from ws fault) (sym h.split) (refused_behind layout from (from + h.count * 4096) (plains_from from h.count) new fault
        passed (subst (λ (e : ℕ). IsFirstRefused layout e new fault) h.ends a))
