-- Whether blocks have a position.
use Rattle.std.proofs.Common.{◌≡◌, ℕ, ◌+◌, ◌≤◌, Bool, true, false, cond, Some, None, Result, Ok, Err, IsOk, refl, sym, ap, ◌∙◌, subst}
use Rattle.btr_scrub.proofs.Common.{Chunk, Crosses, Elements, Fault, Layout, Target, Want, addr_of, chunk_at, crosses, false≢true, holds, len_of, position}
use Rattle.btr_scrub.proofs.Common.{sought, sought_at, sought_in}
use Rattle.btr_chunk.specs.Mapping.{elements_of}
use Rattle.btr_chunk.specs.declared.mapping.MapFault.{MapFault}
use Rattle.btr_chunk.specs.declared.mapping.MapFault.TheVariants as map_fault
use Rattle.btr_read.specs.Fate.{Unmapped}
use Rattle.btr_walk.specs.declared.fault.TreeFault.TheVariants as tree
use Rattle.btr_scrub.specs.Judging.{JudgedOne}
use Rattle.btr_scrub.proofs.Positions.{ends_within}

-- a refusal is no value
pub not_ok : (r : Result Target Fault) (f : Fault) → r ≡ Err f → IsOk r → ⊥
not_ok r f e h = false≢true (subst IsOk e h)

-- bytes that have a position end in their chunk
pub ends_inside : (chunk : Chunk) (addr len : ℕ) (at : Elements) → elements_of chunk addr len ≡ Ok at → addr + len ≤ chunk.start + chunk.length
ends_inside chunk addr len at e = by (holds chunk addr) (crosses chunk addr len) refl e
  where
    by : (h c : Bool) → crosses chunk addr len ≡ c → cond h (cond c (Err map_fault.Crosses) (Ok (position chunk addr))) (Err map_fault.Unmapped)
        ≡ Ok at → addr + len ≤ chunk.start + chunk.length
    by true true fine e = cc
    by true false fine e = ends_within chunk addr len fine
    by false c fine e = cc

module _ (layout : Layout) (from : ℕ) (want : Want) (addr : ℕ) (is : addr ≡ addr_of want) where
  -- an address in no chunk is refused as one
  pub no_chunk : None ≡ chunk_at layout.chunks addr → JudgedOne layout from want (Err (tree.Unmapped addr))
  no_chunk e = rw (is, ← (rw is at e))

  module _ (chunk : Chunk) (len : ℕ) (there : Some chunk ≡ chunk_at layout.chunks addr) (long : len ≡ len_of layout.setting want) where
    -- a block is sought in its chunk, at the position that this has for its address
    at_chunk : (r : Result Elements MapFault) → r ≡ elements_of chunk addr len → sought layout want ≡ sought_at layout want chunk r
    at_chunk r e = ap (sought_in layout want) (sym (rw is at there)) ∙ ap (sought_at layout want chunk) (sym (rw (is, long) at e))

    -- so is one that its chunk doesn't map
    pub not_in_chunk : Err map_fault.Unmapped ≡ elements_of chunk addr len → JudgedOne layout from want (Err (tree.Unmapped addr))
    not_in_chunk e = at_chunk (Err map_fault.Unmapped) e ∙ ap (λ a. Err (Unmapped a)) (sym is)

    -- a block that crosses an element is refused as one
    pub crosses_there : Err map_fault.Crosses ≡ elements_of chunk addr len → JudgedOne layout from want (Err (tree.Crosses addr))
    crosses_there e = at_chunk (Err map_fault.Crosses) e ∙ ap (λ a. Err (Crosses a)) (sym is)
