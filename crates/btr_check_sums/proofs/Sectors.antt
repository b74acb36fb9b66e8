-- Sectors one after another.
use Rattle.std.proofs.Common.{◌≡◌, ℕ, ◌+◌, ◌*◌, ◌<◌, List, [], ◌∷◌, ◌++◌, length, get_or, filter_map, flat_map, Option, refl, sym, ap, ◌∙◌, arith}
use Rattle.std.proofs.lemmas.List.Elements.{filter_map-append}
use Rattle.std.proofs.lemmas.List.FromFn.{length-map-range_with_len, get_or-map-range_with_len}
use Rattle.btr_findings.specs.Sectors.{sectors}

-- a list of so many sectors has that length
pub sectors_long : (start count : ℕ) → length (sectors start count) ≡ count
sectors_long start count = length-map-range_with_len (λ i. start + i * 4096) 0 count

-- the sector at a place stands so many times 4096 bytes behind the first one
pub sector_at : (start count i : ℕ) → i < count → get_or (sectors start count) i 0 ≡ start + i * 4096
sector_at start count i below = get_or-map-range_with_len (λ i. start + i * 4096) 0 count i i 0 below (omega arith)

-- a rule on all that is made of some things
pub rows_of : {X Y Z : Type 0} (rule : Y → Option Z) (make : X → List Y) (xs : List X) → flat_map (λ x. filter_map rule (make x)) xs
    ≡ filter_map rule (flat_map make xs)
rows_of rule make [] = refl
rows_of rule make (x ∷ xs) = ap (λ l. filter_map rule (make x) ++ l) (rows_of rule make xs) ∙ sym (filter_map-append rule (make x) (flat_map make xs))
