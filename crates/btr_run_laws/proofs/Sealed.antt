-- What stands in the example's image.
use Rattle.std.proofs.Common.{◌≡◌, ℕ, zero, suc, ◌≤◌, List, [], ◌∷◌, length, Bool, true, false, cond, eqb-true, Option, Some, None, Result, Ok, Err, refl, sym}
use Rattle.std.proofs.Common.{ap, ◌∙◌, subst, arith}
use Rattle.std.specs.Prelude.{Contains, ◌==◌, ◌&&◌, filter, filter_map, slice_get}
use Rattle.btr_base.specs.Sum.{is_summed, stored_sum}
use Rattle.btr_base.specs.declared.kind.SumKind.TheVariants.{Crc32c}
use Rattle.btr_chunk.specs.Mapping.{elements_of, holds}
use Rattle.btr_chunk.specs.declared.mapping.MapFault.{MapFault}
use Rattle.btr_chunk.specs.declared.mapping.MapFault.TheVariants.{Unmapped, Crosses}
use Rattle.btr_chunk.specs.declared.place.Part.TheVariants.{Mirror}
use Rattle.btr_chunk.specs.declared.position.Elements.{Elements}
use Rattle.btr_super.specs.Slot.{image_super, places, slot_answer, standing}
use Rattle.btr_super.specs.Super.{super_of, superblock}
use Rattle.btr_super.specs.declared.fault.SuperFault.TheVariants.{Sum}
use Rattle.btr_read.specs.Candidates.{readings, value_of}
use Rattle.btr_read.specs.Candidates.{stands as stands_so}
use Rattle.btr_read.specs.Fate.{Agreed, Fault, fate, or_lost, passing, passing_for, sought, sought_at, sought_in, target}
use Rattle.btr_read.specs.Want.{addr_of, len_of, passes}
use Rattle.btr_read.specs.declared.candidate.Candidate.TheVariants.{Read}
use Rattle.btr_read.specs.declared.want.Want.{Want}
use Rattle.btr_read.specs.declared.want.Want.TheVariants.{Tree, Block, Sector, Plain}
use Rattle.btr_restore.specs.Committed.{IsHonest}
use Rattle.btr_volume.specs.Start.{layout_by, start_of, start_with, super_then}
use Rattle.btr_run_laws.specs.Example.{block_at, chunk, chunk_tree, committed_blocks, extent_tree, file_tree, image, images, layout, root_tree, sealed, start}
use Rattle.btr_run_laws.specs.Example.{super_block, table}
use Rattle.btr_run.proofs.Reading.{same_word}

-- the checksum of the chunk tree's leaf is right
pub summed_chunks : is_summed Crc32c chunk_tree ≡ true
unfolding sealed
summed_chunks = same_word (stored_sum Crc32c chunk_tree).bytes

-- the checksum of the root tree's leaf is right
pub summed_roots : is_summed Crc32c root_tree ≡ true
unfolding sealed
summed_roots = same_word (stored_sum Crc32c root_tree).bytes

-- the checksum of the leaf of the tree of files is right
pub summed_files : is_summed Crc32c file_tree ≡ true
unfolding sealed
summed_files = same_word (stored_sum Crc32c file_tree).bytes

-- the checksum of the extent tree's leaf is right
pub summed_extents : is_summed Crc32c extent_tree ≡ true
unfolding sealed
summed_extents = same_word (stored_sum Crc32c extent_tree).bytes

-- the checksum of the superblock is right
summed_super : is_summed Crc32c super_block ≡ true
unfolding sealed
summed_super = same_word (stored_sum Crc32c super_block).bytes

-- the superblock at its place is read
super_is : superblock super_block 65536 ≡ Ok (super_of super_block)
unfolding superblock sealed
super_is = ap (λ b. cond b (Ok (super_of super_block)) (Err Sum)) summed_super

-- only the first place of a superblock lies in the image
stands : standing image places ≡ superblock super_block 65536 ∷ []
unfolding standing sealed
stands = refl

-- so it is the superblock of the image
sup : image_super image ≡ Ok (super_of super_block)
unfolding super_of sealed
sup = ap slot_answer (stands ∙ ap (λ r. r ∷ []) super_is)

-- what is known at the start
pub begun : start_of images ≡ Ok start
unfolding super_of sealed
begun = ap (λ r. start_with images (super_then 0 r (Ok []))) sup

-- one of one
of_one : {X : Type 0} (p : X → Bool) (x : X) → p x ≡ true → filter p (x ∷ []) ≡ x ∷ []
of_one p x is = ap (λ b. cond b (x ∷ []) []) is

-- the first of some candidates, or that the block is lost
abbrev first_or_lost : ℕ → List (List ℕ) → Result (List ℕ) Fault
first_or_lost addr found = or_lost addr (slice_get found 0)

-- the chunk tree's leaf has a candidate that passes
pub chunk_fate : fate images layout (Tree 1048576 7 0) ≡ Ok chunk_tree
unfolding sealed
chunk_fate = ap (first_or_lost 1048576) (of_one (passes layout.setting (Tree 1048576 7 0)) chunk_tree summed_chunks)

-- the root tree's leaf has a candidate that passes
pub root_fate : fate images layout (Tree 1052672 7 0) ≡ Ok root_tree
unfolding sealed
root_fate = ap (first_or_lost 1052672) (of_one (passes layout.setting (Tree 1052672 7 0)) root_tree summed_roots)

-- the leaf of the tree of files has a candidate that passes
pub file_fate : fate images layout (Tree 1056768 7 0) ≡ Ok file_tree
unfolding sealed
file_fate = ap (first_or_lost 1056768) (of_one (passes layout.setting (Tree 1056768 7 0)) file_tree summed_files)

-- the extent tree's leaf has a candidate that passes
pub extent_fate : fate images layout (Tree 1060864 7 0) ≡ Ok extent_tree
unfolding sealed
extent_fate = ap (first_or_lost 1060864) (of_one (passes layout.setting (Tree 1060864 7 0)) extent_tree summed_extents)

-- ---- each candidate that passes is the committed block

-- what is in a filtered list of one is that one
in_one : {X : Type 0} (p : X → Bool) (x c : X) → Contains (filter p (x ∷ [])) c → c ≡ x
in_one p x c = of (p x)
  where
    of : (b : Bool) → Contains (cond b (x ∷ []) []) c → c ≡ x
    of true (zero, lt, is) = sym is
    of true (suc k, lt, is) = absurd (omega (arith, lt))
    of false (k, lt, is) = absurd (omega (arith, lt))

-- a test of a number
pub equal : (n m : ℕ) → (n == m) ≡ true → n ≡ m
equal n m e = eqb-true n m e

-- a candidate of a tree block at an address that passes
abbrev Passing : ℕ → ℕ → ℕ → List ℕ → Type 0
Passing addr generation level candidate = Contains (passing_for images (sought layout (Tree addr generation level))) candidate

-- the candidates at the four addresses
passing_at : (generation level : ℕ) (candidate : List ℕ) → (Passing 1048576 generation level candidate → candidate ≡ chunk_tree)
    × (Passing 1052672 generation level candidate → candidate ≡ root_tree) × (Passing 1056768 generation level candidate → candidate ≡ file_tree)
    × (Passing 1060864 generation level candidate → candidate ≡ extent_tree)
unfolding sealed
passing_at generation level candidate = (
  in_one (passes layout.setting (Tree 1048576 generation level)) chunk_tree candidate,
  in_one (passes layout.setting (Tree 1052672 generation level)) root_tree candidate,
  in_one (passes layout.setting (Tree 1056768 generation level)) file_tree candidate,
  in_one (passes layout.setting (Tree 1060864 generation level)) extent_tree candidate,
)

some_is : (a b : List ℕ) → ◌≡◌ {A = Option (List ℕ)} (Some a) (Some b) → a ≡ b
some_is a b e = cc e

-- what passes at an address where a block was committed is that block
honest_at : (addr generation level : ℕ) (bytes candidate : List ℕ) → block_at addr ≡ Some bytes → Passing addr generation level candidate → candidate ≡ bytes
honest_at addr generation level bytes candidate is passing =
    first (addr == 1048576) refl is
  where
    at : (n : ℕ) → (addr == n) ≡ true → Passing n generation level candidate
    at n e = subst (λ a. Passing a generation level candidate) (equal addr n e) passing

    fourth : (b : Bool) → (addr == 1060864) ≡ b → cond b (Some extent_tree) None ≡ Some bytes → candidate ≡ bytes
    fourth true e is = (passing_at generation level candidate).3 (at 1060864 e) ∙ some_is extent_tree bytes is
    fourth false e is = absurd (cc is)

    third : (b : Bool) → (addr == 1056768) ≡ b → cond b (Some file_tree) (cond (addr == 1060864) (Some extent_tree) None) ≡ Some bytes → candidate ≡ bytes
    third true e is = (passing_at generation level candidate).2 (at 1056768 e) ∙ some_is file_tree bytes is
    third false e is = fourth (addr == 1060864) refl is

    second : (b : Bool) → (addr == 1052672) ≡ b
        → cond b (Some root_tree) (cond (addr == 1056768) (Some file_tree) (cond (addr == 1060864) (Some extent_tree) None)) ≡ Some bytes → candidate ≡ bytes
    second true e is = (passing_at generation level candidate).1 (at 1052672 e) ∙ some_is root_tree bytes is
    second false e is = third (addr == 1056768) refl is

    first : (b : Bool) → (addr == 1048576) ≡ b
        → cond b (Some chunk_tree) (cond (addr == 1052672) (Some root_tree) (cond (addr == 1056768) (Some file_tree)
        (cond (addr == 1060864) (Some extent_tree) None))) ≡ Some bytes → candidate ≡ bytes
    first true e is = (passing_at generation level candidate).0 (at 1048576 e) ∙ some_is chunk_tree bytes is
    first false e is = second (addr == 1052672) refl is

-- the image is honest
pub honest : IsHonest committed_blocks images (layout_by start table)
honest (Tree addr generation level) bytes candidate is passing = of ((generation == 7) && (level == 0)) is
  where
    of : (b : Bool) → cond b (block_at addr) None ≡ Some bytes → candidate ≡ bytes
    of true is = honest_at addr generation level bytes candidate is passing
    of false is = absurd (cc is)
honest (Block addr) bytes candidate is passing = absurd (cc is)
honest (Sector addr sum) bytes candidate is passing = absurd (cc is)
honest (Plain addr) bytes candidate is passing = absurd (cc is)

-- ---- the copies agree: there is one of each block

-- two of a list of at most one
both_one : (found : List (List ℕ)) (a b : List ℕ) → length found ≤ 1 → Contains found a → Contains found b → a ≡ b
both_one [] a b few (k, lt, is) (j, lt', is') = absurd (omega (arith, lt))
both_one (x ∷ []) a b few (zero, lt, is) (zero, lt', is') = sym is ∙ is'
both_one (x ∷ []) a b few (suc k, lt, is) (j, lt', is') = absurd (omega (arith, lt))
both_one (x ∷ []) a b few (k, lt, is) (suc j, lt', is') = absurd (omega (arith, lt'))
both_one (x ∷ y ∷ xs) a b few p q = absurd (omega (arith, few))

-- a filtered list of at most one
few_passing : (p : List ℕ → Bool) (found : List (List ℕ)) → length found ≤ 1 → length (filter p found) ≤ 1
few_passing p [] few = few
few_passing p (x ∷ []) few = of (p x)
  where
    of : (b : Bool) → length (cond b (x ∷ []) []) ≤ 1
    of true = omega arith
    of false = omega arith
few_passing p (x ∷ y ∷ xs) few = absurd (omega (arith, few))

-- a want in the chunk has at most one candidate that stands
few_reading : (want : Want) (at : Elements) → length (readings images (target layout want chunk at)) ≤ 1
few_reading want at = of (stands_so (target layout want chunk at) (Read (Mirror 0)))
  where
    of : (b : Bool) → length (filter_map (λ (o : Option (List ℕ)). o)
        (cond b (Some (value_of images (target layout want chunk at) (Read (Mirror 0)))) None ∷ [])) ≤ 1
    of true = omega arith
    of false = omega arith

-- two candidates of a want that pass are equal, whether it has a position in the chunk or not
agree_at : (want : Want) (e : Result Elements MapFault) (a b : List ℕ)
    → Contains (passing_for images (sought_at layout want chunk e)) a → Contains (passing_for images (sought_at layout want chunk e)) b → a ≡ b
agree_at want (Err Unmapped) a b p q = both_one [] a b (omega arith) p q
agree_at want (Err Crosses) a b p q = both_one [] a b (omega arith) p q
agree_at want (Ok at) a b p q =
    both_one (passing images (target layout want chunk at)) a b
    (few_passing (passes layout.setting want) (readings images (target layout want chunk at)) (few_reading want at)) p q

-- the candidates of each tested block that pass are equal
pub agreed : Agreed images layout
agreed want tested a b = of (holds chunk (addr_of want))
  where
    of : (b' : Bool) → Contains (passing_for images (sought_in layout want (cond b' (Some chunk) None))) a
        → Contains (passing_for images (sought_in layout want (cond b' (Some chunk) None))) b → a ≡ b
    of true p q = agree_at want (elements_of chunk (addr_of want) (len_of layout.setting want)) a b p q
    of false p q = both_one [] a b (omega arith) p q
