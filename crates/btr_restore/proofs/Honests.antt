-- Over honest images, what is found of a want is the committed block.
use Rattle.std.proofs.Common.{◌≡◌, inl, inr, ℕ, ◌<◌, Bool, true, false, cond, ltb, length, List, [], ◌∷◌, Option, Some, None, Result, Ok, Err, refl, sym, ap}
use Rattle.std.proofs.Common.{subst, arith}
use Rattle.std.specs.Prelude.{IsSome, Contains, slice_get}
use Rattle.std.proofs.lemmas.Bool.Decides.{nat_tests}
use Rattle.std.proofs.lemmas.Option.{slice_get-get_or}
use Rattle.btr_chunk.specs.declared.chunk.Chunk.{Chunk}
use Rattle.btr_chunk.specs.declared.position.Elements.{Elements}
use Rattle.btr_chunk.specs.declared.mapping.MapFault.{MapFault}
use Rattle.btr_chunk.specs.declared.mapping.MapFault.TheVariants as map_fault
use Rattle.btr_chunk.specs.Mapping.{elements_of}
use Rattle.btr_chunk.specs.Table.{chunk_at}
use Rattle.btr_prog.specs.Blind.{IsAlike}
use Rattle.btr_prog.specs.Maps.{IsWithin, IsWhole}
use Rattle.btr_read.specs.Candidates.{Target}
use Rattle.btr_read.specs.Fate.{Fault, Lost, sought, sought_at, sought_in, passing, passing_for, or_lost, is_plain, chosen, choice_of, choices}
use Rattle.btr_read.specs.Layout.{Layout}
use Rattle.btr_read.specs.Want.{addr_of, len_of}
use Rattle.btr_read.specs.declared.want.Want.{Want}
use Rattle.btr_volume.specs.Start.{Images}
use Rattle.btr_files.proofs.AllMaps.{zero_chosen}
use Rattle.btr_restore.specs.Committed.{Commit, IsHonest, IsIn, EndsInOrder, committed, committed_of, committed_choices}

-- the first of a list stands in it
pub first_stands : (xs : List (List ℕ)) (x : List ℕ) → slice_get xs 0 ≡ Some x → Contains xs x
first_stands [] x is = absurd (cc)
first_stands (y ∷ ys) x is = (0, (omega arith), cc)

-- some bytes, all of which are the same as one
the_bytes : (o : Option (List ℕ)) (bytes : List ℕ) → IsSome o → ((b : List ℕ) → o ≡ Some b → bytes ≡ b) → o ≡ Some bytes
the_bytes None bytes there same = absurd (cc)
the_bytes (Some b) bytes there same = ap Some (sym (same b refl))

-- what a want comes to has its own bytes, or none
within_self : (r : Result (List ℕ) Fault) → IsWithin r r
within_self (Ok bytes) = refl
within_self (Err f) = tt

-- a choice among the same candidates
module _ (n addr : ℕ) where
  -- a number that is found to be below another is so
  below : (m : ℕ) → ltb n m ≡ true → n < m
  below m e = grind (arith, nat_tests)

  -- the candidate of the number, or the first where there aren't so many, and lost where there is none
  abbrev Bytes : List (List ℕ) → Bool → Result (List ℕ) Fault
  Bytes xs b = or_lost addr (slice_get xs (cond b n 0))

  -- where there is a candidate, each choice has bytes
  whole_chosen : (x : List ℕ) (xs : List (List ℕ)) (b : Bool) → ltb n (length (x ∷ xs)) ≡ b → IsWhole (Bytes (x ∷ xs) b)
  whole_chosen x xs true e = subst (λ o. IsWhole (or_lost addr o)) (sym (slice_get-get_or (x ∷ xs) n x (below (length (x ∷ xs)) e))) tt
  whole_chosen x xs false e = tt

  -- a candidate of a number, and the first
  alike_chosen : (xs : List (List ℕ)) → IsAlike true (or_lost addr (chosen n xs)) (or_lost addr (chosen 0 xs))
  alike_chosen [] = inl (ap (or_lost addr) (none_chosen (ltb n 0) (ltb 0 0)))
    where
      -- among no candidates each choice finds nothing
      none_chosen : (b c : Bool) → slice_get {X = List ℕ} [] (cond b n 0) ≡ slice_get [] (cond c 0 0)
      none_chosen b c = refl
  alike_chosen (x ∷ xs) =
      inr (
        refl,
        whole_chosen x xs (ltb n (length (x ∷ xs))) refl,
        subst (λ o. IsWhole (or_lost addr o))
            (sym (zero_chosen (ltb 0 (length (x ∷ xs))) (x ∷ xs))) tt,
      )

  module _ (xs : List (List ℕ)) (o : Option (List ℕ)) where
    -- where there is a test both choices come to what is committed, and else both have bytes or neither has
    alike_by : (plain : Bool) → IsAlike plain (or_lost addr (cond plain (chosen n xs) o)) (or_lost addr (cond plain (chosen 0 xs) o))
    alike_by true = alike_chosen xs
    alike_by false = inl refl

    -- what is found first is what is committed
    within_by : (plain : Bool) (found : Option (List ℕ)) → slice_get xs 0 ≡ found → (plain ≡ false → IsSome o)
        → ((bytes candidate : List ℕ) → o ≡ Some bytes → Contains xs candidate → candidate ≡ bytes)
        → IsWithin (or_lost addr (cond plain (chosen n xs) found)) (or_lost addr (cond plain (chosen n xs) o))
    within_by true found is there honest = within_self (or_lost addr (chosen n xs))
    within_by false None is there honest = tt
    within_by false (Some bytes) is there honest = ap (or_lost addr) (the_bytes o bytes (there refl) (λ b e. honest b bytes e (first_stands xs bytes is)))

module _ (C : Commit) (images : Images) (n : ℕ) (want : Want) where
  -- what is sought comes to the same by two choices of the committed blocks, but for its bytes where there is no test
  alike_of : (x : Result Target Fault) → IsAlike (is_plain want) (committed_of C images n want x) (committed_of C images 0 want x)
  alike_of (Err f) = inl refl
  alike_of (Ok t) = alike_by n (addr_of want) (passing images t) (C want) (is_plain want)

  -- of what is sought the images have the committed bytes or none, if each candidate that passes is the committed block
  within_of : (x : Result Target Fault) → IsIn C want → ((bytes candidate : List ℕ) → C want ≡ Some bytes → Contains (passing_for images x) candidate
      → candidate ≡ bytes) → IsWithin (choice_of images n want x) (committed_of C images n want x)
  within_of (Err f) there honest = tt
  within_of (Ok t) there honest = within_by n (addr_of want) (passing images t) (C want) (is_plain want) (slice_get (passing images t) 0) refl there honest

  module _ (layout : Layout) where
    -- two choices of the committed blocks differ only where there is no test
    pub choices_alike : IsAlike (is_plain want) (committed_choices C images n layout want) (committed C images layout want)
    choices_alike = alike_of (sought layout want)

    -- over honest images, what is found is what was committed
    pub choices_within : IsHonest C images layout → IsIn C want → IsWithin (choices images n layout want) (committed_choices C images n layout want)
    choices_within honest there = within_of (sought layout want) there (honest want)

    -- a want of which nothing is found is lost
    found_lost : (found : Option (List ℕ)) (f : Fault) → or_lost (addr_of want) found ≡ Err f → f ≡ Lost (addr_of want)
    found_lost None f is = cc
    found_lost (Some bytes) f is = absurd (cc)

    -- what the images lack of something sought is lost, where the committed blocks have it or lack only a candidate
    abbrev Lacks : Result Target Fault → Type 0
    Lacks x = (f : Fault) → EndsInOrder (committed_of C images 0 want x) → choice_of images n want x ≡ Err f → f ≡ Lost (addr_of want)

    -- only a lost want is a fault that is in order
    not_well : {P : Type 0} → false ≡ true → P
    not_well e = absurd (cc)

    -- a want that the images lack, in a chunk that holds its address, is lost
    at_lost : (chunk : Chunk) (x : Result Elements MapFault) → Lacks (sought_at layout want chunk x)
    at_lost chunk (Err map_fault.Unmapped) f well is = not_well well
    at_lost chunk (Err map_fault.Crosses) f well is = not_well well
    at_lost chunk (Ok at) f well is = found_lost _ f is

    -- a want that the images lack is lost, where a chunk holds its address; else the committed blocks are not in order
    in_lost : (o : Option Chunk) → Lacks (sought_in layout want o)
    in_lost None f well is = not_well well
    in_lost (Some chunk) f well is = at_lost chunk (elements_of chunk (addr_of want) (len_of layout.setting want)) f well is

    -- a want that is mapped, and that the images lack, is lost
    pub lacked_lost : (f : Fault) → EndsInOrder (committed C images layout want) → choices images n layout want ≡ Err f → f ≡ Lost (addr_of want)
    lacked_lost f well is = in_lost (chunk_at layout.chunks (addr_of want)) f well is
