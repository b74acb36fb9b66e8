-- Each chunk of a table keeps the rule.
use Rattle.std.proofs.Common.{◌≡◌, ℕ, zero, suc, ◌+◌, ◌*◌, Bool, true, false, cond, ◌&&◌, eqb, nat_lt, nat_le, List, [], ◌∷◌, length, drop}
use Rattle.std.proofs.Common.{slice_range, Option, Some, None, Result, Ok, Err, refl, subst, arith}
use Rattle.std.proofs.lemmas.Bool.{and_parts, ltb-false}
use Rattle.std.proofs.lemmas.List.Elements.{All-cons, All-head, All-tail}
use Rattle.std.proofs.lemmas.List.FromFn.{length-map-range_with_len}
use Rattle.std.specs.List.{list_any}
use Rattle.std.specs.Option.{option_map_or}
use Rattle.btr_base.specs.Field.{number_at}
use Rattle.btr_chunk.specs.declared.add.AddFault.{AddFault}
use Rattle.btr_chunk.specs.declared.add.AddFault.TheVariants as add_fault
use Rattle.btr_chunk.specs.declared.array.ArrayFault.{ArrayFault}
use Rattle.btr_chunk.specs.declared.array.ArrayFault.TheVariants as array_fault
use Rattle.btr_chunk.specs.declared.chunk.Chunk.{Chunk}
use Rattle.btr_chunk.specs.declared.fault.ChunkFault.{ChunkFault}
use Rattle.btr_chunk.specs.declared.fault.ChunkFault.TheVariants as chunk_fault
use Rattle.btr_chunk.specs.declared.profile.Profile.{Profile}
use Rattle.btr_chunk.specs.Array.{and_then, array_after, begins_pair, first_pair, if_added, pair_size, with_item}
use Rattle.btr_chunk.specs.Chunk.{IsChunk, keeps_rule}
use Rattle.btr_chunk.specs.Item.{chunk_of, chunk_with, count_in, described, has_form, stripe_at}
use Rattle.btr_chunk.specs.Kind.{profile_of_kind}
use Rattle.btr_chunk.specs.Table.{added, overlaps, placed, same_chunk}
use Rattle.btr_send.proofs.Long.{AreChunks}

-- with a chunk that keeps the rule placed among them, all chunks do
placed_all : (chunk : Chunk) (chunks : List Chunk) → IsChunk chunk → AreChunks chunks → AreChunks (placed chunk chunks)
placed_all chunk [] is are = All-cons IsChunk chunk [] is are
placed_all chunk (c ∷ chunks) is are = by (nat_lt chunk.start c.start) (placed_all chunk chunks is (All-tail IsChunk c chunks are))
  where
    by : (b : Bool) → AreChunks (placed chunk chunks) → AreChunks (cond b (chunk ∷ c ∷ chunks) (c ∷ placed chunk chunks))
    by true rest = All-cons IsChunk chunk (c ∷ chunks) is are
    by false rest = All-cons IsChunk c (placed chunk chunks) (All-head IsChunk c chunks are) rest

-- so does each behind one more
pub added_all : (chunks : List Chunk) (chunk : Chunk) (new : List Chunk) → AreChunks chunks → IsChunk chunk → added chunks chunk ≡ Ok new → AreChunks new
added_all chunks chunk new are is e =
    by (list_any (same_chunk chunk) chunks) (overlaps chunks chunk) (nat_le 65536 (length chunks)) e
  where
    by : (there over many : Bool)
        → cond there (Ok chunks) (cond over (Err add_fault.Overlap) (cond many (Err add_fault.Chunks) (Ok (placed chunk chunks)))) ≡ Ok new
        → AreChunks new
    by true over many e = let same : chunks ≡ new = cc e in subst AreChunks same are
    by false true many e = absurd (cc e)
    by false false true e = absurd (cc e)
    by false false false e = let same : placed chunk chunks ≡ new = cc e in subst AreChunks same (placed_all chunk chunks is are)

-- what an item comes to keeps the rule
chunk_by : (start : ℕ) (bytes : List ℕ) (chunk : Chunk) (o : Option Profile) → nat_lt 64 (count_in bytes) ≡ false
    → profile_of_kind (number_at 8 24 bytes) ≡ o → option_map_or (chunk_with start bytes) o (Err chunk_fault.Bad) ≡ Ok chunk → IsChunk chunk
chunk_by start bytes chunk None few kind e = absurd (cc e)
chunk_by start bytes chunk (Some profile) few kind e = by (has_form bytes profile && keeps_rule (described start bytes profile)) refl e
  where
    is : keeps_rule (described start bytes profile) ≡ true → IsChunk (described start bytes profile)
    is rule = record {
      few = omega (arith, ltb-false 64 (count_in bytes) few, length-map-range_with_len (λ i. stripe_at (48 + 32 * i) bytes) 0 (count_in bytes));
      kind = kind;
      rule = rule;
    }

    by : (b : Bool) → (has_form bytes profile && keeps_rule (described start bytes profile)) ≡ b
        → cond b (Ok (described start bytes profile)) (Err chunk_fault.Bad) ≡ Ok chunk → IsChunk chunk
    by true both e =
        let same : described start bytes profile ≡ chunk = cc e in
        subst IsChunk same (is (and_parts (has_form bytes profile) (keeps_rule (described start bytes profile)) both).1)
    by false both e = absurd (cc e)

-- a chunk that an item comes to keeps the rule
pub chunk_sound : (start : ℕ) (bytes : List ℕ) (chunk : Chunk) → chunk_of start bytes ≡ Ok chunk → IsChunk chunk
chunk_sound start bytes chunk e = by (nat_lt (length bytes) 48) (nat_lt 64 (count_in bytes)) refl e
  where
    by : (short many : Bool) → nat_lt 64 (count_in bytes) ≡ many
        → cond short (Err chunk_fault.Bad) (cond many (Err (chunk_fault.Stripes (count_in bytes)))
        (option_map_or (chunk_with start bytes) (profile_of_kind (number_at 8 24 bytes)) (Err chunk_fault.Bad))) ≡ Ok chunk → IsChunk chunk
    by true many few e = absurd (cc e)
    by false true few e = absurd (cc e)
    by false false few e = chunk_by start bytes chunk (profile_of_kind (number_at 8 24 bytes)) few refl e

-- the same of the system array

-- the chunks that an array comes to keep the rule, if it isn't refused
abbrev pub Sound : Result (List Chunk) ArrayFault → Type 0
Sound (Ok chunks) = AreChunks chunks
Sound (Err fault) = Unit {0}

-- where a chunk that keeps the rule is added, the chunks of the array do
array_if : (start : ℕ) (chunks : List Chunk) (chunk : Chunk) (r : Result (List Chunk) AddFault) → added chunks chunk ≡ r → AreChunks chunks
    → IsChunk chunk → Sound (if_added start r)
array_if start chunks chunk (Ok new) e are is = added_all chunks chunk new are is e
array_if start chunks chunk (Err fault) e are is = tt

-- where an item of the array is read as a chunk and added, the chunks of the array keep the rule
array_item : (start : ℕ) (bytes : List ℕ) (chunks : List Chunk) (r : Result Chunk ChunkFault) → chunk_of start bytes ≡ r → AreChunks chunks
    → Sound (with_item chunks start r)
array_item start bytes chunks (Ok chunk) e are = array_if start chunks chunk (added chunks chunk) refl are (chunk_sound start bytes chunk e)
array_item start bytes chunks (Err (chunk_fault.Stripes n)) e are = tt
array_item start bytes chunks (Err chunk_fault.Bad) e are = tt
array_item start bytes chunks (Err chunk_fault.Memory) e are = tt

-- with the first pair of an array added, the chunks keep the rule
array_pair : (chunks : List Chunk) (bytes : List ℕ) → AreChunks chunks → Sound (first_pair chunks bytes)
array_pair chunks bytes are =
    by (begins_pair bytes) (with_item chunks (number_at 8 9 bytes) (chunk_of (number_at 8 9 bytes) (slice_range bytes 17 (pair_size bytes))))
    (array_item (number_at 8 9 bytes) (slice_range bytes 17 (pair_size bytes)) chunks
    (chunk_of (number_at 8 9 bytes) (slice_range bytes 17 (pair_size bytes))) refl are)
  where
    by : (b : Bool) (r : Result (List Chunk) ArrayFault) → Sound r → Sound (cond b r (Err array_fault.BadArray))
    by true r is = is
    by false r is = tt

-- with all pairs of an array added, the chunks keep the rule
pub array_all : (n : ℕ) (chunks : List Chunk) (bytes : List ℕ) → AreChunks chunks → Sound (array_after n chunks bytes)
array_all zero chunks bytes are = are
array_all (suc n) chunks bytes are =
    by (eqb (length bytes) 0) (first_pair chunks bytes) (array_pair chunks bytes are) (λ more these. array_all n more (drop (pair_size bytes) bytes) these)
  where
    by : (b : Bool) (r : Result (List Chunk) ArrayFault) → Sound r
        → ((more : List Chunk) → AreChunks more → Sound (array_after n more (drop (pair_size bytes) bytes)))
        → Sound (cond b (Ok chunks) (and_then r (λ more. array_after n more (drop (pair_size bytes) bytes))))
    by true r is rest = are
    by false (Ok more) is rest = rest more is
    by false (Err fault) is rest = tt
