-- The system array of a superblock: pairs of a key and the chunk item of that key, one after another.
use Rattle.std.specs.Prelude.{◌≡◌, ℕ, zero, suc, ◌+◌, ◌*◌, Bool, List, [], length, drop, slice_range, slice_index, Result, Ok, Err, if◌then◌else◌}
use Rattle.std.specs.Prelude.{◌==◌, ◌&&◌, not, nat_le}
use Rattle.btr_base.specs.Field.{number_at}
use Rattle.btr_chunk.specs.declared.chunk.Chunk.{Chunk}
use Rattle.btr_chunk.specs.declared.fault.ChunkFault.{ChunkFault}
use Rattle.btr_chunk.specs.declared.fault.ChunkFault.TheVariants as item
use Rattle.btr_chunk.specs.declared.add.AddFault.{AddFault}
use Rattle.btr_chunk.specs.declared.array.ArrayFault.{ArrayFault}
use Rattle.btr_chunk.specs.declared.array.ArrayFault.TheVariants.{BadArray, Stripes, BadChunk, Memory}
use Rattle.btr_chunk.specs.Item.{chunk_of}
use Rattle.btr_chunk.specs.Table.{added}

-- how many bytes the first pair has: a key of 17 bytes, and an item of 48 and 32 for each stripe that it states
abbrev pub pair_size : List ℕ → ℕ
pair_size bytes = 65 + 32 * number_at 2 61 bytes

-- whether the bytes begin with a pair: its key is (256, 228, start), and its item states some stripe
abbrev pub begins_pair : List ℕ → Bool
begins_pair bytes =
    nat_le 65 (length bytes) && (number_at 8 0 bytes == 256) && (slice_index bytes 8 == 228)
    && not (number_at 2 61 bytes == 0) && nat_le (pair_size bytes) (length bytes)

-- what adding a chunk of the array comes to; a chunk that can't be added is bad
abbrev pub if_added : ℕ → Result (List Chunk) AddFault → Result (List Chunk) ArrayFault
if_added start (Ok chunks) = Ok chunks
if_added start (Err _) = Err (BadChunk start)

-- what an item of the array comes to, after some chunks
abbrev pub with_item : List Chunk → ℕ → Result Chunk ChunkFault → Result (List Chunk) ArrayFault
with_item chunks start (Ok chunk) = if_added start (added chunks chunk)
with_item chunks start (Err (item.Stripes n)) = Err (Stripes n)
with_item chunks start (Err item.Bad) = Err (BadChunk start)
with_item chunks start (Err item.Memory) = Err Memory

-- what the first pair comes to, after some chunks
abbrev pub first_pair : List Chunk → List ℕ → Result (List Chunk) ArrayFault
first_pair chunks bytes =
    if begins_pair bytes
    then with_item chunks (number_at 8 9 bytes) (chunk_of (number_at 8 9 bytes) (slice_range bytes 17 (pair_size bytes)))
    else Err BadArray

-- the first refusal, or what comes after it
abbrev pub and_then : Result (List Chunk) ArrayFault → (List Chunk → Result (List Chunk) ArrayFault) → Result (List Chunk) ArrayFault
and_then (Ok chunks) rest = rest chunks
and_then (Err fault) rest = Err fault

-- what the pairs in the bytes, of which there are at most n, come to after some chunks
abbrev pub array_after : ℕ → List Chunk → List ℕ → Result (List Chunk) ArrayFault
array_after zero chunks bytes = Ok chunks
array_after (suc n) chunks bytes =
    if length bytes == 0 then Ok chunks
    else and_then (first_pair chunks bytes) (λ more. array_after n more (drop (pair_size bytes) bytes))

-- what a system array comes to: its chunks, or the first refusal
abbrev pub array_of : List ℕ → Result (List Chunk) ArrayFault
array_of bytes = array_after (length bytes) [] bytes

-- a reading answers what the array comes to, or that there is no memory
abbrev pub IsArrayReading : Result (List Chunk) ArrayFault → Result (List Chunk) ArrayFault → Type 0
IsArrayReading array (Ok chunks) = array ≡ Ok chunks
IsArrayReading array (Err BadArray) = array ≡ Err BadArray
IsArrayReading array (Err (Stripes n)) = array ≡ Err (Stripes n)
IsArrayReading array (Err (BadChunk start)) = array ≡ Err (BadChunk start)
IsArrayReading array (Err Memory) = Unit {0}

-- the same of one item or pair, after which the chunks are `new`
abbrev pub IsItemReading : {T : Type 0} → Result (List Chunk) ArrayFault → Result T ArrayFault → List Chunk → Type 0
IsItemReading item (Ok _) new = item ≡ Ok new
IsItemReading item (Err BadArray) new = item ≡ Err BadArray
IsItemReading item (Err (Stripes n)) new = item ≡ Err (Stripes n)
IsItemReading item (Err (BadChunk start)) new = item ≡ Err (BadChunk start)
IsItemReading item (Err Memory) new = Unit {0}
