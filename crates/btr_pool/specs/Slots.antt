-- What a contract sees of a pool: its slots, each with its bytes, lent or free.
use Rattle.std.specs.Prelude.{◌≡◌, ℕ, zero, suc, ◌*◌, Bool, true, false, not, List, [], ◌∷◌, ◌++◌, take, drop, length, replicate, slice_index_or}
use Rattle.std.specs.Prelude.{slice_set, count_by, map, Option, Some, None, if◌then◌else◌, ◌<◌}
use Rattle.std.specs.List.{concat, range_with_len}

-- a pool of slots of one size, each with its bytes, lent or free
pub record Slots : Type 0 where
  -- the number of bytes of each slot
  pub size : ℕ
  -- by slot, whether it is lent
  pub lent : List Bool
  -- by slot, its bytes: those of its loan, or what was left in it
  pub bytes : List (List ℕ)

-- the loan of slot k is live: there is such a slot, and it is lent
pub record IsLive (pool : Slots) (k : ℕ) : Type 0 where
  pub there : k < length pool.bytes
  pub lent : slice_index_or pool.lent k false ≡ true

-- there is a slot k, and it is free
pub record IsFree (pool : Slots) (k : ℕ) : Type 0 where
  pub there : k < length pool.bytes
  pub free : slice_index_or pool.lent k true ≡ false

-- the number of free slots
abbrev pub free_count : Slots → ℕ
free_count pool = count_by not pool.lent

-- the bytes of slot k
abbrev pub bytes_at : Slots → ℕ → List ℕ
bytes_at pool k = slice_index_or pool.bytes k []

-- the loan of slot k with its bytes, if it is live
abbrev pub loan_at : Slots → ℕ → Option (List ℕ)
loan_at pool k = if slice_index_or pool.lent k false then Some (bytes_at pool k) else None

-- the pool as a map from its live loans to their bytes, in the order of the slots. It
-- says nothing of what was left in a free slot
abbrev pub loans_of : Slots → List (Option (List ℕ))
loans_of pool = map (loan_at pool) (range_with_len 0 (length pool.lent))

-- count free slots of size zeros each
abbrev pub zeroed : ℕ → ℕ → Slots
zeroed size count = record { size = size; lent = replicate count false; bytes = replicate count (replicate size 0) }

-- the pool with slot k lent. No byte changes
abbrev pub with_lent : Slots → ℕ → Slots
with_lent pool k = record { size = pool.size; lent = slice_set pool.lent k true; bytes = pool.bytes }

-- the pool with slot k free. No byte changes
abbrev pub with_free : Slots → ℕ → Slots
with_free pool k = record { size = pool.size; lent = slice_set pool.lent k false; bytes = pool.bytes }

-- the pool with other bytes in slot k. No other slot changes
abbrev pub with_bytes : Slots → ℕ → List ℕ → Slots
with_bytes pool k written = record { size = pool.size; lent = pool.lent; bytes = slice_set pool.bytes k written }

-- the pool with another byte in slot k
abbrev pub with_byte : Slots → ℕ → ℕ → ℕ → Slots
with_byte pool k at byte = with_bytes pool k (slice_set (bytes_at pool k) at byte)

-- count pieces of size bytes each, one after another
abbrev pub pieces : ℕ → ℕ → List ℕ → List (List ℕ)
pieces zero size bytes = []
pieces (suc count) size bytes = take size bytes ∷ pieces count size (drop size bytes)

-- the pool with bytes written from the start of slot k on, as many as there are
abbrev pub poured : Slots → ℕ → List ℕ → Slots
poured pool k written =
    let region = concat pool.bytes in
    let before = take (k * pool.size) region in
    let after = drop (length written) (drop (k * pool.size) region) in
    record { size = pool.size; lent = pool.lent; bytes = pieces (length pool.bytes) pool.size (before ++ (written ++ after)) }

-- bytes poured in from the start of slot k on, as many as the slot has, change no other slot
abbrev pub FillsAlone : Slots → ℕ → Type 0
FillsAlone pool k = (written : List ℕ) → length written ≡ pool.size → poured pool k written ≡ with_bytes pool k written
