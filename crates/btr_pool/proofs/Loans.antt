-- What callers need to know of loans: which are live after a call, and what they hold.
use Rattle.std.proofs.Common.{◌≡◌, ◌≢◌, ℕ, ◌+◌, ◌<◌, Bool, true, false, not, cond, List, [], length, map, get_or, set, count_by, Option, Some, None, refl, sym}
use Rattle.std.proofs.Common.{ap, ◌∙◌, inl, inr, arith}
use Rattle.std.proofs.lemmas.Bool.{cases_eq, cases_lt, false≢true}
use Rattle.std.proofs.lemmas.List.{length-set, same_lists, get_or_default, get_or_past, get_or-set_same, get_or-set_other, set-set, set-get_or}
use Rattle.std.proofs.lemmas.List.FromFn.{fill_by_all, length-map-range_with_len, get_or-map-range_with_len}
use Rattle.std.proofs.lemmas.List.Folds.{fold-map}
use Rattle.std.specs.List.{range_with_len}
use Rattle.std.specs.Option.{is_none}
use Rattle.std.proofs.lemmas.List.Sums.{sum_by-set}
use Rattle.btr_pool.specs.Slots.{Slots, IsLive, IsFree, free_count, bytes_at, loan_at, loans_of, with_lent, with_free, with_bytes}

-- a slot that the list says is lent, or free, is there
pub live_below : (lent : List Bool) (k : ℕ) → get_or lent k false ≡ true → k < length lent
live_below lent k live = elim (cases_lt k (length lent)) [ inl lt ↦ lt | inr past ↦ absurd (false≢true (sym (get_or_past lent k false past) ∙ live)) ]

-- a slot that the list says is free is there
pub free_below : (lent : List Bool) (k : ℕ) → get_or lent k true ≡ false → k < length lent
free_below lent k free = elim (cases_lt k (length lent)) [ inl lt ↦ lt | inr past ↦ absurd (false≢true (sym free ∙ get_or_past lent k true past)) ]

-- a free slot is not lent
lent_of_free : (lent : List Bool) (k : ℕ) → get_or lent k true ≡ false → get_or lent k false ≡ false
lent_of_free lent k free = get_or_default lent k false true (free_below lent k free) ∙ free

-- a live loan is not of a free slot: what `take` answers is no loan that was live
pub apart : (pool : Slots) (j k : ℕ) → IsLive pool j → IsFree pool k → j ≢ k
apart pool j k live free e = false≢true (sym (lent_of_free pool.lent k free.free) ∙ (ap (λ n. get_or pool.lent n false) (sym e) ∙ live.lent))

-- what was taken is live
pub live_when_lent : (pool : Slots) (k : ℕ) → IsFree pool k → IsLive (with_lent pool k) k
live_when_lent pool k free = record { there = free.there; lent = get_or-set_same pool.lent k true false (free_below pool.lent k free.free) }

-- the other loans stay live
pub live_after_take : (pool : Slots) (j k : ℕ) → IsLive pool j → IsLive (with_lent pool k) j
live_after_take pool j k live = record {
  there = live.there;
  lent = elim (cases_eq j k) [
    | inl e ↦ ap (λ n. get_or (set pool.lent n true) j false) (sym e) ∙ get_or-set_same pool.lent j true false (live_below pool.lent j live.lent)
    | inr ne ↦ get_or-set_other pool.lent k j true false ne ∙ live.lent
  ];
}

-- the other loans stay live where one is given back
pub live_after_give : (pool : Slots) (j k : ℕ) → j ≢ k → IsLive pool j → IsLive (with_free pool k) j
live_after_give pool j k ne live = record { there = live.there; lent = get_or-set_other pool.lent k j false false ne ∙ live.lent }

-- all loans stay live where bytes are written
pub live_after_write : (pool : Slots) (j k : ℕ) (written : List ℕ) → IsLive pool j → IsLive (with_bytes pool k written) j
live_after_write pool j k written live = record { there = omega (arith, live.there, length-set pool.bytes k written); lent = live.lent }

-- what was given back is free
pub free_when_given : (pool : Slots) (k : ℕ) → IsLive pool k → IsFree (with_free pool k) k
free_when_given pool k live = record { there = live.there; free = get_or-set_same pool.lent k false true (live_below pool.lent k live.lent) }

-- a loan has what was written to it, and every other slot what it had
pub bytes_at-with_bytes_same : (pool : Slots) (k : ℕ) (written : List ℕ) → IsLive pool k → bytes_at (with_bytes pool k written) k ≡ written
bytes_at-with_bytes_same pool k written live = get_or-set_same pool.bytes k written [] live.there

-- other slots keep their bytes where one is written
pub bytes_at-with_bytes_other : (pool : Slots) (j k : ℕ) (written : List ℕ) → j ≢ k → bytes_at (with_bytes pool k written) j ≡ bytes_at pool j
bytes_at-with_bytes_other pool j k written ne = get_or-set_other pool.bytes k j written [] ne

-- to take a slot and give it back leaves the pool as it was
pub with_free-with_lent : (pool : Slots) (k : ℕ) → IsFree pool k → with_free (with_lent pool k) k ≡ pool
with_free-with_lent pool k free =
    let back : set (set pool.lent k true) k false ≡ pool.lent =
    set-set pool.lent k true false ∙ ap (set pool.lent k) (sym free.free) ∙ set-get_or pool.lent k true in
    λ i. record { size = pool.size; lent = back i; bytes = pool.bytes }

-- lending a free slot makes the free ones one fewer, by the list
count_set : (lent : List Bool) (k : ℕ) → get_or lent k true ≡ false → count_by not (set lent k true) + 1 ≡ count_by not lent
count_set lent k free =
    let counts : Bool → ℕ = λ b. cond (not b) 1 0 in
    let one : counts (get_or lent k true) ≡ counts false = ap counts free in
    omega (arith, one, sum_by-set counts lent k true true (free_below lent k free))

-- one free slot fewer
pub free_count-with_lent : (pool : Slots) (k : ℕ) → IsFree pool k → free_count (with_lent pool k) + 1 ≡ free_count pool
free_count-with_lent pool k free = count_set pool.lent k free.free

-- and one more
pub free_count-with_free : (pool : Slots) (k : ℕ) → IsLive pool k → free_count (with_free pool k) ≡ free_count pool + 1
free_count-with_free pool k live =
    let again : set (set pool.lent k false) k true ≡ pool.lent =
    set-set pool.lent k false true ∙ ap (set pool.lent k) (sym live.lent) ∙ set-get_or pool.lent k false in
    let free = free_when_given pool k live in
    sym (count_set (set pool.lent k false) k free.free) ∙ ap (λ lent. count_by not lent + 1) again

-- the map of the loans changed at one slot
loans_changed : (old new : Slots) (k : ℕ) (loan : Option (List ℕ)) → length new.lent ≡ length old.lent → k < length old.lent → loan_at new k ≡ loan
    → ((j : ℕ) → j ≢ k → loan_at new j ≡ loan_at old j) → loans_of new ≡ set (loans_of old) k loan
loans_changed old new k loan size below here others =
    let count = length old.lent in
    let old_size : length (loans_of old) ≡ count = length-map-range_with_len (loan_at old) 0 count in
    let new_size : length (loans_of new) ≡ count = length-map-range_with_len (loan_at new) 0 (length new.lent) ∙ size in
    same_lists (loans_of new) (set (loans_of old) k loan) (new_size ∙ sym (length-set (loans_of old) k loan ∙ old_size)) (λ j d lt.
    let within : j < count = omega (arith, lt, new_size) in
    let at : get_or (loans_of new) j d ≡ loan_at new j =
    get_or-map-range_with_len (loan_at new) 0 (length new.lent) j j d (omega (arith, within, size)) (omega arith) in
    at ∙ elim (cases_eq j k) [
      | inl e ↦ ap (loan_at new) e ∙ here ∙ sym (ap (λ n. get_or (set (loans_of old) k loan) n d) e
          ∙ get_or-set_same (loans_of old) k loan d (omega (arith, below, old_size)))
      | inr ne ↦ others j ne ∙ sym (get_or-set_other (loans_of old) k j loan d ne ∙ get_or-map-range_with_len (loan_at old) 0 count j j d within (omega arith))
    ])

-- `take` adds a loan to the map, `give` takes one out, and a write changes one; the bytes of a free slot aren't in it
pub loans_of-with_lent : (pool : Slots) (k : ℕ) → IsFree pool k → loans_of (with_lent pool k) ≡ set (loans_of pool) k (Some (bytes_at pool k))
loans_of-with_lent pool k free =
    let live = live_when_lent pool k free in
    loans_changed pool (with_lent pool k) k (Some (bytes_at pool k)) (length-set pool.lent k true) (free_below pool.lent k free.free)
    (ap (λ lent. cond lent (Some (bytes_at pool k)) None) live.lent)
    (λ j ne. ap (λ lent. cond lent (Some (bytes_at pool j)) None) (get_or-set_other pool.lent k j true false ne))

-- giving a loan back takes it out of the map
pub loans_of-with_free : (pool : Slots) (k : ℕ) → IsLive pool k → loans_of (with_free pool k) ≡ set (loans_of pool) k None
loans_of-with_free pool k live =
    loans_changed pool (with_free pool k) k None (length-set pool.lent k false) (live_below pool.lent k live.lent)
    (ap (λ lent. cond lent (Some (bytes_at pool k)) None) (get_or-set_same pool.lent k false false (live_below pool.lent k live.lent)))
    (λ j ne. ap (λ lent. cond lent (Some (bytes_at pool j)) None) (get_or-set_other pool.lent k j false false ne))

-- writing to a live loan changes its bytes in the map
pub loans_of-with_bytes : (pool : Slots) (k : ℕ) (written : List ℕ) → IsLive pool k → loans_of (with_bytes pool k written)
    ≡ set (loans_of pool) k (Some written)
loans_of-with_bytes pool k written live =
    loans_changed pool (with_bytes pool k written) k (Some written) refl (live_below pool.lent k live.lent)
    (ap (λ lent. cond lent (Some (bytes_at (with_bytes pool k written) k)) None) live.lent ∙ ap Some (bytes_at-with_bytes_same pool k written live))
    (λ j ne. ap (λ bytes. cond (get_or pool.lent j false) (Some bytes) None) (bytes_at-with_bytes_other pool j k written ne))

-- writing to a free slot changes nothing in the map
pub loans_of-with_bytes_free : (pool : Slots) (k : ℕ) (written : List ℕ) → IsFree pool k → loans_of (with_bytes pool k written) ≡ loans_of pool
loans_of-with_bytes_free pool k written free =
    let none : loan_at pool k ≡ None = ap (λ lent. cond lent (Some (bytes_at pool k)) None) (lent_of_free pool.lent k free.free) in
    let there : k < length pool.lent = free_below pool.lent k free.free in
    let at : get_or (loans_of pool) k None ≡ None = get_or-map-range_with_len (loan_at pool) 0 (length pool.lent) k k None there (omega arith) ∙ none in
    loans_changed pool (with_bytes pool k written) k None refl there
    (ap (λ lent. cond lent (Some (bytes_at (with_bytes pool k written) k)) None) (lent_of_free pool.lent k free.free))
    (λ j ne. ap (λ bytes. cond (get_or pool.lent j false) (Some bytes) None) (bytes_at-with_bytes_other pool j k written ne))
    ∙ ap (set (loans_of pool) k) (sym at) ∙ set-get_or (loans_of pool) k None

-- as many slots are free as the map has none
pub count_by-loans_of : (pool : Slots) → count_by is_none (loans_of pool) ≡ free_count pool
count_by-loans_of pool =
    let places : List ℕ = range_with_len 0 (length pool.lent) in
    let lent : pool.lent ≡ map (λ k. get_or pool.lent k false) places =
    fill_by_all (λ k. get_or pool.lent k false) pool.lent (length pool.lent) false refl (λ k lt. refl) in
    let none : (λ k. is_none (loan_at pool k)) ≡ (λ k. not (get_or pool.lent k false)) = λ i k. none_of (get_or pool.lent k false) (bytes_at pool k) i in
    fold-map (λ n loan. n + cond (is_none loan) 1 0) (loan_at pool) 0 places
    ∙ ap (λ test. count_by test places) none
    ∙ sym (fold-map (λ n lent. n + cond (not lent) 1 0) (λ k. get_or pool.lent k false) 0 places)
    ∙ ap (count_by not) (sym lent)
  where
    -- a slot has no loan just where it is not lent
    none_of : (lent : Bool) (bytes : List ℕ) → is_none (cond lent (Some bytes) None) ≡ not lent
    none_of true bytes = refl
    none_of false bytes = refl

-- the laws above, for `grind`
pub ruleset loan_laws = (
  apart,
  live_when_lent,
  live_after_take,
  live_after_give,
  live_after_write,
  free_when_given,
  bytes_at-with_bytes_same,
  bytes_at-with_bytes_other,
  with_free-with_lent,
  free_count-with_lent,
  free_count-with_free,
  loans_of-with_lent,
  loans_of-with_free,
  loans_of-with_bytes,
  loans_of-with_bytes_free,
  set-set,
)
