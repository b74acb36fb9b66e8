-- The loans of a store.
use Rattle.std.proofs.Common.{◌≡◌, ◌≢◌, ℕ, ◌+◌, ◌<◌, Bool, true, false, not, cond, List, length, take, get_or, set, count_by, Option, Some, None, IsSome, refl}
use Rattle.std.proofs.Common.{sym, ap, ◌∙◌, subst, inl, inr, arith}
use Rattle.std.proofs.lemmas.Bool.{cases_lt, cases_eq, false≢true}
use Rattle.std.proofs.lemmas.List.{length-set, same_lists, get_or_past, get_or_default, get_or-set_same, get_or-set_other, set-set, set-get_or}
use Rattle.std.proofs.lemmas.List.FromFn.{length-map-range_with_len, get_or-map-range_with_len}
use Rattle.std.specs.Option.{is_none, option_map}
use Rattle.btr_pool.specs.Slots.{Slots, IsLive, IsFree, loan_at, loans_of, bytes_at, with_lent, with_free, free_count}
use Rattle.btr_pool.proofs.Loans.{live_when_lent, free_below, loans_of-with_free, count_by-loans_of, free_count-with_lent}
use Rattle.btr_chunk.specs.declared.chunk.Chunk.{Chunk}
use Rattle.btr_read.specs.declared.device.Member.{Member}
use Rattle.btr_read.specs.declared.setting.Setting.{Setting}
use Rattle.btr_read.specs.Store.{Blocks, Kept, Lent, block_of}
use Rattle.btr_read.specs.Writing.{OnlyWrites}
use Rattle.btr_read.proofs.Slots.{live_written}

-- a store by its parts
abbrev pub blocks : List Chunk → List Member → Setting → List (Option (List ℕ)) → List (Option Kept) → Blocks
blocks chunks devices setting loans kept = record { layout = record { chunks = chunks; devices = devices; setting = setting }; loans = loans; kept = kept }

-- the loan of a slot
pub loan_there : (pool : Slots) (k : ℕ) → k < length pool.lent → get_or (loans_of pool) k None ≡ loan_at pool k
loan_there pool k lt = get_or-map-range_with_len (loan_at pool) 0 (length pool.lent) k k None lt (omega arith)

-- each slot has an entry among the loans
pub length-loans : (pool : Slots) → length (loans_of pool) ≡ length pool.lent
length-loans pool = length-map-range_with_len (loan_at pool) 0 (length pool.lent)

-- a loan's bytes are there only where the slot is lent
lent_if : (b : Bool) (bytes : List ℕ) → IsSome (cond b (Some bytes) None) → b ≡ true
lent_if true bytes h = refl
lent_if false bytes h = absurd (false≢true h)

-- a loan that is there is live
pub live_of : (pool : Slots) (k : ℕ) → length pool.bytes ≡ length pool.lent → IsSome (get_or (loans_of pool) k None) → IsLive pool k
live_of pool k whole h = elim (cases_lt k (length pool.lent)) [
  | inl lt ↦ record {
    there = omega (arith, lt, whole);
    lent = lent_if (get_or pool.lent k false) (bytes_at pool k) (subst IsSome (loan_there pool k lt) h);
  }
  | inr past ↦ absurd (false≢true (subst IsSome (get_or_past (loans_of pool) k None (omega (arith, past, length-loans pool))) h))
]

-- and has the slot's bytes
pub loan_is : (pool : Slots) (k : ℕ) → length pool.bytes ≡ length pool.lent → IsLive pool k → get_or (loans_of pool) k None ≡ Some (bytes_at pool k)
loan_is pool k whole live = loan_there pool k (omega (arith, live.there, whole)) ∙ ap (λ b. cond b (Some (bytes_at pool k)) None) live.lent

-- a slot was taken and written
pub loans_taken : (p0 p2 : Slots) (k : ℕ) → length p0.bytes ≡ length p0.lent → IsFree p0 k → OnlyWrites k (with_lent p0 k) p2 → loans_of p2
    ≡ set (loans_of p0) k (Some (bytes_at p2 k))
loans_taken p0 p2 k whole free writes =
    let below : k < length p0.lent = free_below p0.lent k free.free in
    let live : IsLive p2 k = live_written (with_lent p0 k) p2 k k writes (live_when_lent p0 k free) in
    let lent_len : length p2.lent ≡ length p0.lent = ap length writes.lent ∙ length-set p0.lent k true in
    let new_len : length (loans_of p2) ≡ length p0.lent = length-loans p2 ∙ lent_len in
    let set_len : length (set (loans_of p0) k (Some (bytes_at p2 k))) ≡ length p0.lent = length-set (loans_of p0) k (Some (bytes_at p2 k)) ∙ length-loans p0 in
    same_lists (loans_of p2) (set (loans_of p0) k (Some (bytes_at p2 k))) (new_len ∙ sym set_len) (λ j d lt.
    let within : j < length p0.lent = omega (arith, lt, new_len) in
    let at : get_or (loans_of p2) j d ≡ loan_at p2 j =
    get_or-map-range_with_len (loan_at p2) 0 (length p2.lent) j j d (omega (arith, within, lent_len)) (omega arith) in
    at ∙ elim (cases_eq j k) [
      | inl e ↦ ap (loan_at p2) e ∙ ap (λ b. cond b (Some (bytes_at p2 k)) None) live.lent
          ∙ sym (ap (λ n. get_or (set (loans_of p0) k (Some (bytes_at p2 k))) n d) e
          ∙ get_or-set_same (loans_of p0) k (Some (bytes_at p2 k)) d (omega (arith, below, length-loans p0)))
      | inr ne ↦ other_loan j ne ∙ sym (get_or-set_other (loans_of p0) k j (Some (bytes_at p2 k)) d ne
          ∙ get_or-map-range_with_len (loan_at p0) 0 (length p0.lent) j j d within (omega arith))
    ])
  where
    same_if : (b : Bool) (x y : List ℕ) → (b ≡ true → x ≡ y) → cond b (Some x) None ≡ cond b (Some y) None
    same_if true x y h = ap Some (h refl)
    same_if false x y h = refl

    -- the loan of every other slot is as it was
    other_loan : (j : ℕ) → j ≢ k → loan_at p2 j ≡ loan_at p0 j
    other_loan j ne =
        let lent : get_or p2.lent j false ≡ get_or p0.lent j false =
        ap (λ lent. get_or lent j false) writes.lent ∙ get_or-set_other p0.lent k j true false ne in
        ap (λ b. cond b (Some (bytes_at p2 j)) None) lent
        ∙ same_if (get_or p0.lent j false) (bytes_at p2 j) (bytes_at p0 j) (λ live. writes.others j ne (get_or-set_other p0.lent k j true false ne ∙ live))

-- its loan has the bytes that were written
pub loan_taken : (p0 p2 : Slots) (k : ℕ) → length p0.bytes ≡ length p0.lent → IsFree p0 k → OnlyWrites k (with_lent p0 k) p2
    → get_or (loans_of p2) k None ≡ Some (bytes_at p2 k)
loan_taken p0 p2 k whole free writes =
    let live : IsLive p2 k = live_written (with_lent p0 k) p2 k k writes (live_when_lent p0 k free) in
    loan_is p2 k (omega (arith, ap length writes.lent, length-set p0.lent k true, writes.count, whole)) live

-- what was free has no loan
pub no_loan : (pool : Slots) (k : ℕ) → IsFree pool k → get_or (loans_of pool) k None ≡ None
no_loan pool k free =
    let below : k < length pool.lent = free_below pool.lent k free.free in
    loan_there pool k below ∙ ap (λ b. cond b (Some (bytes_at pool k)) None) (get_or_default pool.lent k false true below ∙ free.free)

-- a slot was taken, written and given back
pub loans_back : (p0 p2 : Slots) (k : ℕ) → length p0.bytes ≡ length p0.lent → IsFree p0 k → OnlyWrites k (with_lent p0 k) p2
    → loans_of (with_free p2 k) ≡ loans_of p0
loans_back p0 p2 k whole free writes =
    let live : IsLive p2 k = live_written (with_lent p0 k) p2 k k writes (live_when_lent p0 k free) in
    loans_of-with_free p2 k live
    ∙ ap (λ loans. set loans k None) (loans_taken p0 p2 k whole free writes)
    ∙ set-set (loans_of p0) k (Some (bytes_at p2 k)) None
    ∙ ap (set (loans_of p0) k) (sym (no_loan p0 k free))
    ∙ set-get_or (loans_of p0) k None

-- one free slot fewer
pub one_fewer : (p0 p2 : Slots) (k : ℕ) → IsFree p0 k → OnlyWrites k (with_lent p0 k) p2 → count_by is_none (loans_of p2) + 1 ≡ count_by is_none (loans_of p0)
one_fewer p0 p2 k free writes =
    let counted : count_by is_none (loans_of p2) ≡ free_count p2 = count_by-loans_of p2 in
    let same : free_count p2 ≡ free_count (with_lent p0 k) = ap (count_by not) writes.lent in
    let before : count_by is_none (loans_of p0) ≡ free_count p0 = count_by-loans_of p0 in
    omega (arith, counted, same, before, free_count-with_lent p0 k free)

-- the block of a live loan
pub block_there : (chunks : List Chunk) (devices : List Member) (setting : Setting) (kept : List (Option Kept)) (pool : Slots) (store : Blocks)
    (slot len : ℕ) (loan : Lent) → blocks chunks devices setting (loans_of pool) kept ≡ store → (record { slot = slot; len = len }) ≡ loan
    → length pool.bytes ≡ length pool.lent → IsSome (get_or store.loans loan.slot None) → block_of store loan ≡ Some (take len (bytes_at pool slot))
block_there chunks devices setting kept pool store slot len loan view loan_view whole some =
    let held : IsSome (get_or (loans_of pool) slot None) =
    subst (λ (l : Lent). IsSome (get_or (loans_of pool) l.slot None)) (sym loan_view)
    (subst (λ (s : Blocks). IsSome (get_or s.loans loan.slot None)) (sym view) some) in
    ap (λ s. block_of s loan) (sym view)
    ∙ ap (λ (l : Lent). option_map (take l.len) (get_or (loans_of pool) l.slot None)) (sym loan_view)
    ∙ ap (option_map (take len)) (loan_is pool slot whole (live_of pool slot whole held))
