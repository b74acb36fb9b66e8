-- What a fetch answers and leaves where it had to read.
use Rattle.std.proofs.Common.{◌≡◌, ◌≢◌, ℕ, ◌<◌, Bool, true, false, cond, List, length, take, get_or, set, Option, Some, None, IsSome, IsSomeAnd, IfOk, Result}
use Rattle.std.proofs.Common.{Ok, Err, refl, sym, ap, ◌∙◌, subst, arith, inl, inr}
use Rattle.std.proofs.lemmas.Bool.{false≢true}
use Rattle.std.proofs.lemmas.List.{get_or-set_same, get_or_default}
use Rattle.std.specs.Option.{option_map}
use Rattle.std.specs.Result.{is_ok}
use Rattle.btr_chunk.specs.declared.chunk.Chunk.{Chunk}
use Rattle.btr_pool.specs.Slots.{Slots, IsFree, loans_of, bytes_at}
use Rattle.btr_rack.specs.Rack.{Account, Seen, NoneFailed, OnlyReads}
use Rattle.btr_read.specs.declared.attempt.Missed.{Missed}
use Rattle.btr_read.specs.declared.attempt.Missed.TheVariants.{Lost, Unread}
use Rattle.btr_read.specs.declared.device.Member.{Member}
use Rattle.btr_read.specs.declared.fault.ReadFault.{ReadFault}
use Rattle.btr_read.specs.declared.setting.Setting.{Setting}
use Rattle.btr_read.specs.declared.want.Want.{Want}
use Rattle.btr_read.specs.declared.want.Want.TheVariants.{Tree, Block, Sector, Plain}
use Rattle.btr_read.specs.Want.{addr_of, len_of}
use Rattle.btr_read.specs.Candidates.{Target, size_of}
use Rattle.btr_read.specs.Fate.{sought}
use Rattle.btr_read.specs.Cause.{LastOf}
use Rattle.btr_read.specs.Store.{Blocks, Lent, IsStore, IsLentBy, block_in, kept_in, kept_want, KeepsFree}
use Rattle.btr_read.specs.Serves.{IsKept, Serves}
use Rattle.btr_read.specs.Fetch.{IsFetched, FitsFetch, CountsFetch, KeepsLent}
use Rattle.btr_read.specs.Finding.{fault_of, TakesFound, FitsFinding}
use Rattle.btr_read.specs.Writing.{StillKept}
use Rattle.btr_read.proofs.Loans.{blocks, loan_taken, loan_there, length-loans}
use Rattle.btr_read.proofs.Fates.{sought_of, sought_size, lent_by}
use Rattle.btr_read.proofs.ReadsOn.{same_slots, same_held}
use Rattle.btr_read.proofs.Fetched.{forgot, first_fetched, later_fetched, first_kept, first_last, later_last, lost_fetched, unread_fetched, not_steady}
use Rattle.btr_read.proofs.Serving.{serves_still, serves_more, keeps_in, known_in}

-- what is said of a fetch that came to nothing. `then` is the store afterwards
pub record IsVain (store : Blocks) (want : Want) (old new : Seen) (then : Blocks) (fault : ReadFault) : Type 0 where
  pub serves : Serves new then
  pub account : CountsFetch store.layout want old new (Err fault)
  pub answer : FitsFetch store.layout want old new then (Err fault)

-- what is said of a fetch that read a block
pub record IsHad (store : Blocks) (want : Want) (old new : Seen) (then : Blocks) (loan : Lent) : Type 0 where
  pub serves : Serves new then
  pub account : CountsFetch store.layout want old new (Ok loan)
  pub lent : IsLentBy store then want loan
  pub keeps : KeepsLent want then old.account new.account loan
  pub answer : FitsFetch store.layout want old new then (Ok loan)

-- a slot without a loan is free
free_of : (pool : Slots) (k : ℕ) → length pool.bytes ≡ length pool.lent → k < length (loans_of pool) → get_or (loans_of pool) k None ≡ None → IsFree pool k
free_of pool k whole lt none =
    let below : k < length pool.lent = omega (arith, lt, length-loans pool) in
    let not_lent : get_or pool.lent k false ≡ false = by (get_or pool.lent k false) refl (sym (loan_there pool k below) ∙ none) in
    record { there = omega (arith, below, whole); free = get_or_default pool.lent k true false below ∙ not_lent }
  where
    by : (b : Bool) → get_or pool.lent k false ≡ b → cond b (Some (bytes_at pool k)) None ≡ None → b ≡ false
    by true e none = cc
    by false e none = refl

-- a want whose block may be kept is known as itself
tree_is : (want : Want) → IsSome (kept_want want) → kept_want want ≡ Some want
tree_is (Tree addr generation level) h = refl
tree_is (Block addr) h = refl
tree_is (Sector addr sum) h = absurd (false≢true h)
tree_is (Plain addr) h = absurd (false≢true h)

module _ (chunks : List Chunk) (devices : List Member) (setting : Setting) (p0 : Slots) (w0 : List (Option Want)) (store : Blocks) (is : IsStore p0 setting)
    (view : blocks chunks devices setting (loans_of p0) (kept_in setting w0 p0.bytes) ≡ store) (want : Want) where
  -- where no free slot is known to have the block, none keeps it
  pub not_again : ((k : ℕ) → IsFree p0 k → get_or w0 k None ≢ Some want) → KeepsFree store want → ⊥
  not_again missing h =
      let keeps : KeepsFree (blocks chunks devices setting (loans_of p0) (kept_in setting w0 p0.bytes)) want = subst (λ s. KeepsFree s want) (sym view) h in
      missing keeps.slot (free_of p0 keeps.slot is.whole keeps.there keeps.free) (known_in setting w0 p0.bytes keeps.slot want keeps.keeps)

  module _ (t : Target) (seeks : sought store.layout want ≡ Ok t) (old mid after : Seen) (begin : mid ≡ forgot old) (reads : OnlyReads mid after)
      (p2 : Slots) (w2 : List (Option Want)) where
    -- the store then
    abbrev pub then_store : Blocks
    then_store = blocks chunks devices setting (loans_of p2) (kept_in setting w2 p2.bytes)

    -- the search leaves the rack's slots as they were
    slots_then : after.slots ≡ old.slots
    slots_then = same_slots reads ∙ ap (λ (s : Seen). s.slots) begin

    -- the search leaves the images that are told as they were
    held_then : after.held ≡ old.held
    held_then = same_held reads ∙ ap (λ (s : Seen). s.held) begin

    -- as many bytes are sought as the want has
    size_is : size_of t ≡ len_of setting want
    size_is = sought_size store.layout want t setting (sym (ap (λ (s : Blocks). s.layout.setting) view)) seeks

    -- the rack serves the store where nothing was had
    vain : (fault : ReadFault) → StillKept w0 w2 p0 p2 → CountsFetch store.layout want old after (Err fault)
        → FitsFetch store.layout want old after then_store (Err fault) → Serves old store → IsVain store want old after then_store fault
    vain fault still account answer serves = record {
      serves = serves_still chunks devices setting w0 w2 p0 p2 old after store view slots_then held_then still serves (loans_of p2);
      account = account;
      answer = answer;
    }

    -- what is said where nothing was had
    pub missed : (m : Missed) → FitsFinding t w0 w2 p0 p2 mid after (Err m) → Serves old store
        → IsVain store want old after then_store (fault_of (addr_of want) m)
    missed Lost found = vain (fault_of (addr_of want) Lost) found.0
        (subst (λ (a : Account). NoneFailed a after.account) (ap (λ (s : Seen). s.account) begin) found.1)
        (lost_fetched store.layout want t old mid after (forgot after) seeks begin refl then_store found.2)
    missed (Unread image) found = vain (fault_of (addr_of want) (Unread image)) found.0 tt
        (unread_fetched store.layout want t old mid after (forgot after) seeks begin refl image found.1)

    -- a block was had in a slot
    module _ (k : ℕ) (found : FitsFinding t w0 w2 p0 p2 mid after (Ok k)) (new : Seen) (end : new ≡ forgot after) (len : ℕ) (long : len ≡ size_of t)
        (taken : TakesFound p0 p2 k) where
      -- the loan of the slot in which the block was had
      abbrev loan : Lent
      loan = record { slot = k; len = len }

      abbrev bytes : List ℕ
      bytes = take (size_of t) (bytes_at p2 k)

      slots_end : new.slots ≡ old.slots
      slots_end = ap (λ (s : Seen). s.slots) end ∙ slots_then

      held_end : new.held ≡ old.held
      held_end = ap (λ (s : Seen). s.held) end ∙ held_then

      -- the loan is new and has the bytes that were had
      all_had : Serves new then_store → IfOk (sought store.layout want) (λ t. LastOf t old.account new.account)
          → KeepsLent want then_store old.account new.account loan → IsFetched store.layout want old new bytes → IsHad store want old new then_store loan
      all_had serves last keeps fetched =
          let here : IsFetched store.layout want old new (take len (bytes_at p2 k)) =
          subst (λ n. IsFetched store.layout want old new (take n (bytes_at p2 k))) (sym long) fetched in
          let block : option_map (take len) (get_or (loans_of p2) k None) ≡ Some (take len (bytes_at p2 k)) =
          ap (option_map (take len)) (loan_taken p0 p2 k is.whole taken.free taken.writes) in
          record {
            serves = serves;
            account = (ap (λ (s : Seen). s.account.fresh) end, ap (λ (s : Seen). s.account.missed) end, last);
            lent = lent_by chunks devices setting p0 p2 (kept_in setting w0 p0.bytes) (kept_in setting w2 p2.bytes) k len store want is view taken.free
                taken.writes (long ∙ size_is);
            keeps = keeps;
            answer = (ap is_ok seeks, subst (λ o. IsSomeAnd o (IsFetched store.layout want old new)) (sym block) here);
          }

      -- what is said where a block was had
      pub had : Serves old store → IsHad store want old new then_store loan
      had serves = elim found [
        | inl h ↦
            let same : kept_want t.want ≡ kept_want want = ap kept_want (sought_of store.layout want t seeks).want_is in
            let one : w2 ≡ set h.0.then k (kept_want want) = h.0.one ∙ ap (set h.0.then k) same in
            let first = first_kept store.layout want t old mid after new seeks begin end bytes h.1 in
            let here : IsKept store.layout old.held (block_in setting (bytes_at p2 k) want) =
            subst (λ n. IsKept store.layout old.held (record { want = want; bytes = take n (bytes_at p2 k) })) size_is first in
            all_had
            (serves_more chunks devices setting w0 h.0.then p0 p2 old new store view slots_end held_end h.0.still serves (loans_of p2) w2 k want one here)
            (first_last store.layout want t old mid after new seeks begin end bytes h.1)
            (λ tree steady. keeps_in setting w2 p2.bytes k want (ap (λ ws. get_or ws k None) one
            ∙ get_or-set_same h.0.then k (kept_want want) None h.0.room ∙ tree_is want tree))
            (first_fetched store.layout want t old mid after new seeks begin end bytes h.1)
        | inr h ↦ all_had
            (serves_still chunks devices setting w0 w2 p0 p2 old new store view slots_end held_end h.0 serves (loans_of p2))
            (later_last store.layout want t old mid after new seeks begin end bytes h.1)
            (λ tree steady. absurd (not_steady store.layout want t old mid after new seeks begin end bytes h.1 steady))
            (later_fetched store.layout want t old mid after new seeks begin end bytes h.1)
      ]

-- the same where the pool and the wants known are those before
pub found_of : (t : Target) (w0 w1 w2 : List (Option Want)) (p0 p1 p2 : Slots) (mid after : Seen) (r : Result ℕ Missed) → p1 ≡ p0 → w1 ≡ w0
    → FitsFinding t w1 w2 p1 p2 mid after r → FitsFinding t w0 w2 p0 p2 mid after r
found_of t w0 w1 w2 p0 p1 p2 mid after r same known h = subst (λ p. FitsFinding t w0 w2 p p2 mid after r) same
    (subst (λ w. FitsFinding t w w2 p1 p2 mid after r) known h)

-- what was taken of a pool was taken of an equal one
pub taken_of : (p0 p1 p2 : Slots) (k : ℕ) → p1 ≡ p0 → TakesFound p1 p2 k → TakesFound p0 p2 k
taken_of p0 p1 p2 k same h = subst (λ p. TakesFound p p2 k) same h
