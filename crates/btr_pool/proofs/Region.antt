-- Facts about the region of a pool, and the slots that it stands for.
use Rattle.std.proofs.Common.{◌≡◌, ℕ, ◌+◌, ◌-◌, ◌*◌, ◌≤◌, ◌<◌, true, false, List, ◌++◌, take, drop, length, get_or, sym, ap, ◌∙◌, subst, arith, length-append}
use Rattle.std.proofs.Common.{length-take, length-drop}
use Rattle.std.specs.Vec.{with_items_from}
use Rattle.std.proofs.lemmas.List.{take-append-le}
use Rattle.std.proofs.Math.Nat.{mul-le-mul_left}
use Rattle.btr_pool.specs.Slots.{Slots, IsLive, IsFree, bytes_at, with_bytes, pieces, poured}
use Rattle.btr_pool.specs.Region.{slots_of, IsPool}
use Rattle.btr_pool.specs.declared.pool.Pool.TheInside.{Inside}
use Rattle.btr_pool.proofs.Loans.{live_below, free_below}
use Rattle.btr_pool.proofs.Pieces.{length-pieces, get_or-pieces, pieces-take, concat-pieces, over, pieces-over}

-- a live loan l of slot k is of a slot that is there
pub below_when_live : (pool : Inside) (slots : Slots) (k l : ℕ) → slots_of pool ≡ slots → k ≡ l → IsLive slots l → k < length pool.ledger
below_when_live pool slots k l view is live = live_below pool.ledger k
    (ap (λ j. get_or pool.ledger j false) is ∙ ap (λ s. get_or s.lent l false) view ∙ live.lent)

-- a slot that the ledger says is free
pub free_when_found : (pool : Inside) (slots : Slots) (k : ℕ) → slots_of pool ≡ slots → get_or pool.ledger k true ≡ false → IsFree slots k
free_when_found pool slots k view free = subst (λ s. IsFree s k) view record {
  there = omega (arith, free_below pool.ledger k free, length-pieces (length pool.ledger) pool.size pool.region.items);
  free = free;
}

-- what is read of a live loan
pub record IsRead (slots : Slots) (l : ℕ) (read : List ℕ) : Type 0 where
  pub value : read ≡ bytes_at slots l
  pub len : length read ≡ slots.size

-- what is read at a live loan's place in the region is its slot's bytes, as many as a slot has
pub read_when_live : (pool : Inside) (slots : Slots) (k l : ℕ) (read : List ℕ) → slots_of pool ≡ slots → IsPool pool → k ≡ l → IsLive slots l → read
    ≡ take (k * pool.size + pool.size - k * pool.size) (drop (k * pool.size) pool.region.items) → IsRead slots l read
read_when_live pool slots k l read view inv is live value =
    let below = below_when_live pool slots k l view is live in
    let width : k * pool.size + pool.size - k * pool.size ≡ pool.size = omega arith in
    let slot : read ≡ take pool.size (drop (k * pool.size) pool.region.items) = value ∙ ap (λ n. take n (drop (k * pool.size) pool.region.items)) width in
    record {
      value = slot ∙ sym (get_or-pieces (length pool.ledger) pool.size k pool.region.items below) ∙ ap (bytes_at (slots_of pool)) is
          ∙ ap (λ s. bytes_at s l) view;
      len = ap length slot ∙ omega (
        arith,
        length-take pool.size (drop (k * pool.size) pool.region.items),
        length-drop (k * pool.size)
            pool.region.items,
        mul-le-mul_left pool.size below,
        inv.whole,
      ) ∙ ap (λ s. s.size) view;
    }

-- the slots with bytes from slot k on, cut from the region itself
poured_cut : (pool : Inside) (k : ℕ) (written : List ℕ) → IsPool pool
    → poured (slots_of pool) k written ≡ record {
      size = pool.size;
      lent = pool.ledger;
      bytes = pieces (length pool.ledger) pool.size (over (k * pool.size) written pool.region.items);
    }
poured_cut pool k written inv = λ i. record {
  size = pool.size;
  lent = pool.ledger;
  bytes = pieces (length-pieces (length pool.ledger) pool.size pool.region.items i) pool.size
      (over (k * pool.size) written (concat-pieces (length pool.ledger) pool.size pool.region.items inv.whole i));
}

-- the slots once a `&mut` into the region from slot k on has ended
pub poured_when_written : (pool : Inside) (slots : Slots) (k l : ℕ) (written : List ℕ) → slots_of pool ≡ slots → IsPool pool → k ≡ l
    → slots_of (record { region = with_items_from pool.region (k * pool.size) written; size = pool.size; ledger = pool.ledger }) ≡ poured slots l written
poured_when_written pool slots k l written view inv is =
    let count = length pool.ledger in
    let bytes : List ℕ = pool.region.items in
    let whole : pool.region.len ≡ count * pool.size = pool.region.ok.0 ∙ inv.whole in
    let new : List ℕ = over (k * pool.size) written bytes in
    let back : List ℕ = drop (k * pool.size) bytes in
    let long : pool.region.len ≤ length new =
    omega (
      arith,
      pool.region.ok.0,
      length-append (take (k * pool.size) bytes) (written ++ drop (length written) back),
      length-append written
          (drop (length written) back),
      length-take (k * pool.size) bytes,
      length-drop (k * pool.size) bytes,
      length-drop (length written) back,
    ) in
    let cut : take pool.region.len (new ++ drop (length new) bytes) ≡ take (count * pool.size) new =
    take-append-le pool.region.len new (drop (length new) bytes) long ∙ ap (λ n. take n new) whole in
    let same : pieces count pool.size (take pool.region.len (new ++ drop (length new) bytes)) ≡ pieces count pool.size new =
    ap (pieces count pool.size) cut ∙ pieces-take count pool.size new in
    (λ i. record { size = pool.size; lent = pool.ledger; bytes = same i })
    ∙ sym (poured_cut pool k written inv)
    ∙ ap (λ j. poured (slots_of pool) j written) is
    ∙ ap (λ s. poured s l written) view

-- what is as long as a slot goes into that slot alone
pub poured_alone : (pool : Inside) (slots : Slots) (k l : ℕ) → slots_of pool ≡ slots → IsPool pool → k ≡ l → IsLive slots l → (written : List ℕ)
    → length written ≡ slots.size → poured slots l written ≡ with_bytes slots l written
poured_alone pool slots k l view inv is live written one =
    let below = below_when_live pool slots k l view is live in
    let piece : length written ≡ pool.size = one ∙ sym (ap (λ s. s.size) view) in
    let set_one = pieces-over (length pool.ledger) pool.size k written pool.region.items below piece inv.whole in
    let here : poured (slots_of pool) k written ≡ with_bytes (slots_of pool) k written =
    poured_cut pool k written inv ∙ (λ i. record { size = pool.size; lent = pool.ledger; bytes = set_one i }) in
    subst (λ s. poured s l written ≡ with_bytes s l written) view (subst (λ j. poured (slots_of pool) j written ≡ with_bytes (slots_of pool) j written) is here)
