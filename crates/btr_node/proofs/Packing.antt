-- How the bytes of a leaf's items are packed, an item at a time.
use Rattle.std.proofs.Common.{◌≡◌, ℕ, sym, ◌+◌, ◌-◌, ◌<◌, ◌≤◌, Bool, true, false, ◌&&◌, eqb, leb, List, map, ◌∙◌, ap, subst, ⊎_elim, zero, suc, arith}
use Rattle.std.specs.List.{range_with_len}
use Rattle.std.proofs.lemmas.Bool.{eq-eqb, ne_eqb, le-leb, lt-leb, and_left, and_right, and_parts, eqb-true, leb-true, cases_lt, cases_eq}
use Rattle.btr_node.specs.Block.{item_at, is_packed}
use Rattle.btr_node.proofs.Tables.{range_first}

-- the items from i on are packed below an end
abbrev pub packed_from : List ℕ → ℕ → ℕ → ℕ → ℕ → Bool
packed_from block table n end i = is_packed table end (map (item_at block) (range_with_len i (n - i)))

-- the first of them, and the others
first_packed : (block : List ℕ) (table n end i : ℕ) → i < n → packed_from block table n end i
    ≡ (eqb ((item_at block i).offset + (item_at block i).size) end &&
    (leb table (item_at block i).offset && packed_from block table n (item_at block i).offset (i + 1)))
first_packed block table n end i more = ap (λ l. is_packed table end (map (item_at block) l)) (range_first i n more)

-- no items are packed below any end
pub packed_all : (block : List ℕ) (table n end i : ℕ) → n ≤ i → packed_from block table n end i ≡ true
packed_all block table n end i done =
    let none : n - i ≡ 0 = omega arith in
    ap (λ l. is_packed table end (map (item_at block) (range_with_len i l))) none

-- an item that ends where it has to and begins behind the table
pub packed_next : (block : List ℕ) (table n end i : ℕ) → i < n → (item_at block i).offset + (item_at block i).size ≡ end
    → table ≤ (item_at block i).offset → packed_from block table n end i ≡ packed_from block table n (item_at block i).offset (i + 1)
packed_next block table n end i more ends begins =
    first_packed block table n end i more
    ∙ ap (λ b. b && (leb table (item_at block i).offset && packed_from block table n (item_at block i).offset (i + 1))) (eq-eqb _ _ ends)
    ∙ ap (λ b. b && packed_from block table n (item_at block i).offset (i + 1)) (le-leb _ _ begins)

-- an item that does not end where it has to
pub packed_gap : (block : List ℕ) (table n end i : ℕ) → i < n → ((item_at block i).offset + (item_at block i).size ≡ end → ⊥)
    → packed_from block table n end i ≡ false
packed_gap block table n end i more ends = first_packed block table n end i more ∙ and_left _ _ (ne_eqb _ _ ends)

-- an item that begins in the table
pub packed_low : (block : List ℕ) (table n end i : ℕ) → i < n → (item_at block i).offset < table → packed_from block table n end i ≡ false
packed_low block table n end i more begins = first_packed block table n end i more ∙ and_right _ _ (and_left _ _ (lt-leb _ _ begins))

-- items that reach past their end from the first one on
pub packed_too_many : (block : List ℕ) (table n end : ℕ) → 0 < n → end < table → packed_from block table n end 0 ≡ false
packed_too_many block table n end some long =
    let item = item_at block 0 in
    ⊎_elim
    (λ (low : item.offset < table). packed_low block table n end 0 some low)
    (λ (high : table ≤ item.offset). packed_gap block table n end 0 some (λ (ends : item.offset + item.size ≡ end). omega arith))
    (cases_lt item.offset table)

-- each of the packed items lies behind the table and before the end
pub packed_within : (block : List ℕ) (table end a n : ℕ) → is_packed table end (map (item_at block) (range_with_len a n)) ≡ true → (i : ℕ) → a ≤ i
    → i < a + n → (table ≤ (item_at block i).offset) × ((item_at block i).offset + (item_at block i).size ≤ end)
packed_within block table end a zero packed i low high = absurd (omega arith)
packed_within block table end a (suc n) packed i low high =
    let item = item_at block a in
    let others = is_packed table item.offset (map (item_at block) (range_with_len (a + 1) n)) in
    let parts = and_parts (eqb (item.offset + item.size) end) (leb table item.offset && others) packed in
    let rest = and_parts (leb table item.offset) others parts.1 in
    let ends : item.offset + item.size ≡ end = eqb-true _ _ parts.0 in
    let begins : table ≤ item.offset = leb-true _ _ rest.0 in
    ⊎_elim
    (λ (same : a ≡ i). subst (λ (k : ℕ). (table ≤ (item_at block k).offset) × ((item_at block k).offset + (item_at block k).size ≤ end)) same
    (begins, omega arith))
    (λ (other : a ≡ i → ⊥).
    let later = packed_within block table item.offset (a + 1) n rest.1 i (omega arith) (omega arith) in
    (later.0, omega (arith, later.1, ends)))
    (cases_eq a i)

-- what the items before i say of all items, where these end at `end`. Offsets never rise: where one is below the table's
-- end, so is the last one
pub record SoFar (whole : Bool) (block : List ℕ) (table n end i : ℕ) : Type 0 where
  pub fits : table ≤ end → whole ≡ packed_from block table n end i
  pub broken : end < table → whole ≡ false

-- an item that ends where it has to leaves the whole to the items behind it
pub so_far_next : (whole : Bool) (block : List ℕ) (table n end i : ℕ) → SoFar whole block table n end i → i < n → (item_at block i).offset
    + (item_at block i).size ≡ end → SoFar whole block table n (item_at block i).offset (i + 1)
so_far_next whole block table n end i before more ends = record {
  fits = λ begins. before.fits (omega arith) ∙ packed_next block table n end i more ends begins;
  broken = λ low.
      ⊎_elim
      (λ (lower : end < table). before.broken lower)
      (λ (higher : table ≤ end). before.fits higher ∙ packed_low block table n end i more low)
      (cases_lt end table);
}

-- where an item does not end where it has to, the items are not packed
pub so_far_gap : (whole : Bool) (block : List ℕ) (table n end i : ℕ) → SoFar whole block table n end i → i < n
    → ((item_at block i).offset + (item_at block i).size ≡ end → ⊥) → whole ≡ false
so_far_gap whole block table n end i before more ends =
    ⊎_elim
    (λ (lower : end < table). before.broken lower)
    (λ (higher : table ≤ end). before.fits higher ∙ packed_gap block table n end i more ends)
    (cases_lt end table)

-- once all items end where they have to, they are packed just where the last one does not begin in the table
pub so_far_all : (whole : Bool) (block : List ℕ) (table n end i : ℕ) → SoFar whole block table n end i → n ≤ i → whole ≡ leb table end
so_far_all whole block table n end i before done =
    ⊎_elim
    (λ (lower : end < table). before.broken lower ∙ sym (lt-leb _ _ lower))
    (λ (higher : table ≤ end). before.fits higher ∙ packed_all block table n end i done ∙ sym (le-leb _ _ higher))
    (cases_lt end table)
