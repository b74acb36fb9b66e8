-- The chunks of a table, met in ascending start.
use Rattle.std.proofs.Common.{◌≡◌, ℕ, suc, ◌+◌, ◌-◌, ◌<◌, ◌≤◌, Bool, true, false, not, ◌&&◌, cond, List, [], ◌∷◌, ◌++◌, Some, None, filter, slice_get, leb, ltb}
use Rattle.std.proofs.Common.{eqb, ltb-true, ◌^◌, refl, sym, ap, subst, ◌∙◌, append_assoc, append-nil, arith}
use Rattle.std.proofs.lemmas.Bool.{false≢true}
use Rattle.std.proofs.lemmas.Bool.Decides.{nat_tests}
use Rattle.btr_chunk.specs.Chunk.{IsChunk}
use Rattle.btr_chunk.specs.declared.chunk.Chunk.{Chunk}
use Rattle.btr_chunk.specs.Table.{IsTable, next_at}

-- the chunks from an address on
abbrev pub left_from : ℕ → List Chunk → List Chunk
left_from addr chunks = filter (λ (chunk : Chunk). leb addr chunk.start) chunks

-- each starts before those behind it
abbrev pub Ascends : List Chunk → Type 0
Ascends chunks = (i j : ℕ) (a b : Chunk) → i < j → slice_get chunks i ≡ Some a → slice_get chunks j ≡ Some b → a.start < b.start

-- chunks that ascend do so without the first too
later : (chunk : Chunk) (chunks : List Chunk) → Ascends (chunk ∷ chunks) → Ascends chunks
later chunk chunks up i j a b below = up (suc i) (suc j) a b (omega (arith, below))

-- all that start behind an address
all_left : (addr : ℕ) (chunks : List Chunk) → ((i : ℕ) (a : Chunk) → slice_get chunks i ≡ Some a → addr ≤ a.start) → left_from addr chunks ≡ chunks
all_left addr [] behind = refl
all_left addr (c ∷ chunks) behind =
    ap (λ b. cond b (c ∷ left_from addr chunks) (left_from addr chunks)) (at_least addr c.start (behind 0 c refl))
    ∙ ap (λ l. c ∷ l) (all_left addr chunks (λ i a. behind (suc i) a))
  where
    at_least : (x y : ℕ) → x ≤ y → leb x y ≡ true
    at_least x y h = grind (arith, nat_tests)

-- from 0 on all are left
pub all_from_first : (chunks : List Chunk) → left_from 0 chunks ≡ chunks
all_from_first chunks = all_left 0 chunks (λ i a is. omega arith)

-- where no chunk comes next, none is left
pub none_left : (addr : ℕ) (chunks : List Chunk) → next_at chunks addr ≡ None → left_from addr chunks ≡ []
none_left addr [] is = refl
none_left addr (c ∷ chunks) is = by (leb addr c.start) (none_left addr chunks) is
  where
    by : (b : Bool) → (next_at chunks addr ≡ None → left_from addr chunks ≡ []) → cond b (Some c) (next_at chunks addr) ≡ None
        → cond b (c ∷ left_from addr chunks) (left_from addr chunks) ≡ []
    by true rest none = cc
    by false rest none = rest none

-- the next chunk starts at the address or behind it
pub next_behind : (addr : ℕ) (chunks : List Chunk) (chunk : Chunk) → next_at chunks addr ≡ Some chunk → leb addr chunk.start ≡ true
next_behind addr [] chunk is = cc
next_behind addr (c ∷ chunks) chunk is = by (leb addr c.start) refl (next_behind addr chunks chunk) is
  where
    by : (b : Bool) → leb addr c.start ≡ b → (next_at chunks addr ≡ Some chunk → leb addr chunk.start ≡ true) → cond b (Some c) (next_at chunks addr)
        ≡ Some chunk → leb addr chunk.start ≡ true
    by true e rest is = let same : c ≡ chunk = cc in ap (λ (x : Chunk). leb addr x.start) (sym same) ∙ e
    by false e rest is = rest is

not_behind : (start : ℕ) → leb (start + 1) start ≡ false
not_behind start = grind (arith, nat_tests)

-- a chunk before an address doesn't start behind one that starts at it or later
before_it : (addr start next : ℕ) → leb addr start ≡ false → leb addr next ≡ true → leb (next + 1) start ≡ false
before_it addr start next above behind = grind (arith, nat_tests)

le_from : (x y : ℕ) → leb x y ≡ true → x ≤ y
le_from x y h = grind (arith, nat_tests)

-- the next chunk is the first that is left, and behind its start the others are
pub next_left : (addr : ℕ) (chunks : List Chunk) (chunk : Chunk) → Ascends chunks → next_at chunks addr ≡ Some chunk → left_from addr chunks
    ≡ chunk ∷ left_from (chunk.start + 1) chunks
next_left addr [] chunk up is = cc
next_left addr (c ∷ chunks) chunk up is = by (leb addr c.start) refl (next_left addr chunks chunk (later c chunks up)) is
  where
    -- the chunks behind the first start behind its start
    behind : (i : ℕ) (a : Chunk) → slice_get chunks i ≡ Some a → c.start + 1 ≤ a.start
    behind i a at = let below : c.start < a.start = up 0 (suc i) c a (omega arith) refl at in omega arith

    -- where the first chunk is left, it is the first of those, and the others are left behind its start
    first : leb addr c.start ≡ true → c ∷ left_from addr chunks ≡ c ∷ left_from (c.start + 1) (c ∷ chunks)
    first e =
        let from : addr ≤ c.start = le_from addr c.start e in
        ap (λ l. c ∷ l)
        (all_left addr chunks (λ i a at. let below : c.start + 1 ≤ a.start = behind i a at in omega arith)
        ∙ sym (all_left (c.start + 1) chunks behind)
        ∙ ap (λ b. cond b (c ∷ left_from (c.start + 1) chunks) (left_from (c.start + 1) chunks)) (sym (not_behind c.start)))

    by : (b : Bool) → leb addr c.start ≡ b → (next_at chunks addr ≡ Some chunk → left_from addr chunks ≡ chunk ∷ left_from (chunk.start + 1) chunks)
        → cond b (Some c) (next_at chunks addr) ≡ Some chunk → cond b (c ∷ left_from addr chunks) (left_from addr chunks)
        ≡ chunk ∷ left_from (chunk.start + 1) (c ∷ chunks)
    by true e rest is =
        let same : c ≡ chunk = cc in
        subst (λ (x : Chunk). c ∷ left_from addr chunks ≡ x ∷ left_from (x.start + 1) (c ∷ chunks)) same (first e)
    by false e rest is =
        rest is
        ∙ ap (λ b. chunk ∷ cond b (c ∷ left_from (chunk.start + 1) chunks) (left_from (chunk.start + 1) chunks))
        (sym (before_it addr c.start chunk.start e (next_behind addr chunks chunk is)))

and_left : (a b : Bool) → (a && b) ≡ true → a ≡ true
and_left true b e = refl
and_left false b e = e

and_right : (a b : Bool) → (a && b) ≡ true → b ≡ true
and_right true b e = e
and_right false b e = absurd (false≢true e)

not_zero : (n : ℕ) → not (eqb n 0) ≡ true → 0 < n
not_zero n e = grind (arith, nat_tests)

-- a chunk has a byte
pub chunk_long : (chunk : Chunk) → IsChunk chunk → 0 < chunk.length
chunk_long chunk sound = not_zero chunk.length (and_right _ (not (eqb chunk.length 0)) (and_left _ _ (and_left _ _ sound.rule)))

not_large : (n : ℕ) → ltb n (2 ^ 64) ≡ true → n < 2 ^ 64
not_large n e = ltb-true n (2 ^ 64) e

-- the address behind a chunk's first is below 2^64
pub chunk_small : (chunk : Chunk) → IsChunk chunk → chunk.start + 1 < 2 ^ 64
chunk_small chunk sound =
    let long : 0 < chunk.length = chunk_long chunk sound in
    let ends : chunk.start + chunk.length < 2 ^ 64 =
    not_large (chunk.start + chunk.length) (and_right _ (ltb (chunk.start + chunk.length) (2 ^ 64)) (and_left _ _ sound.rule)) in
    omega arith

-- the chunks of a table ascend
pub table_ascends : (chunks : List Chunk) → IsTable chunks → Ascends chunks
table_ascends chunks table i j a b below at_a at_b =
    let apart : a.start + a.length ≤ b.start = (table.apart i j a b below at_a at_b).0 in
    let long : 0 < a.length = chunk_long a ((table.sound i a at_a).0) in
    omega arith

-- what is made of some chunks, one after another
module _ {Y : Type 0} (made : List Chunk → List Y) (part : Chunk → List Y)
    (first : (c : Chunk) (chunks : List Chunk) → made (c ∷ chunks) ≡ part c ++ made chunks) where
  -- one more chunk is met
  pub met_more : (chunks : List Chunk) (addr : ℕ) (chunk : Chunk) (done all : List Y) → IsTable chunks → next_at chunks addr ≡ Some chunk
      → done ++ made (left_from addr chunks) ≡ all → (done ++ part chunk) ++ made (left_from (chunk.start + 1) chunks) ≡ all
  met_more chunks addr chunk done all table is before =
      append_assoc done (part chunk) (made (left_from (chunk.start + 1) chunks))
      ∙ ap (λ l. done ++ l) (sym (first chunk (left_from (chunk.start + 1) chunks)))
      ∙ ap (λ l. done ++ made l) (sym (next_left addr chunks chunk (table_ascends chunks table) is))
      ∙ before

  -- all chunks were met
  pub met_all : (chunks : List Chunk) (addr : ℕ) (done all : List Y) → made [] ≡ [] → next_at chunks addr ≡ None → done
      ++ made (left_from addr chunks) ≡ all → done ≡ all
  met_all chunks addr done all nothing is before =
      sym (append-nil done) ∙ ap (λ l. done ++ l) (sym nothing) ∙ ap (λ l. done ++ made l) (sym (none_left addr chunks is)) ∙ before

  -- none was met yet
  pub met_none : (chunks : List Chunk) → made (left_from 0 chunks) ≡ made chunks
  met_none chunks = ap made (all_from_first chunks)

-- a loop over the chunks comes nearer to its end
pub nearer : (chunks : List Chunk) (addr : ℕ) (chunk : Chunk) → IsChunk chunk → next_at chunks addr ≡ Some chunk → 2 ^ 64 - (chunk.start + 1) < 2 ^ 64 - addr
nearer chunks addr chunk sound is =
    let behind : addr ≤ chunk.start = le_from addr chunk.start (next_behind addr chunks chunk is) in
    let small : chunk.start + 1 < 2 ^ 64 = chunk_small chunk sound in
    omega arith
