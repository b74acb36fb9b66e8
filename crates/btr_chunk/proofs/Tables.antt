-- What the two maps of a table say of its chunks.
use Rattle.std.proofs.Common.{◌≡◌, ℕ, ◌+◌, ◌-◌, ◌<◌, ◌≤◌, Bool, true, false, ◌&&◌, eqb, ◌==◌, nat_lt, nat_le, length, Option, Some, None, MatchBool, slice_get}
use Rattle.std.proofs.Common.{sym, ap, ◌∙◌, refl, inl, inr, arith}
use Rattle.std.proofs.lemmas.Bool.{and_parts, and_from, or_from, or_left, or_right, lt-ltb, le-leb, leb-true, ltb-true, eq-eqb, eqb-true, cases_eq, cases_order}
use Rattle.std.proofs.lemmas.Bool.{cases_lt, true≢false, false_from_ne_true}
use Rattle.std.proofs.lemmas.Map.Entries.{btree_map_get_place, length-values_of}
use Rattle.std.specs.Cmp.{nat_cmp_total}
use Rattle.std.specs.List.{list_any}
use Rattle.std.specs.Ordering.{nat_cmp}
use Rattle.std.specs.Cmp.Lexicographic.{pointwise}
use Rattle.std.specs.BTreeMap.{BTreeMap, IsOrdered, values}
use Rattle.btr_chunk.specs.declared.stripe.Stripe.{Stripe}
use Rattle.btr_chunk.specs.declared.place.StripePlace.{StripePlace}
use Rattle.btr_chunk.specs.declared.chunk.Chunk.{Chunk}
use Rattle.btr_chunk.specs.Chunk.{stripe_length}
use Rattle.btr_chunk.specs.Mapping.{holds}
use Rattle.btr_chunk.specs.Extents.{ranges_meet, meets_range, IsSpaced}
use Rattle.btr_chunk.specs.Table.{stripes_meet, chunks_meet, some_meet, same_stripe, same_chunk, overlaps, chunk_at, next_at, IsTable}
use Rattle.btr_chunk.specs.Index.{start_of, AreChunks, AreStripes, IsNextChunk, IsLast, SharesAddress, SharesNone, SharesRange, SharesNoRange}
use Rattle.btr_chunk.proofs.Rule.{facts}
use Rattle.btr_chunk.proofs.Searches.{list_any-true, list_any-false, find-only, find-first, find-none}
use Rattle.btr_chunk.proofs.Values.{entry-values_of, start_of-values, values-start_of, keys-below}
use Rattle.btr_chunk.proofs.Overlaps.{apart-chunks_meet, chunks_meet-stripes, chunks_meet-apart, some_meet-apart, stripes_meet-turned}

-- of two chunks that are apart, the one that starts first ends first
pub ends-before : (a b : Chunk) → chunks_meet a b ≡ false → a.start < b.start → a.start + a.length ≤ b.start
ends-before a b apart first =
    let meets = (apart-chunks_meet a b apart).addresses in
    elim (cases_lt b.start (a.start + a.length)) [
      | inr done ↦ done
      | inl more ↦
          absurd (true≢false (sym (and_from (nat_lt a.start (b.start + b.length)) (nat_lt b.start (a.start + a.length)) (lt-ltb _ _ (omega arith))
          (lt-ltb _ _ more)) ∙ meets))
    ]

-- what a chunk that holds an address says of its start
bounds : (c : Chunk) (addr : ℕ) → holds c addr ≡ true → (c.start ≤ addr) × (addr < c.start + c.length)
bounds c addr held =
    let both = and_parts (nat_le c.start addr) (nat_lt addr (c.start + c.length)) held in
    (leb-true _ _ both.0, ltb-true _ _ both.1)

-- only the last chunk that starts at or before an address can hold it
pub holder : (f : ℕ → Option Chunk) (addr : ℕ) (c : Chunk) → AreChunks f → IsLast f addr c
    → (k : ℕ) (d : Chunk) → f k ≡ Some d → holds d addr ≡ true → d ≡ c
holder f addr c index last k d there held =
    let start = index.keyed k d there in
    let c_start = index.keyed last.start c last.there in
    let within = bounds d addr held in
    let before = last.before in
    elim (cases_order k last.start) [
      | inl same ↦ let one : Some d ≡ Some c = sym there ∙ ap f same ∙ last.there in cc
      | inr (inl earlier) ↦
          let end = ends-before d c (index.apart k last.start d c there last.there (λ e. omega arith)) (omega arith) in
          absurd (omega arith)
      | inr (inr later) ↦ let gone = last.last k later (omega arith) in cc
    ]

-- the chunk that holds an address, where the last one does
pub chunk_at-last : (m : BTreeMap ℕ Chunk) (addr : ℕ) (c : Chunk) → AreChunks (start_of m) → IsOrdered nat_cmp m
    → IsLast (start_of m) addr c → addr - c.start < c.length → chunk_at (values m) addr ≡ Some c
chunk_at-last m addr c index ordered last within =
    let start = index.keyed last.start c last.there in
    let before = last.before in
    let at = values-start_of m last.start c last.there in
    let held = and_from (nat_le c.start addr) (nat_lt addr (c.start + c.length)) (le-leb _ _ (omega arith)) (lt-ltb _ _ (omega arith)) in
    find-only (λ chunk. holds chunk addr) (values m) at.0 c at.1 held (λ j y there other.
    let key = start_of-values m ordered j y there in
    holder (start_of m) addr c index last key.0 y key.1 other)

-- no chunk holds it, where the last one doesn't
pub chunk_at-past : (m : BTreeMap ℕ Chunk) (addr : ℕ) (c : Chunk) → AreChunks (start_of m) → IsOrdered nat_cmp m
    → IsLast (start_of m) addr c → c.length ≤ addr - c.start → chunk_at (values m) addr ≡ None
chunk_at-past m addr c index ordered last past =
    find-none (λ chunk. holds chunk addr) (values m) (λ j y there. false_from_ne_true (holds y addr) (λ held.
    let key = start_of-values m ordered j y there in
    let same = holder (start_of m) addr c index last key.0 y key.1 held in
    let within = bounds c addr (rw same at held) in
    omega arith))

-- nor where no chunk starts at or before it
pub chunk_at-none : (m : BTreeMap ℕ Chunk) (addr : ℕ) → AreChunks (start_of m) → IsOrdered nat_cmp m
    → ((k : ℕ) → k ≤ addr → start_of m k ≡ None) → chunk_at (values m) addr ≡ None
chunk_at-none m addr index ordered none =
    find-none (λ chunk. holds chunk addr) (values m) (λ j y there. false_from_ne_true (holds y addr) (λ held.
    let key = start_of-values m ordered j y there in
    let start = index.keyed key.0 y key.1 in
    let within = bounds y addr held in
    let gone = none key.0 (omega arith) in
    cc))

-- the last chunk that starts before a chunk's end reaches into it
pub SharesAddress-last : (f : ℕ → Option Chunk) (chunk c : Chunk) → AreChunks f → IsLast f (chunk.start + (chunk.length - 1)) c
    → 0 < chunk.length → chunk.start < c.start + c.length → SharesAddress f chunk
SharesAddress-last f chunk c index last some reaches =
    let start = index.keyed last.start c last.there in
    let before = last.before in
    record {
      start = last.start;
      other = c;
      there = last.there;
      meets = and_from (nat_lt chunk.start (c.start + c.length)) (nat_lt c.start (chunk.start + chunk.length)) (lt-ltb _ _ reaches) (lt-ltb _ _ (omega arith));
    }

-- ranges that meet begin before each other's ends
shared : (a b : Chunk) → ranges_meet a.start a.length b.start b.length ≡ true → (a.start < b.start + b.length) × (b.start < a.start + a.length)
shared a b meets =
    let both = and_parts (nat_lt a.start (b.start + b.length)) (nat_lt b.start (a.start + a.length)) meets in
    (ltb-true _ _ both.0, ltb-true _ _ both.1)

-- the last chunk that starts before a chunk's end doesn't reach into it, and so no chunk does
pub SharesNone-last : (f : ℕ → Option Chunk) (chunk c : Chunk) → AreChunks f → IsLast f (chunk.start + (chunk.length - 1)) c
    → 0 < chunk.length → c.start + c.length ≤ chunk.start → SharesNone f chunk
SharesNone-last f chunk c index last some ends = λ k d there.
    false_from_ne_true (ranges_meet chunk.start chunk.length d.start d.length) (λ meets.
    let start = index.keyed k d there in
    let c_start = index.keyed last.start c last.there in
    let within = shared chunk d meets in
    elim (cases_order k last.start) [
      | inl same ↦
          let one : Some d ≡ Some c = sym there ∙ ap f same ∙ last.there in
          let equal : d ≡ c = cc in
          let again = shared chunk c (rw equal at meets) in
          omega arith
      | inr (inl earlier) ↦
          let end = ends-before d c (index.apart k last.start d c there last.there (λ e. omega arith)) (omega arith) in
          let filled = (facts c (index.sound last.start c last.there)).some in
          omega arith
      | inr (inr later) ↦ let gone = last.last k later (omega arith) in cc
    ])

-- no chunk starts before the chunk's end
pub SharesNone-empty : (f : ℕ → Option Chunk) (chunk : Chunk) → AreChunks f → 0 < chunk.length
    → ((k : ℕ) → k ≤ chunk.start + (chunk.length - 1) → f k ≡ None) → SharesNone f chunk
SharesNone-empty f chunk index some none = λ k d there.
    false_from_ne_true (ranges_meet chunk.start chunk.length d.start d.length) (λ meets.
    let start = index.keyed k d there in
    let within = shared chunk d meets in
    let gone = none k (omega arith) in
    cc)

-- a stripe that begins first and doesn't meet another one ends before it
stripe-before : (len : ℕ) (s : Stripe) (other : ℕ) (t : Stripe) → stripes_meet len s other t ≡ false → s.devid ≡ t.devid → s.offset < t.offset
    → s.offset + len ≤ t.offset
stripe-before len s other t apart device first =
    elim (cases_lt t.offset (s.offset + len)) [
      | inr done ↦ done
      | inl more ↦
          absurd (true≢false (sym (and_from (eqb s.devid t.devid) (ranges_meet s.offset len t.offset other) (eq-eqb _ _ device)
          (and_from (nat_lt s.offset (t.offset + other)) (nat_lt t.offset (s.offset + len)) (lt-ltb _ _ (omega arith)) (lt-ltb _ _ more))) ∙ apart))
    ]

-- the stripes of a table are apart
pub IsSpaced-stripes : (f : ℕ → Option Chunk) (g : StripePlace → Option ℕ) → AreChunks f → AreStripes f g → IsSpaced g
IsSpaced-stripes f g index stripes = λ a b m n at bt device first.
    let one = stripes.owned a m at in
    let two = stripes.owned b n bt in
    let a_device = ap (λ p. p.devid) one.at in
    let a_offset = ap (λ p. p.offset) one.at in
    let b_device = ap (λ p. p.devid) two.at in
    let b_offset = ap (λ p. p.offset) two.at in
    let len = stripe_length one.chunk in
    let other = stripe_length two.chunk in
    let apart : stripes_meet len one.stripe other two.stripe ≡ false =
    elim (cases_eq one.start two.start) [
      | inl same ↦
          let both : Some one.chunk ≡ Some two.chunk = sym one.chunk_there ∙ ap f same ∙ two.chunk_there in
          let equal : one.chunk ≡ two.chunk = cc in
          let spread = index.spread one.start one.chunk one.chunk_there in
          let there : slice_get one.chunk.stripes two.number ≡ Some two.stripe = rw equal two.stripe_there in
          elim (cases_order one.number two.number) [
            | inl number ↦
                let twice : Some one.stripe ≡ Some two.stripe = sym one.stripe_there ∙ ap (λ i. slice_get one.chunk.stripes i) number ∙ there in
                let stripe : one.stripe ≡ two.stripe = cc in
                let offset = ap (λ s. s.offset) stripe in
                absurd (omega arith)
            | inr (inl below) ↦ rw (← equal) (some_meet-apart len one.chunk.stripes spread one.number two.number one.stripe two.stripe below
                one.stripe_there there)
            | inr (inr above) ↦
                rw (← equal) (stripes_meet-turned len two.stripe len one.stripe
                (some_meet-apart len one.chunk.stripes spread two.number one.number two.stripe one.stripe above there one.stripe_there))
          ]
      | inr differ ↦
          (apart-chunks_meet one.chunk two.chunk (index.apart one.start two.start one.chunk two.chunk one.chunk_there two.chunk_there differ)).bytes
          one.number two.number one.stripe two.stripe one.stripe_there two.stripe_there
    ] in
    let before = stripe-before len one.stripe other two.stripe apart (omega arith) (omega arith) in
    omega (arith, one.long)

-- where nothing is shared, the chunk overlaps no other
pub overlaps-false : (m : BTreeMap ℕ Chunk) (g : StripePlace → Option ℕ) (chunk : Chunk) → AreStripes (start_of m) g → IsOrdered nat_cmp m
    → some_meet (stripe_length chunk) chunk.stripes ≡ false → SharesNone (start_of m) chunk → SharesNoRange g chunk
    → overlaps (values m) chunk ≡ false
overlaps-false m g chunk stripes ordered spread addresses ranges =
    or_from (some_meet (stripe_length chunk) chunk.stripes) (list_any (chunks_meet chunk) (values m)) spread
    (list_any-false (chunks_meet chunk) (values m) (λ i c there.
    let key = start_of-values m ordered i c there in
    chunks_meet-apart chunk c (record {
      addresses = addresses key.0 c key.1;
      bytes = λ j l s t here at.
          ranges j s here (record { devid = t.devid; offset = t.offset }) (stripe_length c) (stripes.listed key.0 c l t key.1 at);
    })))

-- a chunk that shares an address with one of the chunks overlaps it
pub overlaps-address : (m : BTreeMap ℕ Chunk) (chunk : Chunk) → SharesAddress (start_of m) chunk → overlaps (values m) chunk ≡ true
overlaps-address m chunk shares =
    let at = values-start_of m shares.start shares.other shares.there in
    or_right (some_meet (stripe_length chunk) chunk.stripes) (list_any (chunks_meet chunk) (values m))
    (list_any-true (chunks_meet chunk) (values m) at.0 shares.other at.1
    (or_left (ranges_meet chunk.start chunk.length shares.other.start shares.other.length) _ shares.meets))

-- a range that is met, at a place and of a length that are equal
met : (len : ℕ) (s : Stripe) (p q : StripePlace) (n m : ℕ) → p ≡ q → n ≡ m → meets_range len s p n ≡ true → meets_range len s q m ≡ true
met len s p q n m at long meets = ap (λ x. meets_range len s x m) (sym at) ∙ ap (λ x. meets_range len s p x) (sym long) ∙ meets

-- and so does one that shares a byte
pub overlaps-range : (m : BTreeMap ℕ Chunk) (g : StripePlace → Option ℕ) (chunk : Chunk) → AreStripes (start_of m) g → SharesRange g chunk
    → overlaps (values m) chunk ≡ true
overlaps-range m g chunk stripes shares =
    let owner = stripes.owned shares.range.place shares.range.taken shares.range.there in
    let at = values-start_of m owner.start owner.chunk owner.chunk_there in
    let meets = met (stripe_length chunk) shares.stripe shares.range.place _ shares.range.taken
    (stripe_length owner.chunk) owner.at owner.long shares.range.meets in
    or_right (some_meet (stripe_length chunk) chunk.stripes) (list_any (chunks_meet chunk) (values m))
    (list_any-true (chunks_meet chunk) (values m) at.0 owner.chunk at.1
    (chunks_meet-stripes chunk owner.chunk shares.number owner.number shares.stripe owner.stripe shares.there owner.stripe_there meets))

-- where the own stripes and the addresses are apart, the ranges of devices decide
pub overlaps-by_range : (m : BTreeMap ℕ Chunk) (g : StripePlace → Option ℕ) (chunk : Chunk) → AreStripes (start_of m) g → IsOrdered nat_cmp m
    → some_meet (stripe_length chunk) chunk.stripes ≡ false → SharesNone (start_of m) chunk
    → (b : Bool) → MatchBool b (SharesRange g chunk) (SharesNoRange g chunk) → b ≡ overlaps (values m) chunk
overlaps-by_range m g chunk stripes ordered spread addresses true shares = sym (overlaps-range m g chunk stripes shares)
overlaps-by_range m g chunk stripes ordered spread addresses false shares = sym (overlaps-false m g chunk stripes ordered spread addresses shares)

-- equal chunks have one start
same-start : (a b : Chunk) → same_chunk a b ≡ true → a.start ≡ b.start
same-start a b same =
    let last = and_parts ((a.start == b.start) && (a.length == b.length) && (a.kind == b.kind)) (pointwise same_stripe a.stripes b.stripes) same in
    let middle = and_parts ((a.start == b.start) && (a.length == b.length)) (a.kind == b.kind) last.0 in
    eqb-true a.start b.start (and_parts (a.start == b.start) (a.length == b.length) middle.0).0

-- the table has an equal chunk where its chunk of that start is equal
pub same-there : (m : BTreeMap ℕ Chunk) (chunk there : Chunk) → AreChunks (start_of m) → IsOrdered nat_cmp m → start_of m chunk.start ≡ Some there
    → same_chunk chunk there ≡ list_any (same_chunk chunk) (values m)
same-there m chunk there index ordered found = by_test (same_chunk chunk there) refl
  where
    -- the table has an equal chunk just where the one of that start is equal
    by_test : (b : Bool) → same_chunk chunk there ≡ b → same_chunk chunk there ≡ list_any (same_chunk chunk) (values m)
    by_test true same =
        let at = values-start_of m chunk.start there found in
        same ∙ sym (list_any-true (same_chunk chunk) (values m) at.0 there at.1 same)
    by_test false differ =
        differ ∙ sym (list_any-false (same_chunk chunk) (values m) (λ i c at. false_from_ne_true (same_chunk chunk c) (λ same.
        let key = start_of-values m ordered i c at in
        let start = index.keyed key.0 c key.1 in
        let equal = same-start chunk c same in
        let one : Some there ≡ Some c = sym found ∙ ap (start_of m) (equal ∙ start) ∙ key.1 in
        let chunk_is : there ≡ c = cc in
        true≢false (sym same ∙ ap (same_chunk chunk) (sym chunk_is) ∙ differ))))

-- and not where it has none of that start
pub same-absent : (m : BTreeMap ℕ Chunk) (chunk : Chunk) → AreChunks (start_of m) → IsOrdered nat_cmp m → start_of m chunk.start ≡ None
    → list_any (same_chunk chunk) (values m) ≡ false
same-absent m chunk index ordered absent =
    list_any-false (same_chunk chunk) (values m) (λ i c at. false_from_ne_true (same_chunk chunk c) (λ same.
    let key = start_of-values m ordered i c at in
    let start = index.keyed key.0 c key.1 in
    let gone = sym key.1 ∙ ap (start_of m) (sym (same-start chunk c same ∙ start)) ∙ absent in
    cc))

-- what the list of a table's chunks keeps
pub IsTable-values : (m : BTreeMap ℕ Chunk) → AreChunks (start_of m) → IsOrdered nat_cmp m → length m.entries ≤ 65536 → IsTable (values m)
IsTable-values m index ordered few = record {
  few = rw length-values_of few;
  sound = λ i a there.
      let key = start_of-values m ordered i a there in
      (index.sound key.0 a key.1, index.spread key.0 a key.1);
  apart = λ i j a b below here there.
      let one = entry-values_of m.entries i a here in
      let two = entry-values_of m.entries j b there in
      let a_there = btree_map_get_place nat_cmp_total m i one.0 a ordered one.1 in
      let b_there = btree_map_get_place nat_cmp_total m j two.0 b ordered two.1 in
      let a_start = index.keyed one.0 a a_there in
      let b_start = index.keyed two.0 b b_there in
      let ascending = keys-below m.entries i j one.0 two.0 a b ordered below one.1 two.1 in
      let away = index.apart one.0 two.0 a b a_there b_there (λ e. omega arith) in
      (ends-before a b away (omega arith), away);
}

-- the first chunk at or behind an address
pub next_at-first : (m : BTreeMap ℕ Chunk) (addr : ℕ) (c : Chunk) → AreChunks (start_of m) → IsOrdered nat_cmp m → length m.entries ≤ 65536
    → IsNextChunk (start_of m) addr c → next_at (values m) addr ≡ Some c
next_at-first m addr c index ordered few first =
    let table = IsTable-values m index ordered few in
    let start = index.keyed first.start c first.there in
    let at = values-start_of m first.start c first.there in
    let behind = first.behind in
    find-first (λ chunk. nat_le addr chunk.start) (values m) at.0 c at.1 (le-leb _ _ (omega (arith, start, behind)))
    (λ j y lt there. false_from_ne_true (nat_le addr y.start) (λ passes.
    let key = start_of-values m ordered j y there in
    let y_start = index.keyed key.0 y key.1 in
    let before = (table.apart j at.0 y c lt there at.1).0 in
    let some = (facts y (table.sound j y there).0).some in
    let from = leb-true addr y.start passes in
    let gone = first.first key.0 (omega (arith, from, y_start)) (omega (arith, before, some, y_start, start)) in
    cc))

-- where no chunk starts at or behind an address, none is next
pub next_at-none : (m : BTreeMap ℕ Chunk) (addr : ℕ) → AreChunks (start_of m) → IsOrdered nat_cmp m
    → ((k : ℕ) → addr ≤ k → start_of m k ≡ None) → next_at (values m) addr ≡ None
next_at-none m addr index ordered none =
    find-none (λ chunk. nat_le addr chunk.start) (values m) (λ j y there. false_from_ne_true (nat_le addr y.start) (λ passes.
    let key = start_of-values m ordered j y there in
    let start = index.keyed key.0 y key.1 in
    let from = leb-true addr y.start passes in
    let gone = none key.0 (omega (arith, from, start)) in
    cc))
