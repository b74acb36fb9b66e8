-- What one more chunk does to the two maps of a table.
use Rattle.std.proofs.Common.{◌≡◌, ◌≢◌, ℕ, ◌≤◌, Bool, true, false, eqb, cond, List, [], ◌∷◌, length, Option, Some, None, IsSome, Result, Ok, Err, OnOk, OnErr}
use Rattle.std.proofs.Common.{is_err, slice_get, suc, ◌⊎◌, sym, ap, ◌∙◌, subst, refl, inl, inr, arith}
use Rattle.std.proofs.lemmas.Bool.{and_parts, and_from, or_parts, lt-ltb, le-ltb, eq-eqb, eqb-true, cases_eq, cases_order, cond-true, cond-false, false≢true}
use Rattle.std.proofs.lemmas.Bool.{true≢false, false_from_ne_true}
use Rattle.std.proofs.lemmas.Map.Entries.{btree_map_get_place}
use Rattle.std.specs.Cmp.{nat_cmp_total}
use Rattle.std.specs.List.{list_any}
use Rattle.std.specs.List.Sorted.{IsStrictlySortedBy}
use Rattle.std.specs.Map.{keys_of, values_of, lookup, remove_entry}
use Rattle.std.specs.Ordering.{nat_cmp, is_eq}
use Rattle.std.specs.BTreeMap.{BTreeMap, IsOrdered, values, is_at, insert_entry}
use Rattle.btr_chunk.specs.declared.stripe.Stripe.{Stripe}
use Rattle.btr_chunk.specs.declared.place.StripePlace.{StripePlace}
use Rattle.btr_chunk.specs.declared.chunk.Chunk.{Chunk}
use Rattle.btr_chunk.specs.Chunk.{IsChunk, stripe_length}
use Rattle.btr_chunk.specs.Extents.{extent_of, AreFree, is_stripe_at, has_stripe_at}
use Rattle.btr_chunk.specs.Table.{stripes_meet, chunks_meet, some_meet, overlaps, placed}
use Rattle.btr_chunk.specs.Index.{start_of, IsStripe, AreChunks, AreStripes, IsIndexed}
use Rattle.btr_chunk.proofs.Rule.{facts, stripe_length-some}
use Rattle.btr_chunk.proofs.Searches.{Passes-list_any, fails-list_any, list_any-true, list_any-false, none_from}
use Rattle.btr_chunk.proofs.Places.{nat_cmp-less, nat_cmp-equal, nat_cmp-greater, place-equal, ranges_meet-start, meets_range-start}
use Rattle.btr_chunk.proofs.Values.{values-start_of}
use Rattle.btr_chunk.proofs.Overlaps.{apart-chunks_meet, chunks_meet-turned}

-- a fact for one variant
pub OnOk-always : {T E P : Type 0} (r : Result T E) → P → OnOk r P
OnOk-always (Ok x) fact = fact
OnOk-always (Err e) fact = tt

-- what holds anyway holds where a call failed
pub OnErr-always : {T E P : Type 0} (r : Result T E) → P → OnErr r P
OnErr-always (Ok x) fact = tt
OnErr-always (Err e) fact = fact

-- a fact of failed calls holds where the call failed
pub at-OnErr : {T E P : Type 0} (r : Result T E) → is_err r ≡ true → OnErr r P → P
at-OnErr (Ok x) err fact = absurd (false≢true err)
at-OnErr (Err e) err fact = fact

-- a fact of successful calls holds where the call did not fail
pub at-OnOk : {T E P : Type 0} (r : Result T E) → is_err r ≡ false → OnOk r P → P
at-OnOk (Ok x) ok fact = fact
at-OnOk (Err e) ok fact = absurd (true≢false ok)

-- what is there has a value
some_from : {X : Type 0} (o : Option X) → IsSome o → (x : X) × (o ≡ Some x)
some_from None is = absurd (false≢true is)
some_from (Some x) is = (x, refl)

-- the stripes of a chunk that overlaps nothing are apart
pub spread-overlaps : (m : BTreeMap ℕ Chunk) (chunk : Chunk) → overlaps (values m) chunk ≡ false → some_meet (stripe_length chunk) chunk.stripes ≡ false
spread-overlaps m chunk apart = (or_parts (some_meet (stripe_length chunk) chunk.stripes) (list_any (chunks_meet chunk) (values m)) apart).0

-- a chunk that overlaps none of the chunks is apart from each
pub apart-overlaps : (m : BTreeMap ℕ Chunk) (chunk : Chunk) → overlaps (values m) chunk ≡ false → (k : ℕ) (c : Chunk) → start_of m k ≡ Some c
    → chunks_meet chunk c ≡ false
apart-overlaps m chunk apart k c there =
    let at = values-start_of m k c there in
    fails-list_any (chunks_meet chunk) (values m) (or_parts (some_meet (stripe_length chunk) chunk.stripes) (list_any (chunks_meet chunk) (values m))
    apart).1 at.0 c at.1

-- and none of the chunks starts where it does
pub absent-overlaps : (m : BTreeMap ℕ Chunk) (chunk : Chunk) → AreChunks (start_of m) → IsChunk chunk → overlaps (values m) chunk ≡ false
    → start_of m chunk.start ≡ None
absent-overlaps m chunk index is apart =
    none_from (start_of m chunk.start) (λ there.
    let found = some_from (start_of m chunk.start) there in
    let c = found.0 in
    let start = index.keyed chunk.start c found.1 in
    let some = (facts chunk is).some in
    let filled = (facts c (index.sound chunk.start c found.1)).some in
    let meets = ranges_meet-start chunk.start chunk.length c.start c.length some filled (sym start) in
    true≢false (sym meets ∙ (apart-chunks_meet chunk c (apart-overlaps m chunk apart chunk.start c found.1)).addresses))

-- stripes that begin at one place meet
meets-start : (a : Chunk) (s : Stripe) (b : Chunk) (t : Stripe) → IsChunk a → IsChunk b → s.devid ≡ t.devid → s.offset ≡ t.offset
    → stripes_meet (stripe_length a) s (stripe_length b) t ≡ true
meets-start a s b t is_a is_b device offset =
    meets_range-start (stripe_length a) s (record { devid = t.devid; offset = t.offset }) (stripe_length b) (stripe_length-some a is_a)
    (stripe_length-some b is_b) device offset

-- none of the ranges begins where one of its stripes does
pub AreFree-overlaps : (m : BTreeMap ℕ Chunk) (g : StripePlace → Option ℕ) (chunk : Chunk) → AreChunks (start_of m) → AreStripes (start_of m) g → IsChunk chunk
    → overlaps (values m) chunk ≡ false → AreFree g chunk.stripes
AreFree-overlaps m g chunk index stripes is apart = λ i s here.
    none_from (g (record { devid = s.devid; offset = s.offset })) (λ there.
    let found = some_from (g (record { devid = s.devid; offset = s.offset })) there in
    let owner = stripes.owned (record { devid = s.devid; offset = s.offset }) found.0 found.1 in
    let away = (apart-chunks_meet chunk owner.chunk (apart-overlaps m chunk apart owner.start owner.chunk owner.chunk_there)).bytes
    i owner.number s owner.stripe here owner.stripe_there in
    true≢false (sym (meets-start chunk s owner.chunk owner.stripe is (index.sound owner.start owner.chunk owner.chunk_there)
    (ap (λ p. p.devid) owner.at) (ap (λ p. p.offset) owner.at)) ∙ away))

-- a map with one more entry
pub record Gains (f f' : ℕ → Option Chunk) (chunk : Chunk) : Type 0 where
  pub absent : f chunk.start ≡ None
  pub here : f' chunk.start ≡ Some chunk
  pub others : (k : ℕ) → k ≢ chunk.start → f' k ≡ f k

-- an entry that is put in where there was none is gained
pub Gains-insert : (f f' : ℕ → Option Chunk) (chunk : Chunk) → f chunk.start ≡ None
    → ((k : ℕ) → f' k ≡ cond (is_eq (nat_cmp chunk.start k)) (Some chunk) (f k)) → Gains f f' chunk
Gains-insert f f' chunk absent inserted = record {
  absent = absent;
  here = inserted chunk.start ∙ cond-true (is_eq (nat_cmp chunk.start chunk.start)) (Some chunk) (f chunk.start)
      (ap is_eq (nat_cmp-equal chunk.start chunk.start refl));
  others = λ k differ. inserted k ∙ cond-false (is_eq (nat_cmp chunk.start k)) (Some chunk) (f k) (apart k differ);
}
  where
    -- another start does not compare as equal
    apart : (k : ℕ) → k ≢ chunk.start → is_eq (nat_cmp chunk.start k) ≡ false
    apart k differ =
        elim (cases_order chunk.start k) [
          | inl same ↦ absurd (differ (sym same))
          | inr (inl below) ↦ ap is_eq (nat_cmp-less chunk.start k below)
          | inr (inr above) ↦ ap is_eq (nat_cmp-greater chunk.start k above)
        ]

-- an entry of it is the new one or an old one
gained : (f f' : ℕ → Option Chunk) (chunk : Chunk) → Gains f f' chunk → (k : ℕ) (c : Chunk) → f' k ≡ Some c
    → ((k ≡ chunk.start) × (c ≡ chunk)) ⊎ ((k ≢ chunk.start) × (f k ≡ Some c))
gained f f' chunk gains k c there =
    elim (cases_eq k chunk.start) [
      | inl same ↦ let one : Some c ≡ Some chunk = sym there ∙ ap f' same ∙ gains.here in inl (same, cc)
      | inr differ ↦ inr (differ, sym (gains.others k differ) ∙ there)
    ]

-- with one more chunk that is apart from all, the chunks still keep their rules
pub AreChunks-gains : (f f' : ℕ → Option Chunk) (chunk : Chunk) → Gains f f' chunk → AreChunks f → IsChunk chunk
    → some_meet (stripe_length chunk) chunk.stripes ≡ false
    → ((k : ℕ) (c : Chunk) → f k ≡ Some c → chunks_meet chunk c ≡ false) → AreChunks f'
AreChunks-gains f f' chunk gains index is spread apart = record {
  keyed = λ k c there. elim (gained f f' chunk gains k c there) [ inl new ↦ ap (λ x. x.start) new.1 ∙ sym new.0 | inr old ↦ index.keyed k c old.1 ];
  sound = λ k c there. elim (gained f f' chunk gains k c there) [ inl new ↦ subst IsChunk (sym new.1) is | inr old ↦ index.sound k c old.1 ];
  spread = λ k c there. elim (gained f f' chunk gains k c there) [
    | inl new ↦ ap (λ x. some_meet (stripe_length x) x.stripes) new.1 ∙ spread
    | inr old ↦ index.spread k c old.1
  ];
  apart = λ k l c d here there differ. elim (gained f f' chunk gains k c here) [
    | inl new ↦ elim (gained f f' chunk gains l d there) [
      | inl again ↦ absurd (differ (new.0 ∙ sym again.0))
      | inr old ↦ ap (λ x. chunks_meet x d) new.1 ∙ apart l d old.1
    ]
    | inr old ↦ elim (gained f f' chunk gains l d there) [
      | inl new ↦ ap (chunks_meet c) new.1 ∙ chunks_meet-turned chunk c (apart k c old.1)
      | inr again ↦ index.apart k l c d old.1 again.1 differ
    ]
  ];
}

-- with one more chunk's stripes entered, the ranges of devices are those of all chunks' stripes
pub AreStripes-gains : (f f' : ℕ → Option Chunk) (g g' : StripePlace → Option ℕ) (chunk : Chunk) → Gains f f' chunk → AreChunks f → AreStripes f g
    → IsChunk chunk
    → ((k : ℕ) (c : Chunk) → f k ≡ Some c → chunks_meet chunk c ≡ false)
    → ((q : StripePlace) → g' q ≡ cond (has_stripe_at q chunk.stripes) (Some (stripe_length chunk)) (g q)) → AreStripes f' g'
AreStripes-gains f f' g g' chunk gains index stripes is apart entered = record {
  listed = λ k c i s there at. elim (gained f f' chunk gains k c there) [
    | inl new ↦
        let one : slice_get chunk.stripes i ≡ Some s = ap (λ x. slice_get x.stripes i) (sym new.1) ∙ at in
        let has = list_any-true (is_stripe_at (record { devid = s.devid; offset = s.offset })) chunk.stripes i s one
        (and_from (eqb s.devid s.devid) (eqb s.offset s.offset) (eq-eqb s.devid s.devid refl) (eq-eqb s.offset s.offset refl)) in
        entered (record { devid = s.devid; offset = s.offset }) ∙ cond-true _ (Some (stripe_length chunk)) _ has ∙ ap (λ x. Some (stripe_length x)) (sym new.1)
    | inr old ↦
        let has = list_any-false (is_stripe_at (record { devid = s.devid; offset = s.offset })) chunk.stripes (λ j t here.
        false_from_ne_true (is_stripe_at (record { devid = s.devid; offset = s.offset }) t) (λ same.
        let both = and_parts (eqb t.devid s.devid) (eqb t.offset s.offset) same in
        let away = (apart-chunks_meet chunk c (apart k c old.1)).bytes j i t s here at in
        true≢false (sym (meets-start chunk t c s is (index.sound k c old.1) (eqb-true _ _ both.0) (eqb-true _ _ both.1)) ∙ away))) in
        entered (record { devid = s.devid; offset = s.offset }) ∙ cond-false _ (Some (stripe_length chunk)) _ has ∙ stripes.listed k c i s old.1 at
  ];
  owned = λ q n at. owner q n at (has_stripe_at q chunk.stripes) refl;
}
  where
    -- a range of a device is one of the new chunk's stripes, or was owned before
    owner : (q : StripePlace) (n : ℕ) → g' q ≡ Some n → (b : Bool) → has_stripe_at q chunk.stripes ≡ b → IsStripe f' q n
    owner q n at true has =
        let found = Passes-list_any (is_stripe_at q) chunk.stripes has in
        let t = found.element in
        let both = and_parts (eqb t.devid q.devid) (eqb t.offset q.offset) found.passes in
        let long : Some n ≡ Some (stripe_length chunk) = sym at ∙ entered q ∙ cond-true _ (Some (stripe_length chunk)) _ has in
        record {
          start = chunk.start;
          chunk = chunk;
          chunk_there = gains.here;
          number = found.place;
          stripe = t;
          stripe_there = found.there;
          at = place-equal q (record { devid = t.devid; offset = t.offset }) (sym (eqb-true t.devid q.devid both.0)) (sym (eqb-true t.offset q.offset both.1));
          long = cc;
        }
    owner q n at false has =
        let old = stripes.owned q n (sym (entered q ∙ cond-false _ (Some (stripe_length chunk)) _ has) ∙ at) in
        let apart_start : old.start ≢ chunk.start = λ same.
        (let gone : Some old.chunk ≡ None = sym old.chunk_there ∙ ap f same ∙ gains.absent in cc) in
        record {
          start = old.start;
          chunk = old.chunk;
          chunk_there = gains.others old.start apart_start ∙ old.chunk_there;
          number = old.number;
          stripe = old.stripe;
          stripe_there = old.stripe_there;
          at = old.at;
          long = old.long;
        }

-- an entry that is put in and taken out again
pub remove_entry-insert_entry : (es : List (ℕ × Chunk)) (k : ℕ) (c : Chunk) → lookup (is_at (nat_cmp k)) es ≡ None
    → remove_entry (is_at (nat_cmp k)) (insert_entry nat_cmp es k c) ≡ es
remove_entry-insert_entry [] k c absent = rw (nat_cmp-equal k k refl) refl
remove_entry-insert_entry (e ∷ es) k c absent =
    elim (cases_order k e.0) [
      | inl same ↦ let there = rw (nat_cmp-equal k e.0 same) at absent in cc
      | inr (inl below) ↦ rw (nat_cmp-less k e.0 below, nat_cmp-equal k k refl) refl
      | inr (inr above) ↦
          let rest = rw (nat_cmp-greater k e.0 above) at absent in
          rw (nat_cmp-greater k e.0 above, nat_cmp-greater k e.0 above) (ap (λ xs. e ∷ xs) (remove_entry-insert_entry es k c rest))
    ]

-- the values with a new entry, where each chunk has its start as its key
pub values_of-insert_entry : (es : List (ℕ × Chunk)) (c : Chunk) → ((i k : ℕ) (d : Chunk) → slice_get es i ≡ Some (k, d) → d.start ≡ k)
    → lookup (is_at (nat_cmp c.start)) es ≡ None → values_of (insert_entry nat_cmp es c.start c) ≡ placed c (values_of es)
values_of-insert_entry [] c keyed absent = refl
values_of-insert_entry (e ∷ es) c keyed absent =
    let start : e.1.start ≡ e.0 = keyed 0 e.0 e.1 refl in
    elim (cases_order c.start e.0) [
      | inl same ↦ let there = rw (nat_cmp-equal c.start e.0 same) at absent in cc
      | inr (inl below) ↦ rw (nat_cmp-less c.start e.0 below, lt-ltb c.start e.1.start (omega arith)) refl
      | inr (inr above) ↦
          let rest = rw (nat_cmp-greater c.start e.0 above) at absent in
          rw (nat_cmp-greater c.start e.0 above, le-ltb c.start e.1.start (omega arith))
          (ap (λ xs. e.1 ∷ xs) (values_of-insert_entry es c (λ i k d there. keyed (suc i) k d there) rest))
    ]

-- the values of a table with one more chunk
pub values-insert : (m : BTreeMap ℕ Chunk) (c : Chunk) → AreChunks (start_of m) → IsOrdered nat_cmp m → start_of m c.start ≡ None
    → values_of (insert_entry nat_cmp m.entries c.start c) ≡ placed c (values m)
values-insert m c index ordered absent =
    values_of-insert_entry m.entries c (λ i k d there. index.keyed k d (btree_map_get_place nat_cmp_total m i k d ordered there)) absent

-- ranges that are the same at each place are those of the same stripes
pub AreStripes-same : (f : ℕ → Option Chunk) (g g' : StripePlace → Option ℕ) → ((q : StripePlace) → g' q ≡ g q) → AreStripes f g → AreStripes f g'
AreStripes-same f g g' same stripes = record {
  listed = λ k c i s there at. same (record { devid = s.devid; offset = s.offset }) ∙ stripes.listed k c i s there at;
  owned = λ q n at. stripes.owned q n (sym (same q) ∙ at);
}

-- maps with equal entries keep the same
pub IsIndexed-same : (m n : BTreeMap ℕ Chunk) (p q : BTreeMap StripePlace ℕ) → n.entries ≡ m.entries
    → ((place : StripePlace) → extent_of q place ≡ extent_of p place)
    → IsIndexed m p → IsIndexed n q
IsIndexed-same m n p q entries same is =
    let look : start_of n ≡ start_of m = ap (λ es. λ k. lookup (is_at (nat_cmp k)) es) entries in
    record {
      chunks = subst AreChunks (sym look) is.chunks;
      stripes = subst (λ (f : ℕ → Option Chunk). AreStripes f (extent_of q)) (sym look)
          (AreStripes-same (start_of m) (extent_of p) (extent_of q) same is.stripes);
      ordered = subst (λ (es : List (ℕ × Chunk)). IsStrictlySortedBy nat_cmp (keys_of es)) (sym entries) is.ordered;
      few = subst (λ (es : List (ℕ × Chunk)). length es ≤ 65536) (sym entries) is.few;
    }
