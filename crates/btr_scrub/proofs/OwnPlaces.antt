-- The places at which something is wrong with a block are its own.
use Rattle.std.proofs.Common.{◌≡◌, Bool, true, false, not, cond, List, [], ◌∷◌, map, Option, Some, None, ℕ, ap, subst, inl, inr, refl, ◌∙◌}
use Rattle.btr_scrub.proofs.Common.{Failing, Images, In, Mirror, Part, Range, Target, Write, bad_parts, copy_writes, covers, fresh, is_plain, is_sound}
use Rattle.btr_scrub.proofs.Common.{is_stale, list_any, mending_writes, mirrors, new_bytes, option_map, option_map_or, own_parts, passing_filter, range_of}
use Rattle.btr_scrub.proofs.Common.{range_with_len, stale_beside, stale_parts, wrong_parts}
use Rattle.btr_chunk.specs.declared.place.Part.TheVariants.{Slice}
use Rattle.btr_scrub_row.proofs.Settled.{mending_is}
use Rattle.btr_scrub.proofs.Lists.{any_is, mapped, of_filter_map}

-- a block with copies has those
pub own_copies : (t : Target) (n : ℕ) → mirrors t.chunk ≡ Some n → own_parts t ≡ map Mirror (range_with_len 0 n)
own_copies t n has = ap (λ o. option_map_or (λ copies. map Mirror (range_with_len 0 copies)) o (Slice t.at.index ∷ [])) has

-- one without has its slice alone
pub own_slice : (t : Target) (q : Part) → mirrors t.chunk ≡ None → In q (own_parts t) → Slice t.at.index ≡ q
own_slice t q none i =
    let only : In q (Slice t.at.index ∷ []) = subst (λ o. In q (option_map_or (λ n. map Mirror (range_with_len 0 n)) o (Slice t.at.index ∷ []))) none i in
    elim only [ inl e ↦ e | inr none ↦ absurd none ]

-- a stale place is one of its own
pub stale_own : (fails : Failing) (images : Images) (t : Target) (part : Part) → In part (stale_parts images fails t) → In part (own_parts t)
stale_own fails images t part i = by (fresh images fails t) i
  where
    by : (o : Option (List ℕ)) → In part (option_map_or (stale_beside images fails t) o []) → In part (own_parts t)
    by None i = absurd i
    by (Some bytes) i = (passing_filter (is_stale images fails t bytes) part (own_parts t) i).0

-- a place at which something is wrong is one of its own
pub wrong_own : (images : Images) (fails : Failing) (t : Target) (part : Part) → In part (wrong_parts images fails t) → In part (own_parts t)
wrong_own images fails t part i = by (is_plain t.want) i
  where
    by : (b : Bool) → In part (cond b (stale_parts images fails t) (bad_parts images t)) → In part (own_parts t)
    by true i = stale_own fails images t part i
    by false i = (passing_filter (λ part. not (is_sound images t part)) part (own_parts t) i).0

-- a write for a block or a plain sector lies over a place at which something is wrong with it, and brings the bytes that it gets
pub record IsOver (images : Images) (fails : Failing) (t : Target) (w : Write) : Type 0 where
  pub part : Part
  pub wrong : In part (wrong_parts images fails t)
  pub range : range_of t part ≡ Some w.range
  pub gets : new_bytes images fails t ≡ Some w.bytes

-- each write for a block is such a one
pub is_over : (images : Images) (fails : Failing) (t : Target) (w : Write) → In w (mending_writes images fails t) → IsOver images fails t w
is_over images fails t w i =
    by (new_bytes images fails t) refl (subst (In w) (mending_is images (record { chunk = t.chunk; number = 0; blocks = []; failing = fails }) t) i)
  where
    by : (o : Option (List ℕ)) → new_bytes images fails t ≡ o → In w (option_map_or (λ bytes. copy_writes t bytes (wrong_parts images fails t)) o [])
        → IsOver images fails t w
    by None e i = absurd i
    by (Some bytes) e i =
        let f = of_filter_map (λ q. option_map (λ (range : Range). record { range = range; bytes = bytes }) (range_of t q)) w (wrong_parts images fails t) i in
        let m = mapped (λ (range : Range). record { range = range; bytes = bytes }) (range_of t f.0) w f.2 in
        record {
          part = f.0;
          wrong = f.1;
          range = m.1 ∙ ap Some (ap (λ (v : Write). v.range) m.2);
          gets = e ∙ ap Some (ap (λ (v : Write). v.bytes) m.2);
        }

-- a byte that is written is one of such a write
pub over_byte : (images : Images) (fails : Failing) (t : Target) (slot off : ℕ)
    → list_any (λ (w : Write). covers slot off w.range) (mending_writes images fails t) ≡ true
    → (w : Write) × (covers slot off w.range ≡ true) × IsOver images fails t w
over_byte images fails t slot off h =
    let w = any_is (λ (w : Write). covers slot off w.range) (mending_writes images fails t) h in (w.0, w.2, is_over images fails t w.0 w.1)
