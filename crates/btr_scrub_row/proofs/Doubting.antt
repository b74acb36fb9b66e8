-- The images of a row that are in doubt, as its candidates read them.
use Rattle.std.proofs.Common.{◌≡◌, ℕ, ◌+◌, ◌<◌, ◌&&◌, ◌||◌, Bool, true, false, not, cond, List, [], ◌∷◌, ◌++◌, length, map, take, get_or, Option, Some, None}
use Rattle.std.proofs.Common.{slice_get, refl, sym, ap, ◌∙◌, subst, inl, inr, arith}
use Rattle.btr_scrub_row.proofs.Common.{Candidate, Doubts, HasParity, IsChunk, KnowsDoubts, Layout, LiesAt, P, Parity, Part, Q, Raid6, Row, Slice, SlicePiece}
use Rattle.btr_scrub_row.proofs.Common.{Stripe, Target, common_steps, data_count, devid_at, element_count, element_of, filter, flag_of, is_behind}
use Rattle.btr_scrub_row.proofs.Common.{is_doubtful, is_on_behind, is_trusted, list_any, mirrors, option_map_or, part_at, part_of, range_with_len, reads_slice}
use Rattle.btr_scrub_row.proofs.Common.{same_Some, slice_count, slice_get_within, take_more, ways}
use Rattle.std.proofs.Math.Bool.{or-false}
use Rattle.std.proofs.lemmas.List.Elements.{filter-append}
use Rattle.std.proofs.lemmas.Option.{slice_get-get_or}
use Rattle.btr_chunk.specs.Mapping.{place_at, place_on, stripe_of}
use Rattle.btr_chunk.specs.declared.chunk.Chunk.{Chunk}
use Rattle.btr_chunk.specs.declared.position.Elements.{Elements}
use Rattle.btr_read.specs.Candidates.{stands}
use Rattle.btr_read.specs.Candidates as candidates
use Rattle.btr_read.specs.Sought.{IsTwoParities}
use Rattle.btr_read.specs.declared.candidate.Candidate.TheVariants.{Read, ByP, ByQ, ByBoth}
use Rattle.btr_scrub_copies.specs.Fresh.{first_trusted, is_on_doubtful, reads_doubtful}
use Rattle.btr_scrub_copies.proofs.Freshness.{trusted_ways}
use Rattle.btr_scrub_row.specs.Memory.{ReadsQ, reads_flagged, reads_flagged_slice}
use Rattle.btr_scrub_row.proofs.Elements.{stripe-row}
use Rattle.btr_scrub_row.proofs.Shapes.{part_slice, parity_at}
use Rattle.btr_scrub_copies.proofs.Lists.{first_kept}
use Rattle.btr_scrub_copies.specs.Writes.{In}
use Rattle.btr_read.proofs.Ones.{in_below}
use Rattle.btr_read.specs.declared.parity.Parity.TheVariants as parity

-- ---- the first that is so

-- none of one more
pub none_more : {X : Type 0} (p : X → Bool) (xs : List X) (k : ℕ) (x : X) → slice_get xs k ≡ Some x → filter p (take k xs) ≡ [] → p x ≡ false
    → filter p (take (k + 1) xs) ≡ []
none_more p xs k x e none fails =
    let lt = slice_get_within xs k x e in
    let is : get_or xs k x ≡ x = same_Some (get_or xs k x) x (sym (slice_get-get_or xs k x lt) ∙ e) in
    ap (filter p) (take_more xs k x lt ∙ ap (λ y. take k xs ++ y ∷ []) is) ∙ filter-append p (take k xs) (x ∷ [])
    ∙ ap (λ ys. ys ++ filter p (x ∷ [])) none ∙ ap (λ b. cond b (x ∷ []) []) fails

-- ---- devices

-- the device of a place on a stripe is that of the stripe
devid_on : (o : Option Stripe) (at : Elements) → (option_map_or (λ stripe. place_on stripe at) o (record { devid = 0; offset = 0 })).devid
    ≡ option_map_or (λ (stripe : Stripe). stripe.devid) o 0
devid_on None at = refl
devid_on (Some stripe) at = refl

-- the device of a part hangs on the row alone
devid-row : (chunk : Chunk) (part : Part) (at bt : Elements) → mirrors chunk ≡ None → at.row ≡ bt.row
    → (place_at chunk part at).devid ≡ (place_at chunk part bt).devid
devid-row chunk part at bt none e =
    let p = chunk.profile in
    let n = length chunk.stripes in
    devid_on (slice_get chunk.stripes (stripe_of p n part at)) at
    ∙ ap (λ i. option_map_or (λ (stripe : Stripe). stripe.devid) (slice_get chunk.stripes i) 0) (stripe-row p n part at bt none e)
    ∙ sym (devid_on (slice_get chunk.stripes (stripe_of p n part bt)) bt)

module _ {layout : Layout} {row : Row} {t : Target} {piece : SlicePiece} {doubts : Doubts} (at : LiesAt layout row t piece)
    (knows : KnowsDoubts layout row doubts) where
  none : mirrors row.chunk ≡ None
  none = sym (ap mirrors at.on.chunk) ∙ at.sited.parity

  slices_are : candidates.slice_count t ≡ slice_count row
  slices_are = ap (λ c. data_count c.profile (length c.stripes)) at.on.chunk

  index_below : t.at.index < slice_count row
  index_below = omega (arith, at.sited.position.index, slices_are)

  -- a part of the block lies on the device of the row's element
  device : (part : Part) → (place_at t.chunk part t.at).devid ≡ devid_at row part
  device part = ap (λ c. (place_at c part t.at).devid) at.on.chunk
      ∙ devid-row row.chunk part t.at (record { row = row.number; index = 0; rest = 0 }) none at.on.number

  -- the flag of an element says whether its part lies on an image in doubt
  on_doubtful : (e : ℕ) (part : Part) → e < element_count row → part_at (slice_count row) e ≡ part
      → flag_of doubts.doubtful e ≡ is_on_doubtful row.failing t part
  on_doubtful e part lt is =
      knows.doubtful e lt ∙ ap (λ p. is_doubtful layout.devices row.failing (devid_at row p)) is
      ∙ ap (is_doubtful layout.devices row.failing) (sym (device part))
      ∙ ap (λ ds. is_doubtful ds row.failing (place_at t.chunk part t.at).devid) (sym at.devices)

  -- so does that of a slice
  slice_doubtful : (s : ℕ) → s < slice_count row → flag_of doubts.doubtful s ≡ is_on_doubtful row.failing t (Slice s)
  slice_doubtful s lt = on_doubtful s (Slice s) (omega (arith, lt)) (part_slice (slice_count row) s lt)

  -- the sector's own image
  pub own_doubtful : flag_of doubts.doubtful piece.index ≡ is_on_doubtful row.failing t (Slice t.at.index)
  own_doubtful = ap (flag_of doubts.doubtful) at.sited.place.index ∙ slice_doubtful t.at.index index_below

  -- and whether it is behind
  pub own_behind : flag_of doubts.behind piece.index ≡ is_on_behind row.failing t (Slice t.at.index)
  own_behind =
      let i = t.at.index in
      ap (flag_of doubts.behind) at.sited.place.index ∙ knows.behind i (omega (arith, index_below))
      ∙ ap (λ p. is_behind layout.devices row.failing (devid_at row p)) (part_slice (slice_count row) i index_below)
      ∙ ap (is_behind layout.devices row.failing) (sym (device (Slice i)))
      ∙ ap (λ ds. is_behind ds row.failing (place_at t.chunk (Slice i) t.at).devid) (sym at.devices)

  -- ---- the elements that a candidate reads

  -- of what comes of those that pass a test, one passes another where one of all passes both
  any_of_map : {X Y : Type 0} (f : X → Y) (p : X → Bool) (q : Y → Bool) (xs : List X) → list_any (λ x. p x && q (f x)) xs ≡ list_any q (map f (filter p xs))
  any_of_map f p q [] = refl
  any_of_map f p q (x ∷ xs) = grind (arith, common_steps, any_of_map f p q xs)

  -- two tests that agree at each of a list find one alike
  any_same : {X : Type 0} (p q : X → Bool) (xs : List X) → ((x : X) → In x xs → p x ≡ q x) → list_any p xs ≡ list_any q xs
  any_same p q [] h = refl
  any_same p q (x ∷ xs) h = let e = h x (inl refl) in let rest = any_same p q xs (λ y i. h y (inr i)) in cc

  abbrev k : ℕ
  k = candidates.slice_count t

  -- of the slices that a candidate reads, one is flagged where one lies on an image in doubt
  slices_read : (c : Candidate) → reads_flagged_slice doubts.doubtful k t.at.index c
      ≡ list_any (is_on_doubtful row.failing t) (map Slice (filter (reads_slice t.at.index c) (range_with_len 0 k)))
  slices_read c = any_same (λ s. reads_slice t.at.index c s && flag_of doubts.doubtful s)
      (λ s. reads_slice t.at.index c s && is_on_doubtful row.failing t (Slice s)) (range_with_len 0 k)
      (λ s i. ap (λ b. reads_slice t.at.index c s && b) (slice_doubtful s (omega (arith, in_below k s i, slices_are))))
      ∙ any_of_map Slice (reads_slice t.at.index c) (is_on_doubtful row.failing t) (range_with_len 0 k)

  -- so does the flag of a parity
  parity_doubtful : (p : Parity) → HasParity t.chunk.profile p → flag_of doubts.doubtful (element_of p k) ≡ is_on_doubtful row.failing t (part_of p)
  parity_doubtful p has =
      let at = parity_at row none (subst IsChunk at.on.chunk at.sited.keeps_rule) p (subst (λ c. HasParity c.profile p) at.on.chunk has) in
      ap (λ n. flag_of doubts.doubtful (element_of p n)) slices_are ∙ on_doubtful (element_of p (slice_count row)) (part_of p) at.0 at.1

  -- a candidate reads a flagged element where it reads an image in doubt
  reads_is : (c : Candidate) → IsTwoParities k t.at.index c → (ReadsQ c → t.chunk.profile ≡ Raid6)
      → reads_flagged doubts.doubtful k t.at.index c ≡ reads_doubtful row.failing t c
  reads_is (Read part) two q =
      slice_doubtful t.at.index index_below ∙ ap (is_on_doubtful row.failing t) (sym two) ∙ sym (or-false (is_on_doubtful row.failing t part))
  reads_is ByP two q = ap (λ b. b || reads_flagged_slice doubts.doubtful k t.at.index ByP) (parity_doubtful parity.P tt)
      ∙ ap (λ b. is_on_doubtful row.failing t P || b) (slices_read ByP)
  reads_is ByQ two q = ap (λ b. b || reads_flagged_slice doubts.doubtful k t.at.index ByQ) (parity_doubtful parity.Q (q tt))
      ∙ ap (λ b. is_on_doubtful row.failing t Q || b) (slices_read ByQ)
  reads_is (ByBoth j) two q = ap (λ b. b || (flag_of doubts.doubtful (k + 1) || reads_flagged_slice doubts.doubtful k t.at.index (ByBoth j)))
      (parity_doubtful parity.P tt)
      ∙ ap (λ b. is_on_doubtful row.failing t P || (b || reads_flagged_slice doubts.doubtful k t.at.index (ByBoth j))) (parity_doubtful parity.Q (q tt))
      ∙ ap (λ b. is_on_doubtful row.failing t P || (is_on_doubtful row.failing t Q || b)) (slices_read (ByBoth j))

  -- as it is computed by the place in the row
  pub reads_at : (c : Candidate) → IsTwoParities k t.at.index c → (ReadsQ c → t.chunk.profile ≡ Raid6)
      → reads_flagged doubts.doubtful piece.shape.slices piece.index c ≡ reads_doubtful row.failing t c
  reads_at c two q = ap (λ n. reads_flagged doubts.doubtful n piece.index c) at.sited.place.slices
      ∙ ap (λ i. reads_flagged doubts.doubtful k i c) at.sited.place.index ∙ reads_is c two q

  -- a candidate that stands is trusted where it reads no image in doubt
  pub trusted_where : (c : Candidate) (b : Bool) → stands t c ≡ true → reads_doubtful row.failing t c ≡ b → is_trusted row.failing t c ≡ not b
  trusted_where c b stand reads = ap (λ s. s && not (reads_doubtful row.failing t c)) stand ∙ ap not reads

  -- the first that is trusted, in the order of the ways
  pub first_of_ways : (c : Candidate) (n : ℕ) → slice_get (ways t) n ≡ Some c → filter (is_trusted row.failing t) (take n (ways t)) ≡ []
      → is_trusted row.failing t c ≡ true → first_trusted row.failing t ≡ Some c
  first_of_ways c n is before so =
      ap (λ cs. slice_get cs 0) (trusted_ways row.failing t) ∙ first_kept (is_trusted row.failing t) (ways t) n c is before so

  -- where no way is trusted, no candidate is
  pub no_way : filter (is_trusted row.failing t) (ways t) ≡ [] → first_trusted row.failing t ≡ None
  no_way e = ap (λ cs. slice_get cs 0) (trusted_ways row.failing t ∙ e)
