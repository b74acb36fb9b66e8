-- What hangs on some bytes of the images stays where they do.
use Rattle.std.proofs.Common.{◌≡◌, ℕ, suc, ◌<◌, ◌&&◌, Bool, true, false, not, cond, List, [], ◌∷◌, length, slice_get, Option, Some, None, nat_lt, refl, ap, ◌∙◌}
use Rattle.std.proofs.Common.{subst, inl, inr, arith}
use Rattle.btr_scrub.proofs.Common.{Candidate, Failing, Images, In, Mirror, P, Part, Q, Read, Tally, Target, accepted, and_parts, bad_parts, block_writes}
use Rattle.btr_scrub.proofs.Common.{bytes_eq, candidates, copy_writes, count_site, filter, filter_map, fresh, fresh_writes, in_below, is_lost_block}
use Rattle.btr_scrub.proofs.Common.{is_on_behind, is_sound, is_stale, lt-ltb, mending_writes, mirrors, new_bytes, not-true, option_map, option_map_or}
use Rattle.btr_scrub.proofs.Common.{own_parts, passes, passing_filter, range_with_len, stale_beside, stale_parts, stands, value_of, wrong_parts}
use Rattle.btr_chunk.specs.declared.place.Part.TheVariants.{Slice}
use Rattle.btr_read.specs.Candidates.{element, reading}
use Rattle.btr_read.proofs.Order.{in_ways, with_copies}
use Rattle.btr_scrub_copies.specs.Fresh.{first_trusted, is_trusted, reads_doubtful}
use Rattle.btr_scrub.proofs.Lists.{of_mapped, first_in}
use Rattle.btr_scrub.proofs.OwnPlaces.{own_copies}

-- two tests that agree on all of a list pass the same
pub filter_same : {X : Type 0} (p q : X → Bool) (xs : List X) → ((x : X) → In x xs → p x ≡ q x) → filter p xs ≡ filter q xs
filter_same p q [] h = refl
filter_same p q (x ∷ xs) h = rw (h x (inl refl), filter_same p q xs (λ y i. h y (inr i)))

-- what a list gives is the same where each of its members gives the same
pub filter_map_same : {X Y : Type 0} (f g : X → Option Y) (xs : List X) → ((x : X) → In x xs → f x ≡ g x) → filter_map f xs ≡ filter_map g xs
filter_map_same f g [] h = refl
filter_map_same f g (x ∷ xs) h = rw (h x (inl refl), filter_map_same f g xs (λ y i. h y (inr i)))

-- the first candidate that is trusted is one of them, stands, and reads no image in doubt
pub record IsTrusted (fails : Failing) (t : Target) (c : Candidate) : Type 0 where
  pub there : In c (candidates t)
  pub stand : stands t c ≡ true
  pub sure : reads_doubtful fails t c ≡ false

-- the first trusted candidate is trusted
pub trusted_from : (fails : Failing) (t : Target) (c : Candidate) → first_trusted fails t ≡ Some c → IsTrusted fails t c
trusted_from fails t c e =
    let p = passing_filter (is_trusted fails t) c (candidates t) (first_in (filter (is_trusted fails t) (candidates t)) c e) in
    let both = and_parts (stands t c) (not (reads_doubtful fails t c)) p.1 in
    record { there = p.0; stand = both.0; sure = not-true (reads_doubtful fails t c) both.1 }

-- a stale place is one of the block's own, lies on an image that is behind, and differs from the fresh bytes
pub record IsStaleAt (fails : Failing) (images : Images) (t : Target) (part : Part) : Type 0 where
  pub bytes : List ℕ
  pub gets : fresh images fails t ≡ Some bytes
  pub behind : is_on_behind fails t part ≡ true
  pub differs : bytes_eq (element images t part) bytes ≡ false

-- each stale place is such a one
pub stale_at : (fails : Failing) (images : Images) (t : Target) (part : Part) → In part (stale_parts images fails t) → IsStaleAt fails images t part
stale_at fails images t part i = by (fresh images fails t) refl i
  where
    by : (o : Option (List ℕ)) → fresh images fails t ≡ o → In part (option_map_or (stale_beside images fails t) o []) → IsStaleAt fails images t part
    by None e i = absurd i
    by (Some bytes) e i =
        let p = and_parts (is_on_behind fails t part) (not (bytes_eq (element images t part) bytes))
        (passing_filter (is_stale images fails t bytes) part (own_parts t) i).1 in
        record { bytes = bytes; gets = e; behind = p.0; differs = not-true (bytes_eq (element images t part) bytes) p.1 }

-- a list with a member isn't empty
pub some_long : (parts : List Part) (part : Part) → In part parts → nat_lt 0 (length parts) ≡ true
some_long [] part i = absurd i
some_long (p ∷ parts) part i = lt-ltb 0 (suc (length parts)) (omega arith)

-- what comes of a block or a plain sector is the same, in other images and beside others that fail
pub record SiteAlike (fails also : Failing) (images images' : Images) (t : Target) : Type 0 where
  pub writes : mending_writes images' also t ≡ mending_writes images fails t
  pub wrong : wrong_parts images' also t ≡ wrong_parts images fails t
  pub bytes : new_bytes images' also t ≡ new_bytes images fails t
  pub lost : is_lost_block images' t ≡ is_lost_block images t
  pub counts : (write : Bool) (tally : Tally) → count_site also images' write tally t ≡ count_site fails images write tally t

-- one whose candidates give the same, and at whose own places the same bytes stand
module _ (images images' : Images) (t : Target) (values : (c : Candidate) → In c (candidates t) → value_of images' t c ≡ value_of images t c)
    (owns : (part : Part) → In part (own_parts t) → element images' t part ≡ element images t part) where
  -- the same bytes are accepted for it
  accepts : accepted images' t ≡ accepted images t
  accepts = ap (λ xs. slice_get (filter (passes t.setting t.want) xs) 0)
      (filter_map_same (reading images' t) (reading images t) (candidates t) (λ c i. ap (λ bytes. cond (stands t c) (Some bytes) None) (values c i)))

  -- a place with the same bytes is sound in both images, or in neither
  sound : (part : Part) → element images' t part ≡ element images t part → is_sound images' t part ≡ is_sound images t part
  sound (Mirror k) same = rw (accepts, same)
  sound (Slice k) same = ap (passes t.setting t.want) same
  sound P same = ap (passes t.setting t.want) same
  sound Q same = ap (passes t.setting t.want) same

  -- its bad places are the same
  bads : bad_parts images' t ≡ bad_parts images t
  bads = filter_same (λ part. not (is_sound images' t part)) (λ part. not (is_sound images t part)) (own_parts t) (λ part i. ap not (sound part (owns part i)))

  -- the writes that a checked block gets are the same
  blocks : block_writes images' t ≡ block_writes images t
  blocks = ap (λ ps. option_map_or (λ bytes. copy_writes t bytes ps) (accepted images' t) []) bads ∙ rw accepts

  module _ (fails : Failing) where
    -- its fresh bytes are the same
    fresh_same : fresh images' fails t ≡ fresh images fails t
    fresh_same = by (first_trusted fails t) refl
      where
        by : (o : Option Candidate) → first_trusted fails t ≡ o → option_map (value_of images' t) o ≡ option_map (value_of images t) o
        by None e = refl
        by (Some c) e = ap Some (values c (trusted_from fails t c e).there)

    -- its stale places are the same
    stale_same : stale_parts images' fails t ≡ stale_parts images fails t
    stale_same = ap (λ o. option_map_or (stale_beside images' fails t) o []) fresh_same ∙ by (fresh images fails t)
      where
        by : (o : Option (List ℕ)) → option_map_or (stale_beside images' fails t) o [] ≡ option_map_or (stale_beside images fails t) o []
        by None = refl
        by (Some bytes) = filter_same (is_stale images' fails t bytes) (is_stale images fails t bytes) (own_parts t)
            (λ part i. ap (λ xs. is_on_behind fails t part && not (bytes_eq xs bytes)) (owns part i))

    -- the writes that a plain sector gets are the same
    fresh_writes_same : fresh_writes images' fails t ≡ fresh_writes images fails t
    fresh_writes_same = rw (stale_same, fresh_same)

    -- then the same follows for the block from both
    pub site_alike : SiteAlike fails fails images images' t
    site_alike = record {
      writes = rw (fresh_writes_same, blocks);
      wrong = rw (stale_same, bads);
      bytes = rw (stale_same, fresh_same, accepts);
      lost = rw accepts;
      counts = λ write tally. rw (fresh_writes_same, stale_same, blocks, bads, accepts);
    }

-- a block with copies that are the same
pub copies_alike : (images images' : Images) (t : Target) (n : ℕ) → mirrors t.chunk ≡ Some n
    → ((k : ℕ) → k < n → element images' t (Mirror k) ≡ element images t (Mirror k)) → (fails : Failing) → SiteAlike fails fails images images' t
copies_alike images images' t n has same = site_alike images images' t values owns
  where
    -- each of its candidates gives the same bytes
    values : (c : Candidate) → In c (candidates t) → value_of images' t c ≡ value_of images t c
    values c i =
        let r = of_mapped (λ k. Read (Mirror k)) c (range_with_len 0 n) (subst (In c) (with_copies t n has) (in_ways t c i)) in
        subst (λ d. value_of images' t d ≡ value_of images t d) r.2 (same r.0 (in_below n r.0 r.1))

    -- the same bytes stand at each of its own places
    owns : (part : Part) → In part (own_parts t) → element images' t part ≡ element images t part
    owns part i =
        let r = of_mapped Mirror part (range_with_len 0 n) (subst (In part) (own_copies t n has) i) in
        subst (λ p. element images' t p ≡ element images t p) r.2 (same r.0 (in_below n r.0 r.1))
