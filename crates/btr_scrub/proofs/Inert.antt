-- Where no image of a chunk is behind, nothing is stale there.
use Rattle.std.proofs.Common.{◌≡◌, ℕ, Bool, false, List, [], length, Option, Some, None, refl, sym, ap, ◌∙◌, subst, arith}
use Rattle.btr_scrub.proofs.Common.{Chunk, Failing, Images, In, IsSought, IsTable, Layout, Mended, Mirror, Part, Target, copy_writes, fresh, fresh_writes}
use Rattle.btr_scrub.proofs.Common.{freshened, has_behind, has_mirror, has_older, in_below, is_on_behind, list_any-false, mirrors, option_map_or, own_parts}
use Rattle.btr_scrub.proofs.Common.{place_at, range_with_len, renewed, stale_parts, writes_if}
use Rattle.btr_chunk.specs.declared.stripe.Stripe.{Stripe}
use Rattle.btr_read.specs.declared.device.Member.{Member}
use Rattle.btr_scrub_copies.specs.Fresh.{is_behind, is_doubtful}
use Rattle.btr_scrub.specs.Judged.{is_older}
use Rattle.btr_scrub.proofs.Positions.{on_stripe}
use Rattle.btr_chunk.proofs.Searches.{fails-list_any}
use Rattle.btr_scrub.proofs.Lists.{of_mapped, in_some}
use Rattle.btr_scrub.proofs.OwnPlaces.{own_copies}
use Rattle.btr_scrub_copies.proofs.Freshness.{none_stale as stale_not}

-- an image that isn't older isn't behind
inert_device : (fails : Failing) (devices : List Member) (devid : ℕ) → is_older devices devid ≡ false → is_behind devices fails devid ≡ false
inert_device fails devices devid h = grind arith

-- an image that isn't in doubt isn't behind
pub sure_device : (fails : Failing) (devices : List Member) (devid : ℕ) → is_doubtful devices fails devid ≡ false → is_behind devices fails devid ≡ false
sure_device fails devices devid h = grind arith

-- nor is one of a chunk without older ones
pub inert_chunk : (fails : Failing) (devices : List Member) (chunk : Chunk) → has_older devices chunk ≡ false → has_behind devices fails chunk ≡ false
inert_chunk fails devices chunk h =
    list_any-false (λ (stripe : Stripe). is_behind devices fails stripe.devid) chunk.stripes
    (λ i stripe e. inert_device fails devices stripe.devid (fails-list_any (λ (stripe : Stripe). is_older devices stripe.devid) chunk.stripes h i stripe e))

-- nothing is done for a sector
abbrev pub nothing : Mended
nothing = record { bad = 0; repaired = 0; lost = false }

module _ (fails : Failing) (layout : Layout) (t : Target) (n : ℕ) (table : IsTable layout.chunks) (is : IsSought layout t) (has : mirrors t.chunk ≡ Some n)
    (inert : has_behind layout.devices fails t.chunk ≡ false) where
  -- none of its copies lies on an image that is behind
  not_behind : (part : Part) → In part (own_parts t) → is_on_behind fails t part ≡ false
  not_behind part i =
      let k = of_mapped Mirror part (range_with_len 0 n) (subst (In part) (own_copies t n has) i) in
      let on = on_stripe layout t (Mirror k.0) table is (has_mirror t n k.0 has (in_below n k.0 k.1)) in
      ap (is_on_behind fails t) (sym k.2)
      ∙ ap (λ ds. is_behind ds fails (place_at t.chunk (Mirror k.0) t.at).devid) is.devices
      ∙ ap (is_behind layout.devices fails) on.devid
      ∙ fails-list_any (λ (stripe : Stripe). is_behind layout.devices fails stripe.devid) t.chunk.stripes inert on.number on.stripe on.there

  module _ (images : Images) where
    -- no place of it is stale
    pub none_stale : stale_parts images fails t ≡ []
    none_stale = stale_not images fails t (list_any-false (is_on_behind fails t) (own_parts t) (λ k part e. not_behind part (in_some part (own_parts t) k e)))

    -- nothing is written for it
    pub none_fresh : fresh_writes images fails t ≡ []
    none_fresh = rw none_stale (by (fresh images fails t))
      where
        by : (o : Option (List ℕ)) → option_map_or (λ bytes. copy_writes t bytes []) o [] ≡ []
        by None = refl
        by (Some bytes) = refl

    -- it gets no bytes
    pub none_renewed : renewed images fails t ≡ None
    none_renewed = rw none_stale

    -- nothing is counted for it
    pub none_freshened : (write : Bool) → freshened images fails t write ≡ nothing
    none_freshened write = rw (none_fresh, none_stale) (
        let none : length (writes_if write []) ≡ 0 = grind arith in
        ap (λ n. record { bad = 0; repaired = n; lost = false }) none)
