-- The ranges of devices that stripes take up.
use Rattle.std.specs.Prelude.{◌≡◌, ℕ, ◌+◌, ◌<◌, ◌≤◌, Bool, MatchBool, true, false, List, Option, Some, None, ◌==◌, ◌&&◌, nat_lt, slice_get}
use Rattle.std.specs.Ordering.{nat_cmp, ordering_then}
use Rattle.std.specs.List.{list_any}
use Rattle.std.specs.BTreeMap.{BTreeMap, get}
use Rattle.std.specs.declared.cmp.Ordering.{Ordering}
use Rattle.btr_chunk.specs.declared.place.StripePlace.{StripePlace}
use Rattle.btr_chunk.specs.declared.stripe.Stripe.{Stripe}

-- the order of places: by device, then by offset
abbrev pub place_cmp : StripePlace → StripePlace → Ordering
place_cmp a b = ordering_then (nat_cmp a.devid b.devid) (nat_cmp a.offset b.offset)

-- the length of the range that begins at a place
abbrev pub extent_of : BTreeMap StripePlace ℕ → StripePlace → Option ℕ
extent_of extents place = get place_cmp extents place

-- two ranges, given by their starts and lengths, have a number in common
abbrev pub ranges_meet : ℕ → ℕ → ℕ → ℕ → Bool
ranges_meet a len b other = nat_lt a (b + other) && nat_lt b (a + len)

-- a stripe of a length shares a byte of a device with a range
abbrev pub meets_range : ℕ → Stripe → StripePlace → ℕ → Bool
meets_range len stripe place taken = (stripe.devid == place.devid) && ranges_meet stripe.offset len place.offset taken

-- a range that a stripe shares a byte with
pub record SomeMeets (f : StripePlace → Option ℕ) (len : ℕ) (stripe : Stripe) : Type 0 where
  pub place : StripePlace
  pub taken : ℕ
  pub there : f place ≡ Some taken
  pub meets : meets_range len stripe place taken ≡ true

-- a stripe shares no byte with any range
abbrev pub NoneMeets : (StripePlace → Option ℕ) → ℕ → Stripe → Type 0
NoneMeets f len stripe = (place : StripePlace) (taken : ℕ) → f place ≡ Some taken → meets_range len stripe place taken ≡ false

-- whether it shares one
abbrev pub AnswersMeeting : (StripePlace → Option ℕ) → ℕ → Stripe → Bool → Type 0
AnswersMeeting f len stripe answer = MatchBool answer (SomeMeets f len stripe) (NoneMeets f len stripe)

-- the ranges of a device have no byte in common
abbrev pub IsSpaced : (StripePlace → Option ℕ) → Type 0
IsSpaced f = (a b : StripePlace) (m n : ℕ) → f a ≡ Some m → f b ≡ Some n → a.devid ≡ b.devid → a.offset < b.offset → a.offset + m ≤ b.offset

-- whether a stripe begins at a place
abbrev pub is_stripe_at : StripePlace → Stripe → Bool
is_stripe_at place stripe = (stripe.devid == place.devid) && (stripe.offset == place.offset)

-- whether one of the stripes does
abbrev pub has_stripe_at : StripePlace → List Stripe → Bool
has_stripe_at place stripes = list_any (is_stripe_at place) stripes

-- no range begins where one of the stripes does
abbrev pub AreFree : (StripePlace → Option ℕ) → List Stripe → Type 0
AreFree f stripes = (i : ℕ) (s : Stripe) → slice_get stripes i ≡ Some s → f (record { devid = s.devid; offset = s.offset }) ≡ None
