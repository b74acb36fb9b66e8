-- The parities of a row are there.
use Rattle.std.proofs.Common.{length, IsNone, refl, sym, ◌∙◌, subst}
use Rattle.btr_scrub_row.proofs.Common.{FullStripe, HasParity, HasPart, IsStripeOf, Layout, Parity, Row, part_of}
use Rattle.btr_read.specs.declared.parity.Parity.TheVariants as parity

-- a parity that the profile has is a part of the row
pub parity_there : (layout : Layout) (stripe : FullStripe) (row : Row) → IsStripeOf layout stripe row → (p : Parity)
    → HasParity stripe.shape.profile p → HasPart row.chunk.profile (length row.chunk.stripes) (part_of p)
parity_there layout stripe row of parity.P has = subst IsNone (sym of.is.parity) refl
parity_there layout stripe row of parity.Q has = sym of.shape.profile ∙ has
