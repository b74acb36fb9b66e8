-- All writes of a row, put together.
use Rattle.std.proofs.Common.{◌≡◌, ◌≢◌, ◌⊎◌, ℕ, ◌+◌, ◌≤◌, List, [], ◌∷◌, ◌++◌, length, Option, Some, None, IfSome, refl, sym, ap, ◌∙◌, subst, inl, inr, arith}
use Rattle.btr_scrub_row.proofs.Common.{FullStripe, HasParity, HoldsRow, Images, IsPrepared, IsStripeOf, Judged, Layout, P, Parity, Part, Q, Raid6, Row, Write}
use Rattle.btr_scrub_row.proofs.Common.{flat_map, mending_writes, mirrors, parities, parity_count, parity_writes, told_writes, without_copies}
use Rattle.std.specs.List.{sum_by}
use Rattle.std.proofs.lemmas.List.{nil_from_length}
use Rattle.std.proofs.lemmas.List.Concat.{flat_map-cons, length-flat_map}
use Rattle.std.proofs.lemmas.List.Sums.{sum_by-cons}
use Rattle.btr_read.proofs.Trials.{told}
use Rattle.btr_scrub_row.specs.Rows.{parities_writes, rebuilt_writes}
use Rattle.btr_scrub_row.specs.Preparing.{HasOneTurn, IsAllPrepared, TellsRow, sums_of}
use Rattle.btr_scrub_row.specs.Writing.{AreTold, KnowsParity, TellsHeldRow}
use Rattle.btr_scrub_row.specs.declared.buffer.RowBuffer.{RowBuffer}
use Rattle.btr_read.specs.declared.parity.Parity.TheVariants as parity
use Rattle.btr_scrub_row.specs.declared.prepared_row.PreparedRow.{PreparedRow}

-- what follows from what is known is told too
pub tells_more : {A B : Images → Type 0} {told held : Option Images} → ((images : Images) → A images → B images) → AreTold A told held → AreTold B told held
tells_more {A = A} {B = B} {told = told} f t = record { known = more told t.known; untold = t.untold }
  where
    more : (o : Option Images) → IfSome o A → IfSome o B
    more None h = tt
    more (Some images) h = f images h

-- the parities of a row
pub only_p : (row : Row) → mirrors row.chunk ≡ None → row.chunk.profile ≢ Raid6 → parities row.chunk.profile ≡ P ∷ []
only_p row none not_six = elim (without_copies row.chunk.profile (length row.chunk.stripes) none) [
  | inl five ↦ ap parities five
  | inr six ↦ absurd (not_six six)
]

-- P is the first one in any case
pub p_first : (row : Row) → mirrors row.chunk ≡ None → (rest : List Part) × (parities row.chunk.profile ≡ P ∷ rest)
p_first row none = elim (without_copies row.chunk.profile (length row.chunk.stripes) none) [
  | inl five ↦ ([], ap parities five)
  | inr six ↦ (Q ∷ [], ap parities six)
]

-- told writes, the first ones by themselves
pub told-cons : {X : Type 0} (F : Images → X → List Write) (x : X) (xs : List X) (told : Option Images)
    → told_writes (λ images. flat_map (F images) (x ∷ xs)) told ≡ told_writes (λ images. F images x) told ++ told_writes (λ images. flat_map (F images) xs) told
told-cons F x xs None = refl
told-cons F x xs (Some images) = flat_map-cons (F images) x xs

-- what is known of a parity of a row that was prepared
pub knows_of : (images : Images) (layout : Layout) (stripe : FullStripe) (row : Row) → IsStripeOf layout stripe row → (judged : Judged) (buffer : RowBuffer)
    → IsPrepared images layout row judged buffer → (p : Parity) → HasParity stripe.shape.profile p
    → KnowsParity images layout row p judged buffer.elements.items (sums_of p buffer)
knows_of images layout stripe row of judged buffer is parity.P has = is.p
knows_of images layout stripe row of judged buffer is parity.Q has = is.q (sym of.shape.profile ∙ has)

-- each parity fills an element
pub sums_long : (p : Parity) (prepared : PreparedRow) → IsAllPrepared prepared → 65536 ≤ length (sums_of p prepared.buffer.now)
sums_long parity.P prepared whole = whole.p
sums_long parity.Q prepared whole = whole.q

-- the row as it was read
pub tells_blocks : (layout : Layout) (row : Row) (judged : Judged) (buffer : RowBuffer) (told held : Option Images) (old : List ℕ)
    → TellsRow layout row judged buffer told held → old ≡ buffer.elements.items → TellsHeldRow layout row old told held
tells_blocks layout row judged buffer told held old t e = tells_more (λ images is. subst (HoldsRow images layout row) (sym e) is.holds) t

-- the counts of the parities
pub sum_p : (images : Images) (layout : Layout) (row : Row) → parities row.chunk.profile ≡ P ∷ [] → length (parity_writes images layout row P)
    ≡ sum_by (λ part. length (parity_writes images layout row part)) (parities row.chunk.profile)
sum_p images layout row e =
    let f = λ (part : Part). length (parity_writes images layout row part) in
    let one = sum_by-cons f P [] in
    let none : sum_by f [] ≡ 0 = refl in
    let all : f P ≡ sum_by f (P ∷ []) = omega (arith, one, none) in
    all ∙ ap (sum_by f) (sym e)

-- the sectors of P and those of Q are all that are counted, where both are there
pub sum_pq : (images : Images) (layout : Layout) (row : Row) → parities row.chunk.profile ≡ P ∷ Q ∷ [] → length (parity_writes images layout row P)
    + length (parity_writes images layout row Q) ≡ sum_by (λ part. length (parity_writes images layout row part)) (parities row.chunk.profile)
sum_pq images layout row e =
    let f = λ (part : Part). length (parity_writes images layout row part) in
    let one = sum_by-cons f P (Q ∷ []) in
    let two = sum_by-cons f Q [] in
    let none : sum_by f [] ≡ 0 = refl in
    let all : f P + f Q ≡ sum_by f (P ∷ Q ∷ []) = omega (arith, one, two, none) in
    all ∙ ap (sum_by f) (sym e)

-- where none is to be written, no block is
pub no_writes : (images : Images) (layout : Layout) (row : Row) (judged : Judged) (buffer : RowBuffer) → IsPrepared images layout row judged buffer
    → judged.rebuilt ≡ 0 → [] ≡ flat_map (mending_writes images row.failing) row.blocks
no_writes images layout row judged buffer is none = sym (nil_from_length (flat_map (mending_writes images row.failing) row.blocks)
    (length-flat_map (mending_writes images row.failing) row.blocks ∙ sym is.blocks.rebuilt ∙ none))

-- where there is nothing to be written in one of the turns, nothing is told in one
pub one_turn : (layout : Layout) (row : Row) (judged : Judged) (buffer : RowBuffer) (told : Option Images)
    → IfSome told (λ images. IsPrepared images layout row judged buffer)
    → ((images : Images) → IsPrepared images layout row judged buffer → HasOneTurn images layout row)
    → (told_writes (λ images. rebuilt_writes images layout row) told ≡ []) ⊎ (told_writes (λ images. parities_writes images layout row) told ≡ [])
one_turn layout row judged buffer None known h = inl refl
one_turn layout row judged buffer (Some images) known h = h images known

-- where none of their sectors is wrong, no parity is to be written
pub no_parities : (images : Images) (layout : Layout) (row : Row) → parity_count images layout row ≡ 0 → parities_writes images layout row ≡ []
no_parities images layout row none = nil_from_length (parities_writes images layout row)
    (length-flat_map (parity_writes images layout row) (parities row.chunk.profile) ∙ none)
