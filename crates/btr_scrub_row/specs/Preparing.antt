-- A row that was read and judged, and whose parities were made.
use Rattle.std.specs.Prelude.{◌≡◌, ◌⊎◌, ℕ, ◌+◌, ◌*◌, ◌≤◌, Bool, List, [], length, Option, Some, Result}
use Rattle.btr_chunk.specs.declared.profile.Profile.TheVariants.{Raid6}
use Rattle.btr_rack.specs.Rack.{Seen}
use Rattle.btr_read.specs.Layout.{Layout}
use Rattle.btr_scrub_copies.specs.Turns.{TakesTurns}
use Rattle.btr_scrub_copies.specs.Writes.{DoesWrites, Images, Write}
use Rattle.btr_scrub_copies.specs.declared.mended.MendFault.{MendFault}
use Rattle.btr_scrub_row.specs.Rows.{Row, parities, parities_writes, rebuilt_writes}
use Rattle.btr_scrub_row.specs.Mending.{IsOfRow}
use Rattle.btr_scrub_row.specs.Memory.{HoldsRow, IsStripeOf, IsWantedRow}
use Rattle.btr_scrub_row.specs.Judging.{AreJudged}
use Rattle.btr_scrub_row.specs.Writing.{AreTold, KnowsParity, told_writes}
use Rattle.btr_scrub_row.specs.declared.buffer.RowBuffer.{RowBuffer}
use Rattle.btr_scrub_row.specs.declared.judged.Judged.{Judged}
use Rattle.btr_read.specs.declared.parity.Parity.{Parity}
use Rattle.btr_read.specs.declared.parity.Parity.TheVariants.{P, Q}
use Rattle.btr_scrub_row.specs.declared.prepared_row.PreparedRow.{PreparedRow}
use Rattle.btr_scrub_row.specs.declared.stripe.FullStripe.{FullStripe}
use Rattle.btr_scrub_row.specs.declared.wanted_row.WantedRow.{WantedRow}

-- a parity of the new data in a buffer
abbrev pub sums_of : Parity → RowBuffer → List ℕ
sums_of P buffer = buffer.p.items
sums_of Q buffer = buffer.q.items

-- all elements of a row and both parities of the new data are in memory
pub record IsAllPrepared (prepared : PreparedRow) : Type 0 where
  pub few : prepared.stripe.shape.slices ≤ 63
  pub some : 1 ≤ length (parities prepared.stripe.shape.profile)
  pub elements : (prepared.stripe.shape.slices + length (parities prepared.stripe.shape.profile)) * 65536 ≤ length prepared.buffer.now.elements.items
  pub p : 65536 ≤ length prepared.buffer.now.p.items
  pub q : 65536 ≤ length prepared.buffer.now.q.items

-- all that follows from the images is in memory
pub record IsPrepared (images : Images) (layout : Layout) (row : Row) (judged : Judged) (buffer : RowBuffer) : Type 0 where
  pub holds : HoldsRow images layout row buffer.elements.items
  pub blocks : AreJudged images layout row row.blocks buffer.slices.items judged
  pub p : KnowsParity images layout row P judged buffer.elements.items buffer.p.items
  pub q : row.chunk.profile ≡ Raid6 → KnowsParity images layout row Q judged buffer.elements.items buffer.q.items

-- the same where the images were told
abbrev pub TellsRow : Layout → Row → Judged → RowBuffer → Option Images → Option Images → Type 0
TellsRow layout row judged buffer told held = AreTold (λ images. IsPrepared images layout row judged buffer) told held

-- where the wanted blocks' row is told, it was prepared
abbrev pub Prepares : Layout → WantedRow → Seen → RowBuffer → Judged → Type 0
Prepares layout wanted rack buffer judged =
    (images : Images) (row : Row) → rack.held ≡ Some images → IsWantedRow layout wanted row → IsPrepared images layout row judged buffer

-- what was prepared stands in another buffer too
abbrev pub StaysPrepared : Layout → Judged → RowBuffer → RowBuffer → Type 0
StaysPrepared layout judged old new = (images : Images) (row : Row) → IsPrepared images layout row judged old → IsPrepared images layout row judged new

-- where a full stripe was prepared, this holds
abbrev pub WherePrepared : Layout → FullStripe → Judged → RowBuffer → (Images → Row → Type 0) → Type 0
WherePrepared layout stripe judged buffer Fact =
    (images : Images) (row : Row) → IsStripeOf layout stripe row → IsPrepared images layout row judged buffer → Fact images row

-- it was written as it follows from what was prepared
abbrev pub WritesPrepared : {A : Type 0} → Layout → FullStripe → Judged → RowBuffer → (Images → Row → List Write) → List Bool → List Bool → Seen → Seen
    → Result A MendFault → Type 0
WritesPrepared layout stripe judged buffer writes marks marks' old new result =
    (told : Option Images) (row : Row) → IsStripeOf layout stripe row → TellsRow layout row judged buffer told old.held
    → DoesWrites (IsOfRow layout row) (λ images. told_writes (λ images. writes images row) told) marks marks' old new result

-- the same for the row of wanted blocks
abbrev pub WritesWanted : {A : Type 0} → Layout → WantedRow → Judged → RowBuffer → (Images → Row → List Write) → List Bool → List Bool → Seen → Seen
    → Result A MendFault → Type 0
WritesWanted layout wanted judged buffer writes marks marks' old new result =
    (told : Option Images) (row : Row) → IsWantedRow layout wanted row → TellsRow layout row judged buffer told old.held
    → DoesWrites (IsOfRow layout row) (λ images. told_writes (λ images. writes images row) told) marks marks' old new result

-- no block is to be written, or no parity
abbrev pub HasOneTurn : Images → Layout → Row → Type 0
HasOneTurn images layout row = (rebuilt_writes images layout row ≡ []) ⊎ (parities_writes images layout row ≡ [])

-- the blocks of the row of wanted blocks were written as it follows from what
-- was prepared, and behind them its parities
abbrev pub WritesInTurn : {A : Type 0} → Layout → WantedRow → Judged → RowBuffer → List Bool → List Bool → Seen → Seen → Result A MendFault → Type 0
WritesInTurn layout wanted judged buffer marks marks' old new result =
    (told : Option Images) (row : Row) → IsWantedRow layout wanted row → TellsRow layout row judged buffer told old.held
    → TakesTurns (IsOfRow layout row) (told_writes (λ images. rebuilt_writes images layout row) told)
    (told_writes (λ images. parities_writes images layout row) told)
    marks marks' old new result
