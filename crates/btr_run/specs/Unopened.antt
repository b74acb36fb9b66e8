-- Images whose copies agree, and what a command over them comes to where their filesystem isn't opened.
use Rattle.std.specs.Prelude.{◌≡◌, ◌⊎◌, ℕ, Ok}
use Rattle.btr_prog.specs.Answers.{Names}
use Rattle.btr_prog.specs.Prog.{exec, wants_of}
use Rattle.btr_read.specs.Fate.{fate}
use Rattle.btr_read.specs.Want.{addr_of}
use Rattle.btr_volume.specs.Maps.{array_layout}
use Rattle.btr_volume.specs.Start.{Images, Start, start_of}
use Rattle.btr_volume.specs.Table.{table_scan}
use Rattle.btr_walk.specs.Reading.{UnreadBlock}
use Rattle.btr_run.specs.Order.{IsAgreed}
use Rattle.btr_run.specs.Outcomes.{Outcome, refused}
use Rattle.btr_run.specs.declared.answer.Answer.TheVariants.{ImageFault, Memory, Unread}

-- the images agree, if their superblocks and the system array make a start
abbrev pub AreAgreed : Images → Type 0
AreAgreed images = (start : Start) → start_of images ≡ Ok start → IsAgreed images start

-- a block could not be read that the scan of the chunk tree wants, found by the chunks of the
-- system array, and nothing is put but its line
pub record LacksTable (images : Images) (outcome : Outcome) : Type 0 where
  pub start : Start
  pub is : start_of images ≡ Ok start
  pub unread : UnreadBlock
  pub wanted : Names (λ u want. u.addr ≡ addr_of want) unread (wants_of (exec (fate images (array_layout start)) (table_scan start)).marks)
  pub bare : outcome ≡ refused (Unread unread.addr unread.slot)

-- a block of the chunk tree could not be read, an image failed, or memory was wanted
abbrev pub IsUnopened : Images → Outcome → Type 0
IsUnopened images outcome = LacksTable images outcome ⊎ ((slot : ℕ) × (outcome ≡ refused (ImageFault slot))) ⊎ (outcome ≡ refused Memory)

-- an outcome is this one, or one of those
abbrev pub IsOrUnopened : Images → Outcome → Outcome → Type 0
IsOrUnopened images wanted outcome = (wanted ≡ outcome) ⊎ IsUnopened images outcome
