-- What a rack shows to those who follow a program by reading from it.
use Rattle.std.specs.Prelude.{ℕ, List, take, Option, IfSome}
use Rattle.btr_prog.specs.Prog.{BlockMap}
use Rattle.btr_prog.specs.Calls as calls
use Rattle.btr_prog.specs.Calls.{Sure}
use Rattle.btr_pool.specs.Slots.{Slots, bytes_at}
use Rattle.btr_rack.specs.Rack.{Seen, AreBytesOf}
use Rattle.btr_rack.specs.declared.place.Place.{Place as Range}
use Rattle.btr_read.specs.declared.want.Want.{Want}
use Rattle.btr_read.specs.Fate.{Fault, fate, Agreed}
use Rattle.btr_read.specs.Layout.{Layout}

-- what a rack shows to those who follow a program
abbrev pub shown : Seen → calls.Seen (Option (List (List ℕ)))
shown rack = record { held = rack.held; faults = rack.account.faults }

-- where the rack tells its images, all candidates that pass agree wherever there is a test
abbrev pub AgreedOn : Layout → Option (List (List ℕ)) → Type 0
AgreedOn layout held = IfSome held (λ images. Agreed images layout)

-- where the rack tells its images, P holds of their block map
abbrev pub OnMap : Layout → (BlockMap Want Fault → Type 0) → Sure → Option (List (List ℕ)) → Type 0
OnMap layout P sure held = IfSome held (λ images. P (fate images layout))

-- where the images are told, these are the bytes of a range
abbrev pub AreBytesIn : Option (List (List ℕ)) → Range → List ℕ → Type 0
AreBytesIn held range bytes = AreBytesOf held range.slot range.off range.len bytes

-- where the images are told, a slot has the bytes of a range in its front
abbrev pub HasRange : Option (List (List ℕ)) → Range → Slots → ℕ → Type 0
HasRange held range pool k = AreBytesIn held range (take range.len (bytes_at pool k))
