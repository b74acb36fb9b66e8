-- The images that the words name.
use Rattle.std.specs.Prelude.{◌≡◌, ℕ, ◌+◌, Bool, false, if◌then◌else◌, List, [], ◌∷◌, map, take, All, Option, Some, None, IfSome}
use Rattle.std.specs.Option.{option_and_then, option_map}
use Rattle.std.specs.Str.{bytes_eq}
use Rattle.btr_rack.specs.Rack.{Slot, Shelf}
use Rattle.btr_run.specs.Words.{Words}

-- the most images that are read
abbrev pub most_images : ℕ
most_images = 64

-- the shelf without one image
abbrev pub without : List ℕ → Shelf → Shelf
without name shelf = λ other. if bytes_eq other name then None else shelf other

-- the bytes of the named images, each taken from the shelf in turn; None where one isn't there or is named twice
abbrev pub taken : Words → Shelf → Option (List (List ℕ))
taken [] shelf = Some []
taken (name ∷ names) shelf = option_and_then (λ bytes. option_map (λ more. bytes ∷ more) (taken names (without name shelf))) (shelf name)

-- the opened images were opened to be written, or only to be read, and hold what the shelf
-- held under their names, where that is told
abbrev pub AreOpenedAs : Bool → Option Shelf → List Slot → Option (List (List ℕ)) → Type 0
AreOpenedAs write shelf slots held = All (λ s. s.write ≡ write) slots × IfSome shelf
    (λ at. IfSome held (λ images. taken (map (λ s. s.name) slots) at ≡ Some images))

-- the opened images were opened only to be read, and hold what the shelf held
abbrev pub AreUnchanged : Option Shelf → List Slot → Option (List (List ℕ)) → Type 0
AreUnchanged shelf slots held = AreOpenedAs false shelf slots held

-- an image isn't on the shelf, or is named before, where the shelf is told: the
-- names up to its own can't be taken from it
abbrev pub IsMissing : Words → Option Shelf → ℕ → Type 0
IsMissing names shelf slot = IfSome shelf (λ at. taken (take (slot + 1) names) at ≡ None)
