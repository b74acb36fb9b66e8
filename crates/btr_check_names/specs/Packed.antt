-- Names that lie in one buffer.
use Rattle.std.specs.Prelude.{ℕ, ◌+◌, ◌≤◌, List, length}
use Rattle.btr_base.specs.Field.{bytes_at}
use Rattle.btr_check_names.specs.declared.name_place.NamePlace.{NamePlace}

-- a buffer has a name at a place
abbrev pub HasNameAt : List ℕ → NamePlace → Type 0
HasNameAt names place = place.at + place.len ≤ length names

-- the name at a place of a buffer
abbrev pub name_in : List ℕ → NamePlace → List ℕ
name_in names place = bytes_at place.len place.at names
