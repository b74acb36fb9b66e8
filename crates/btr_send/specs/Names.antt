-- The name of the stream's file.
use Rattle.std.specs.Prelude.{ℕ, ◌≤◌, List, length}
use Rattle.btr_rack.specs.Name.{IsGoodName}

-- a name that a folder can have, of at most 255 bytes
abbrev pub IsStreamName : List ℕ → Type 0
IsStreamName name = IsGoodName name × (length name ≤ 255)
