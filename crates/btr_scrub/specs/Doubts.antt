-- Images that fail: those on which some checked block doesn't pass at its place. A plain sector, which makes no test, always passes.
use Rattle.std.specs.Prelude.{ℕ, ◌&&◌, ◌==◌, Bool, false, not, List}
use Rattle.std.specs.List.{list_any}
use Rattle.std.specs.Option.{option_map_or}
use Rattle.btr_chunk.specs.declared.place.Part.{Part}
use Rattle.btr_read.specs.Candidates.{Target, range_of}
use Rattle.btr_scrub_copies.specs.Blocks.{is_good, own_parts}
use Rattle.btr_scrub_copies.specs.Writes.{Images}
use Rattle.btr_scrub_copies.specs.Fresh.{Failing}

-- a part lies on the image in a slot
abbrev pub is_on : Target → ℕ → Part → Bool
is_on t slot part = option_map_or (λ range. range.slot == slot) (range_of t part) false

-- it does, and the block doesn't pass there
abbrev pub fails_at : Images → Target → ℕ → Part → Bool
fails_at images t slot part = is_on t slot part && not (is_good images t part)

-- a block doesn't pass at a place of its own on the image in a slot
abbrev pub fails_on : Images → ℕ → Target → Bool
fails_on images slot t = list_any (fails_at images t slot) (own_parts t)

-- the images on which some block doesn't
abbrev pub failing : Images → List Target → Failing
failing images ts slot = list_any (fails_on images slot) ts
