-- The order of the checked blocks, and what is known of a block's position.
use Rattle.std.specs.Prelude.{◌≡◌, ℕ, ◌+◌, ◌≤◌, true, false, List, [], ◌∷◌, Some, IsOk, slice_get}
use Rattle.std.specs.List.{filter_map}
use Rattle.btr_chunk.specs.Mapping.{crosses, holds, position}
use Rattle.btr_read.specs.Candidates.{Target}
use Rattle.btr_read.specs.Fate.{sought}
use Rattle.btr_read.specs.Layout.{Layout}
use Rattle.btr_read.specs.Want.{addr_of, len_of}
use Rattle.btr_read.specs.declared.want.Want.{Want}
use Rattle.btr_scrub.specs.Repair.{ok_or_none}

-- blocks that have a position, each of which begins at or behind the end of the one before
abbrev pub AreApart : Layout → ℕ → List Want → Type 0
AreApart layout end [] = Unit {0}
AreApart layout end (want ∷ wants) = (end ≤ addr_of want) × IsOk (sought layout want) × AreApart layout (addr_of want + len_of layout.setting want) wants

-- the same, and they end at or before another address
abbrev pub AreBetween : Layout → ℕ → ℕ → List Want → Type 0
AreBetween layout from to [] = from ≤ to
AreBetween layout from to (want ∷ wants) = (from ≤ addr_of want) × IsOk (sought layout want)
    × AreBetween layout (addr_of want + len_of layout.setting want) to wants

-- the same, and the last one ends just there; without blocks it is where they could begin
abbrev pub AreUpTo : Layout → ℕ → ℕ → List Want → Type 0
AreUpTo layout from to [] = to ≡ from
AreUpTo layout from to (want ∷ wants) = (from ≤ addr_of want) × IsOk (sought layout want)
    × AreUpTo layout (addr_of want + len_of layout.setting want) to wants

-- the blocks with their positions
abbrev pub targets : Layout → List Want → List Target
targets layout wants = filter_map (λ want. ok_or_none (sought layout want)) wants

-- a block's position is that of its address, in the chunk of a number
pub record IsSought (layout : Layout) (t : Target) : Type 0 where
  pub number : ℕ
  pub there : slice_get layout.chunks number ≡ Some t.chunk
  pub held : holds t.chunk (addr_of t.want) ≡ true
  pub uncrossed : crosses t.chunk (addr_of t.want) (len_of t.setting t.want) ≡ false
  pub at : t.at ≡ position t.chunk (addr_of t.want)
  pub setting : t.setting ≡ layout.setting
  pub devices : t.devices ≡ layout.devices
