-- One checked block: its own places, what is accepted for it, and the writes that mend it.
use Rattle.std.specs.Prelude.{ℕ, Bool, false, not, ◌&&◌, List, [], ◌∷◌, map, Option, slice_get, is_none}
use Rattle.std.specs.List.{filter, filter_map, range_with_len}
use Rattle.std.specs.Option.{option_map, option_map_or}
use Rattle.std.specs.Str.{bytes_eq}
use Rattle.btr_chunk.specs.Chunk.{mirrors}
use Rattle.btr_chunk.specs.declared.place.Part.{Part}
use Rattle.btr_chunk.specs.declared.place.Part.TheVariants.{Mirror, Slice}
use Rattle.btr_read.specs.Candidates.{Target, range_of, element}
use Rattle.btr_read.specs.Fate.{passing}
use Rattle.btr_read.specs.Want.{passes}
use Rattle.btr_scrub_copies.specs.Writes.{Write}

-- a block's own places: its copies, or its slice where there is parity
abbrev pub own_parts : Target → List Part
own_parts t = option_map_or (λ copies. map Mirror (range_with_len 0 copies)) (mirrors t.chunk) (Slice t.at.index ∷ [])

-- bytes for some parts of a block
abbrev pub copy_writes : Target → List ℕ → List Part → List Write
copy_writes t bytes parts = filter_map (λ part. option_map (λ range. record { range = range; bytes = bytes }) (range_of t part)) parts

module _ (images : List (List ℕ)) where
  -- the block passes at a place of its own
  abbrev pub is_good : Target → Part → Bool
  is_good t part = passes t.setting t.want (element images t part)

  -- what is accepted for it: the bytes of its first candidate that passes
  abbrev pub accepted : Target → Option (List ℕ)
  accepted t = slice_get (passing images t) 0

  -- bytes are those that are accepted
  abbrev pub are_accepted : Target → List ℕ → Bool
  are_accepted t bytes = option_map_or (bytes_eq bytes) (accepted t) false

  -- a place of its own is sound: the block passes there, and a copy has the bytes that are accepted
  abbrev pub is_sound : Target → Part → Bool
  is_sound t (Mirror copy) = is_good t (Mirror copy) && are_accepted t (element images t (Mirror copy))
  is_sound t part = is_good t part

  -- those of its own places that are bad: they aren't sound
  abbrev pub bad_parts : Target → List Part
  bad_parts t = filter (λ part. not (is_sound t part)) (own_parts t)

  -- it is lost: no candidate passes
  abbrev pub is_lost : Target → Bool
  is_lost t = is_none (accepted t)

  -- bytes for the bad ones of its own places
  abbrev pub written_over : Target → List ℕ → List Write
  written_over t bytes = copy_writes t bytes (bad_parts t)

  -- the writes that mend it: what is accepted, at each bad one of its own places
  abbrev pub block_writes : Target → List Write
  block_writes t = option_map_or (written_over t) (accepted t) []
