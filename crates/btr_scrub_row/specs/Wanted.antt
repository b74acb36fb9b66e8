-- A wanted block: a checked block, or a plain sector, which is a sector of data without a checksum. What is wrong with it, and what it gets.
use Rattle.std.specs.Prelude.{ℕ, Bool, not, ◌&&◌, List, length, nat_lt, Option, None, if◌then◌else◌}
use Rattle.btr_chunk.specs.declared.place.Part.{Part}
use Rattle.btr_read.specs.Candidates.{Target}
use Rattle.btr_read.specs.Fate.{is_plain}
use Rattle.btr_scrub_copies.specs.Blocks.{accepted, bad_parts, block_writes, is_lost}
use Rattle.btr_scrub_copies.specs.Fresh.{Failing, fresh, fresh_writes, stale_parts}
use Rattle.btr_scrub_copies.specs.Writes.{Images, Write}

-- it is a checked block
abbrev pub is_checked : Target → Bool
is_checked t = not (is_plain t.want)

-- it is one of which no candidate passes
abbrev pub is_lost_block : Images → Target → Bool
is_lost_block images t = is_checked t && is_lost images t

module _ (images : Images) (failing : Failing) (t : Target) where
  -- the places of its own at which something is wrong: those where a block is bad, or a plain sector is stale
  abbrev pub wrong_parts : List Part
  wrong_parts = if is_plain t.want then stale_parts images failing t else bad_parts images t

  -- the writes that mend it
  abbrev pub mending_writes : List Write
  mending_writes = if is_plain t.want then fresh_writes images failing t else block_writes images t

  -- the fresh bytes of a plain sector, where a place of its own is stale beside them
  abbrev pub renewed : Option (List ℕ)
  renewed = if nat_lt 0 (length (stale_parts images failing t)) then fresh images failing t else None

  -- the bytes that it gets in the new data: what is accepted for a block, and the fresh bytes of a plain sector that is stale
  abbrev pub new_bytes : Option (List ℕ)
  new_bytes = if is_plain t.want then renewed else accepted images t
