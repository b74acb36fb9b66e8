-- CHUNK_ITEM: a chunk, of which only the length is looked at here.
use Rattle.std.specs.Prelude.{ℕ, ◌+◌, ◌*◌, ◌==◌, ◌&&◌, Bool, nat_le, List, length}
use Rattle.btr_base.specs.Field.{number_at}

-- the body of a CHUNK_ITEM has 48 bytes, the number of stripes among them, and 32 bytes for each stripe
abbrev pub has_chunk_size : List ℕ → Bool
has_chunk_size body = nat_le 48 (length body) && (length body == 48 + 32 * number_at 2 44 body)
