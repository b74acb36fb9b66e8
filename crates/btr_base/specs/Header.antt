-- The header of a tree block.
use Rattle.std.specs.Prelude.{ℕ, List, slice_index}
use Rattle.btr_base.specs.Field.{number_at, bytes_at}
use Rattle.btr_base.specs.Sum.{stored_sum}
use Rattle.btr_base.specs.declared.kind.SumKind.{SumKind}
use Rattle.btr_base.specs.declared.header.Header.{Header}

-- the header in the first 101 bytes of a tree block
abbrev pub header_of : SumKind → List ℕ → Header
header_of kind bytes = record {
  sum = stored_sum kind bytes;
  fsid = bytes_at 16 0x20 bytes;
  addr = number_at 8 0x30 bytes;
  generation = number_at 8 0x50 bytes;
  owner = number_at 8 0x58 bytes;
  items = number_at 4 0x60 bytes;
  level = slice_index bytes 0x64;
}
