-- The bytes of a file, each by its position.
use Rattle.std.specs.Prelude.{◌≡◌, ℕ, ◌+◌, ◌-◌, ◌%◌, ◌<◌, Bool, ◌&&◌, ◌==◌, nat_le, nat_lt, if◌then◌else◌, List, [], length, find, flat_map}
use Rattle.std.specs.Prelude.{replicate, slice_index, Option, Result, Ok, Err}
use Rattle.std.specs.Option.{option_map_or}
use Rattle.btr_base.specs.declared.kind.SumKind.{SumKind}
use Rattle.btr_items.specs.FileExtent.{end_of}
use Rattle.btr_items.specs.declared.shape.Shape.{Shape}
use Rattle.btr_items.specs.declared.shape.Shape.TheVariants.{Inline, Regular, Prealloc}
use Rattle.btr_prog.specs.Blind.{IsAlike}
use Rattle.btr_prog.specs.Goes.{GoesTo}
use Rattle.btr_prog.specs.Prog.{BlockMap, Run, exec, steps, steps_of}
use Rattle.btr_read.specs.Fate.{Fault, is_plain}
use Rattle.btr_read.specs.declared.want.Want.{Want}
use Rattle.btr_read.specs.declared.want.Want.TheVariants.{Tree, Block, Sector, Plain}
use Rattle.btr_volume.specs.declared.root.TreeRoot.{TreeRoot}
use Rattle.btr_files.specs.Content.{Piece, Bytes, Gap, sector_want, content}
use Rattle.btr_files.specs.Extents.{Extent, extents}

-- the bytes of a piece
abbrev pub piece_bytes : Piece → List ℕ
piece_bytes (Bytes bytes summed) = bytes
piece_bytes (Gap count) = replicate count 0

-- the bytes of some pieces
abbrev pub bytes_of : List Piece → List ℕ
bytes_of pieces = flat_map piece_bytes pieces

-- a position lies in an extent
abbrev pub covers : ℕ → Extent → Bool
covers p x = nat_le x.start p && nat_lt p (end_of x.start x.fields)

module _ (B : BlockMap Want Fault) (kind : SumKind) (sums : Option TreeRoot) (nosum : Bool) where
  -- the bytes of a block, or none where they could not be had
  abbrev pub bytes_or_none : Result (List ℕ) Fault → List ℕ
  bytes_or_none (Ok bytes) = bytes
  bytes_or_none (Err fault) = []

  -- the bytes that a want comes to, or none where there is no want
  abbrev pub bytes_by : Result Want Fault → List ℕ
  bytes_by (Ok want) = bytes_or_none (B want)
  bytes_by (Err fault) = []

  -- the bytes of the sector at an address
  abbrev pub sector_bytes : ℕ → List ℕ
  sector_bytes addr = bytes_by (exec B (sector_want kind sums nosum addr)).ending

  -- the byte at a position that an extent covers: an inline byte, that of a sector, or zero
  abbrev pub byte_in : ℕ → Extent → Shape → ℕ
  byte_in p x (Inline len) = slice_index x.inline (p - x.start)
  byte_in p x (Regular addr disk_len skip len) =
      let at = addr + skip + (p - x.start) in
      if addr == 0 then 0 else slice_index (sector_bytes (at - at % 4096)) (at % 4096)
  byte_in p x (Prealloc addr disk_len skip len) = 0

  -- the byte at a position of a file of some extents: zero where none covers it
  abbrev pub file_at : List Extent → ℕ → ℕ
  file_at xs p = option_map_or (λ x. byte_in p x x.fields.shape) (find (covers p) xs) 0

-- data is wanted by whole sectors
abbrev pub IsSectorLong : Want → List ℕ → Type 0
IsSectorLong (Tree addr generation level) bytes = Unit {0}
IsSectorLong (Block addr) bytes = Unit {0}
IsSectorLong (Sector addr sum) bytes = length bytes ≡ 4096
IsSectorLong (Plain addr) bytes = length bytes ≡ 4096

-- the pieces of a file are its bytes, as many as its size
abbrev pub ContentIsFile : Type 0
ContentIsFile =
    (B : BlockMap Want Fault) (kind : SumKind) (sums : Option TreeRoot) (nosum : Bool) (size : ℕ) (tree : TreeRoot) (ino : ℕ)
    → ((want : Want) (bytes : List ℕ) → B want ≡ Ok bytes → IsSectorLong want bytes)
    → (exec B (content kind sums nosum size tree ino)).ending ≡ Ok tt
    → (length (bytes_of (steps B (content kind sums nosum size tree ino))) ≡ size)
    × ((p : ℕ) → p < size → slice_index (bytes_of (steps B (content kind sums nosum size tree ino))) p
    ≡ file_at B kind sums nosum (steps B (extents tree ino)) p)

-- The same whatever reads failed, where each want comes to what some map says of it, each time perhaps another,
-- and the maps differ in nothing but the bytes of sectors without a checksum: each byte of a file that was given
-- whole is the one that it has by some of them.
abbrev pub SomeContentIsFile : Type 0
SomeContentIsFile =
    (maps : ℕ → BlockMap Want Fault) (kind : SumKind) (sums : Option TreeRoot) (nosum : Bool) (size : ℕ) (tree : TreeRoot) (ino : ℕ)
    (run : Run Want Fault Piece (Unit {0}))
    → ((n : ℕ) (want : Want) (bytes : List ℕ) → maps n want ≡ Ok bytes → IsSectorLong want bytes)
    → ((n : ℕ) (want : Want) → IsAlike (is_plain want) (maps n want) (maps 0 want))
    → GoesTo maps (content kind sums nosum size tree ino) run
    → run.ending ≡ Ok tt
    → (length (bytes_of (steps_of run.marks)) ≡ size)
    × ((p : ℕ) → p < size → (n : ℕ)
    × (slice_index (bytes_of (steps_of run.marks)) p ≡ file_at (maps n) kind sums nosum (steps (maps n) (extents tree ino)) p))
