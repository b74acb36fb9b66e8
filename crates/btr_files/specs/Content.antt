-- The bytes of a file, piece by piece.
use Rattle.std.specs.Prelude.{ℕ, zero, suc, ◌+◌, ◌-◌, ◌/◌, Bool, true, not, ◌==◌, nat_le, if◌then◌else◌, min, List, take, Option, Some, None, Result, Ok, Err}
use Rattle.btr_base.specs.declared.kind.SumKind.{SumKind}
use Rattle.btr_base.specs.declared.stored.Sum.{Sum}
use Rattle.btr_items.specs.FileExtent.{end_of}
use Rattle.btr_items.specs.declared.shape.Shape.{Shape}
use Rattle.btr_items.specs.declared.shape.Shape.TheVariants.{Inline, Regular, Prealloc}
use Rattle.btr_prog.specs.Prog.{Return, Stop, Need, Emit, bind}
use Rattle.btr_prog.specs.Thread.{thread}
use Rattle.btr_read.specs.Fate.{Malformed, is_plain}
use Rattle.btr_read.specs.declared.want.Want.{Want}
use Rattle.btr_read.specs.declared.want.Want.TheVariants.{Sector, Plain}
use Rattle.btr_volume.specs.declared.root.TreeRoot.{TreeRoot}
use Rattle.btr_volume.specs.Lookup.{Program, Lookup, looks}
use Rattle.btr_files.specs.declared.clearness.Survey.{Survey}
use Rattle.btr_files.specs.declared.clearness.Survey.TheVariants.{Clear, Compressed, Encoded}
use Rattle.btr_files.specs.Extents.{Extent, extents, judged}
use Rattle.btr_files.specs.Sums.{sum_at}

-- a piece of a file: some bytes, and whether a checksum covers them, or as many zeros
pub data Piece : Type 0 where
  Bytes : List ℕ → Bool → Piece
  Gap : ℕ → Piece

-- the want of a sector, by its checksum if it has one
abbrev pub want_by : ℕ → Option Sum → Want
want_by addr None = Plain addr
want_by addr (Some sum) = Sector addr sum

-- zeros, if there are any, and then the rest
abbrev pub gap : {A : Type 0} → ℕ → Program Piece A → Program Piece A
gap count rest = if count == 0 then rest else Emit (Gap count) rest

-- on behind a position, or the end at the size
abbrev pub on_at : ℕ → ℕ → Result ℕ ℕ
on_at size at = if nat_le size at then Err size else Ok at

-- how many sectors of so many bytes from a position on begin before the size
abbrev pub sector_count : ℕ → ℕ → ℕ → ℕ
sector_count size start len = (min len (size - start) + 4095) / 4096

-- a clear extent; no other is a part of the file's bytes
abbrev pub if_clear : {A : Type 0} → Extent → Survey → Program Piece A → Program Piece A
if_clear x Clear rest = rest
if_clear x Compressed rest = Stop (Malformed x.leaf)
if_clear x Encoded rest = Stop (Malformed x.leaf)

-- files of a volume whose checksums are of a kind and stand in a tree, if there is one;
-- `nosum` is that of an inode without checksums
module _ (kind : SumKind) (sums : Option TreeRoot) (nosum : Bool) where
  -- the want of the sector at an address
  abbrev pub sector_want : ℕ → Lookup Want
  sector_want addr = if nosum then Return (Plain addr) else bind (sum_at kind sums addr) (λ sum. Return (want_by addr sum))

  -- so many sectors from an address on, the last cut after the bytes that are left of the file
  abbrev pub sectors : ℕ → ℕ → ℕ → Program Piece (Unit {0})
  sectors zero addr left = Return tt
  sectors (suc n) addr left =
      looks (sector_want addr) (λ want. Need want (λ bytes. Emit (Bytes (take left bytes) (not (is_plain want))) (sectors n (addr + 4096) (left - 4096))))

  module _ (size : ℕ) where
    -- the bytes of an extent that starts before the size, behind zeros up to it, and up to where the file has
    -- been given then. A hole, a preallocated extent and an empty one have no bytes: they are zeros of the next
    -- gap. A leaf's checksum covers what stands in it.
    abbrev pub shaped : ℕ → Extent → Shape → Program Piece (Result ℕ ℕ)
    shaped at x (Inline len) =
        if len == 0 then Return (Ok at)
        else gap (x.start - at) (Emit (Bytes (take (size - x.start) x.inline) true) (Return (on_at size (end_of x.start x.fields))))
    shaped at x (Regular addr disk_len skip len) =
        if addr == 0 then Return (Ok at)
        else gap (x.start - at) (bind (sectors (sector_count size x.start len) (addr + skip) (size - x.start))
        (λ u. Return (on_at size (end_of x.start x.fields))))
    shaped at x (Prealloc addr disk_len skip len) = Return (Ok at)

    -- an extent of a file that has been given up to a position
    abbrev pub piece : ℕ → Extent → Program Piece (Result ℕ ℕ)
    piece at x = if_clear x (judged x.fields) (if nat_le size x.start then Return (Err at) else shaped at x x.fields.shape)

    -- the pieces of some extents, of a file that has been given up to a position, and zeros up to the size
    abbrev pub pieces : ℕ → Program Extent (Unit {0}) → Program Piece (Unit {0})
    pieces at xs = bind (thread piece (λ at u. at) at xs) (λ at. gap (size - at) (Return tt))

    -- the pieces of a file of this size, by ascending position
    abbrev pub content : TreeRoot → ℕ → Program Piece (Unit {0})
    content tree ino = if size == 0 then Return tt else pieces 0 (extents tree ino)
