-- The extents of a file, in ascending position.
use Rattle.std.specs.Prelude.{ℕ, not, ◌==◌, nat_le, if◌then◌else◌, List, Result, Ok, Err}
use Rattle.btr_items.specs.FileExtent.{file_extent_of, end_of, inline_data}
use Rattle.btr_items.specs.Types.{extent_data}
use Rattle.btr_items.specs.declared.file_extent.FileExtent.{FileExtent}
use Rattle.btr_prog.specs.Prog.{Return, Stop, Emit}
use Rattle.btr_prog.specs.Thread.{thread}
use Rattle.btr_read.specs.Fate.{Malformed}
use Rattle.btr_walk.specs.Le.{TreeItem}
use Rattle.btr_walk.specs.Range.{RangeProg, range}
use Rattle.btr_volume.specs.declared.root.TreeRoot.{TreeRoot}
use Rattle.btr_volume.specs.Lookup.{Program, Lookup, formed}
use Rattle.btr_volume.specs.Tree.{key, last}
use Rattle.btr_files.specs.declared.clearness.Survey.{Survey}
use Rattle.btr_files.specs.declared.clearness.Survey.TheVariants.{Clear, Compressed, Encoded}

-- an extent: its position in the file, the leaf that it stands in, what it says, and
-- the bytes that stand in it if it is inline
pub record Extent : Type 0 where
  pub start : ℕ
  pub leaf : ℕ
  pub fields : FileExtent
  pub inline : List ℕ

-- an extent of an item and its fields
abbrev pub extent : TreeItem → FileExtent → Extent
extent item fields = record { start = item.key.offset; leaf = item.leaf; fields = fields; inline = inline_data item.body }

-- an extent begins at or behind the end of the one before
abbrev pub in_order : ℕ → Extent → Program Extent (Result ℕ (Unit {0}))
in_order end x = if nat_le end x.start then Emit x (Return (Ok (end_of x.start x.fields))) else Stop (Malformed x.leaf)

-- a step for the extent in each of some items, by its form and then its order, behind the end of one before
abbrev pub extents_in : ℕ → RangeProg → Program Extent (Unit {0})
extents_in end items =
    thread (λ end item. formed item (file_extent_of item.key.offset item.body) (λ fields. in_order end (extent item fields)))
    (λ end u. u) end items

-- a step for each extent of a file
abbrev pub extents : TreeRoot → ℕ → Program Extent (Unit {0})
extents tree ino = extents_in 0 (range (key ino extent_data 0) (key ino extent_data last) tree.place)

-- what an extent by itself comes to
abbrev pub judged : FileExtent → Survey
judged fields = if not (fields.compression == 0) then Compressed else if fields.encoded then Encoded else Clear

-- on where it is clear
abbrev pub if_clear : Survey → Result (Unit {0}) Survey
if_clear Clear = Ok tt
if_clear Compressed = Err Compressed
if_clear Encoded = Err Encoded

-- the first extent that isn't clear decides
abbrev pub survey : TreeRoot → ℕ → Lookup Survey
survey tree ino = thread (λ u (x : Extent). Return (if_clear (judged x.fields))) (λ u v. Clear) tt (extents tree ino)
