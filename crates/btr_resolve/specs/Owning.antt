-- Whose bytes are at an address of the filesystem.
use Rattle.std.specs.Prelude.{ℕ, ◌+◌, ◌-◌, ◌<◌, ◌^◌, Bool, ◌&&◌, ◌==◌, nat_le, nat_lt, if◌then◌else◌, Option, Some, None, Result, Ok}
use Rattle.btr_items.specs.FileExtent.{file_extent_of, end_of}
use Rattle.btr_items.specs.Types.{extent_data}
use Rattle.btr_items.specs.declared.file_extent.FileExtent.{FileExtent}
use Rattle.btr_items.specs.declared.shape.Shape.{Shape}
use Rattle.btr_items.specs.declared.shape.Shape.TheVariants.{Inline, Regular, Prealloc}
use Rattle.btr_prog.specs.Prog.{Return, Stop, Emit}
use Rattle.btr_prog.specs.Thread.{thread}
use Rattle.btr_read.specs.Fate.{Malformed}
use Rattle.btr_walk.specs.Le.{TreeItem}
use Rattle.btr_walk.specs.Range.{RangeProg, range}
use Rattle.btr_base.specs.Key.{last_key}
use Rattle.btr_volume.specs.Lookup.{Program, formed}
use Rattle.btr_volume.specs.Table.{first_key}
use Rattle.btr_volume.specs.declared.root.TreeRoot.{TreeRoot}
use Rattle.btr_resolve.specs.declared.extent.DiskExtent.{DiskExtent}
use Rattle.btr_resolve.specs.declared.owner.Owner.{Owner}
use Rattle.btr_resolve.specs.declared.owner.Met.{Met}

-- an extent with an address
abbrev pub placed : ℕ → ℕ → ℕ → ℕ → Option DiskExtent
placed addr disk_len skip len = if addr == 0 then None else Some (record { addr = addr; disk_len = disk_len; skip = skip; len = len })

-- where an extent is on the disk: inline extents and holes are not there, and preallocated ones are, as those with data
abbrev pub on_disk : Shape → Option DiskExtent
on_disk (Inline len) = None
on_disk (Regular addr disk_len skip len) = placed addr disk_len skip len
on_disk (Prealloc addr disk_len skip len) = placed addr disk_len skip len

-- the position in a file of the byte at an address, by the extent that begins
-- at `start` in the file, if it has the byte
abbrev pub plain_position : ℕ → ℕ → DiskExtent → Option ℕ
plain_position addr start extent =
    let first = extent.addr + extent.skip in
    if nat_le first addr && nat_lt addr (first + extent.len) then Some (start + (addr - first)) else None

-- the position by a compressed extent, where each byte on the disk is one of all
-- that it makes: where it begins in the file
abbrev pub packed_position : ℕ → ℕ → DiskExtent → Option ℕ
packed_position addr start extent = if nat_le extent.addr addr && nat_lt addr (extent.addr + extent.disk_len) then Some start else None

-- the position by any extent on the disk
abbrev pub position_on : ℕ → ℕ → Bool → Option DiskExtent → Option ℕ
position_on addr start is_plain None = None
position_on addr start is_plain (Some extent) = if is_plain then plain_position addr start extent else packed_position addr start extent

-- the position by an extent that begins at an offset of a file
abbrev pub position_in : ℕ → ℕ → FileExtent → Option ℕ
position_in addr start fields = position_on addr start (fields.compression == 0) (on_disk fields.shape)

-- an owner: the byte of a file at a position
abbrev pub owner_at : TreeRoot → ℕ → ℕ → Owner
owner_at tree inode position = record { tree = tree; inode = inode; position = position }

-- no extent was met yet
abbrev pub none_met : Met
none_met = record { inode = 0; end = 0 }

-- where the extents of a file end that were met
abbrev pub end_in : Met → ℕ → ℕ
end_in met inode = if met.inode == inode then met.end else 0

-- an owner, if there is one, and on
abbrev pub owner_if : TreeRoot → ℕ → Option ℕ → Met → Program Owner (Result Met (Unit {0}))
owner_if tree inode None met = Return (Ok met)
owner_if tree inode (Some position) met = Emit (owner_at tree inode position) (Return (Ok met))

-- an extent behind those that were met; one that begins before the end of the one before makes its leaf malformed
abbrev pub extent_met : ℕ → TreeRoot → Met → TreeItem → FileExtent → Program Owner (Result Met (Unit {0}))
extent_met addr tree met item fields =
    let inode = item.key.objectid in
    let start = item.key.offset in
    if nat_le (end_in met inode) start
    then owner_if tree inode (position_in addr start fields) (record { inode = inode; end = end_of start fields })
    else Stop (Malformed item.leaf)

-- an item of a tree: of all items the extents alone are read
abbrev pub item_met : ℕ → TreeRoot → Met → TreeItem → Program Owner (Result Met (Unit {0}))
item_met addr tree met item =
    if item.key.kind == extent_data
    then formed item (file_extent_of item.key.offset item.body) (extent_met addr tree met item)
    else Return (Ok met)

-- a step for each owner of an address among some items, behind the extents that were met
abbrev pub owners_in : ℕ → TreeRoot → Met → RangeProg → Program Owner (Unit {0})
owners_in addr tree met items = thread (item_met addr tree) (λ met u. u) met items

-- a step for each owner of an address in a tree, by ascending inode and then position
abbrev pub owners : ℕ → TreeRoot → Program Owner (Unit {0})
owners addr tree = owners_in addr tree none_met (range first_key last_key tree.place)

-- no extent of a file ends beyond the last position
abbrev pub FitsFile : ℕ → Shape → Type 0
FitsFile start (Inline len) = Unit {0}
FitsFile start (Regular addr disk_len skip len) = start + len < 2 ^ 64
FitsFile start (Prealloc addr disk_len skip len) = start + len < 2 ^ 64
