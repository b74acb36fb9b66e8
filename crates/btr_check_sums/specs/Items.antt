-- The items that speak of checksums of data, and of the sectors that files use; and what is kept of them.
use Rattle.std.specs.Prelude.{◌≡◌, ℕ, ◌==◌, bit_and, List, [], fold, filter_map, Option, Some, None, if◌then◌else◌}
use Rattle.std.specs.Result.{result_ok}
use Rattle.btr_base.specs.declared.kind.SumKind.{SumKind}
use Rattle.btr_items.specs.FileExtent.{file_extent_of}
use Rattle.btr_items.specs.Inode.{inode_of}
use Rattle.btr_items.specs.SumRun.{sum_run_of}
use Rattle.btr_items.specs.Types.{inode_item, extent_data}
use Rattle.btr_items.specs.declared.file_extent.FileExtent.{FileExtent}
use Rattle.btr_items.specs.declared.inode.Inode.{Inode}
use Rattle.btr_items.specs.declared.shape.Shape.{Shape}
use Rattle.btr_items.specs.declared.shape.Shape.TheVariants.{Inline, Regular, Prealloc}
use Rattle.btr_items.specs.declared.sum_run.SumRun.{SumRun}
use Rattle.btr_check_space.specs.Items.{with_mark}
use Rattle.btr_tour.specs.Tour.{Mark, items_met}
use Rattle.btr_walk.specs.Le.{TreeItem}
use Rattle.btr_check_sums.specs.declared.used_range.UsedRange.{UsedRange}

-- the checksums of consecutive sectors in an item
abbrev pub run_in : SumKind → TreeItem → Option SumRun
run_in kind item = result_ok (sum_run_of kind item.key item.body)

-- the runs of checksums in the items of a tree
abbrev pub runs_in : SumKind → List TreeItem → List SumRun
runs_in kind items = filter_map (run_in kind) items

-- an inode whose data has no checksums: it has the flag 1
abbrev pub loose_if : ℕ → Option Inode → Option ℕ
loose_if number None = None
loose_if number (Some inode) = if bit_and inode.flags 1 == 0 then None else Some number

-- the inode of an item whose data has no checksums, if it is such an INODE_ITEM
abbrev pub loose_in : TreeItem → Option ℕ
loose_in item = if item.key.kind == inode_item then loose_if item.key.objectid (result_ok (inode_of item.body)) else None

-- what a file uses of a regular extent that has an address: all of it where it is compressed
abbrev pub used_of : ℕ → FileExtent → Shape → Option UsedRange
used_of inode extent (Inline len) = None
used_of inode extent (Regular addr disk_len skip len) =
    if addr == 0 then None
    else if extent.compression == 0 then Some (record { inode = inode; addr = addr; skip = skip; len = len })
    else Some (record { inode = inode; addr = addr; skip = 0; len = disk_len })
used_of inode extent (Prealloc addr disk_len skip len) = None

-- what a file uses of the extent of an item that has its form
abbrev pub used_if : ℕ → Option FileExtent → Option UsedRange
used_if inode None = None
used_if inode (Some extent) = used_of inode extent extent.shape

-- what a file uses by an EXTENT_DATA, if it is one and has its form
abbrev pub used_in : TreeItem → Option UsedRange
used_in item = if item.key.kind == extent_data then used_if item.key.objectid (result_ok (file_extent_of item.key.offset item.body)) else None

-- what is kept of the checksum tree: the kind of its checksums, and its runs
pub record RunsMet : Type 0 where
  pub kind : SumKind
  pub runs : List SumRun

-- what is kept of the checksum tree after one more mark
abbrev pub runs_step : RunsMet → Mark → RunsMet
runs_step met mark = record { kind = met.kind; runs = with_mark (run_in met.kind) met.runs mark }

-- what is kept of a tree of files: the inodes whose data has no checksums, and the ranges that its files use
pub record UsesMet : Type 0 where
  pub loose : List ℕ
  pub used : List UsedRange

-- what is kept of a tree of files after one more mark
abbrev pub uses_step : UsesMet → Mark → UsesMet
uses_step met mark = record { loose = with_mark loose_in met.loose mark; used = with_mark used_in met.used mark }

-- what is kept of a tour of the checksum tree is all runs among its items
abbrev pub KeepsRuns : Type 0
KeepsRuns = (kind : SumKind) (marks : List Mark)
    → fold runs_step (record { kind = kind; runs = [] }) marks ≡ record { kind = kind; runs = runs_in kind (items_met marks) }

-- what is kept of a tour of a tree of files is all such inodes and ranges among its items
abbrev pub KeepsUses : Type 0
KeepsUses = (marks : List Mark)
    → fold uses_step (record { loose = []; used = [] }) marks
    ≡ record { loose = filter_map loose_in (items_met marks); used = filter_map used_in (items_met marks) }
