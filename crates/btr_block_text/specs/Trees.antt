-- The lines of the items of roots, checksums, block groups and devices. Each line stands behind two tabs.
use Rattle.std.specs.Prelude.{ℕ, ◌+◌, ◌*◌, List, ◌++◌, codes}
use Rattle.std.specs.Fmt.{decimal}
use Rattle.btr_base.specs.declared.key.Key.{Key}
use Rattle.btr_base.specs.declared.kind.SumKind.{SumKind}
use Rattle.btr_items.specs.BlockGroup.{block_group_of}
use Rattle.btr_items.specs.DevExtent.{dev_extent_of}
use Rattle.btr_items.specs.DevItem.{dev_item_of}
use Rattle.btr_items.specs.RootItem.{root_item_of}
use Rattle.btr_items.specs.RootRef.{root_ref_of}
use Rattle.btr_items.specs.SumRun.{sum_run_of}
use Rattle.btr_items.specs.declared.block_group.BlockGroup.{BlockGroup}
use Rattle.btr_items.specs.declared.dev_extent.DevExtent.{DevExtent}
use Rattle.btr_items.specs.declared.dev_item.DevItem.{DevItem}
use Rattle.btr_items.specs.declared.root_item.RootItem.{RootItem}
use Rattle.btr_items.specs.declared.root_ref.RootRef.{RootRef}
use Rattle.btr_items.specs.declared.sum_run.SumRun.{SumRun}
use Rattle.btr_text.specs.Pieces.{hex_text, id_text}
use Rattle.btr_block_text.specs.Files.{named}
use Rattle.btr_block_text.specs.Read.{of_read}

-- sectors have 4096 bytes
abbrev pub sums_line : SumRun → List ℕ
sums_line run =
    codes "\t\trange start " ++ decimal run.start ++ codes " end " ++ decimal (run.start + run.count * 4096)
    ++ codes " length " ++ decimal (run.count * 4096) ++ codes "\n"

-- the line of a root
abbrev pub root_line : RootItem → List ℕ
root_line root =
    codes "\t\tgeneration " ++ decimal root.generation ++ codes " dirid " ++ decimal root.dirid
    ++ codes " bytenr " ++ decimal root.bytenr ++ codes " level " ++ decimal root.level
    ++ codes " flags " ++ hex_text root.flags ++ codes " refs " ++ decimal root.refs ++ codes "\n"

-- the line of a name of a subvolume
abbrev pub root_ref_line : List ℕ → RootRef → List ℕ
root_ref_line body found =
    codes "\t\tdirid " ++ decimal found.dirid ++ codes " sequence " ++ decimal found.sequence ++ named body found.name_at found.name_len

-- the line of a block group
abbrev pub block_group_line : BlockGroup → List ℕ
block_group_line group =
    codes "\t\tused " ++ decimal group.used ++ codes " owner " ++ decimal group.owner ++ codes " flags " ++ hex_text group.flags
    ++ codes "\n"

-- the line of a device extent
abbrev pub dev_extent_line : DevExtent → List ℕ
dev_extent_line extent = codes "\t\tchunk " ++ decimal extent.chunk ++ codes " length " ++ decimal extent.«length» ++ codes "\n"

-- the line of a device
abbrev pub dev_item_line : DevItem → List ℕ
dev_item_line device =
    codes "\t\tdevid " ++ decimal device.devid ++ codes " total " ++ decimal device.total ++ codes " used " ++ decimal device.used
    ++ codes " uuid " ++ id_text device.uuid ++ codes "\n"

-- the line of an EXTENT_CSUM with this key, where checksums are of this kind
abbrev pub sums_text : SumKind → Key → List ℕ → List ℕ
sums_text kind key body = of_read sums_line (sum_run_of kind key body)

-- the line of a ROOT_ITEM, if its body has the form of one
abbrev pub root_text : List ℕ → List ℕ
root_text body = of_read root_line (root_item_of body)

-- the line of a ROOT_REF or ROOT_BACKREF, if its body has the form of one
abbrev pub root_ref_text : List ℕ → List ℕ
root_ref_text body = of_read (root_ref_line body) (root_ref_of body)

-- the line of a BLOCK_GROUP_ITEM, if its body has the form of one
abbrev pub block_group_text : List ℕ → List ℕ
block_group_text body = of_read block_group_line (block_group_of body)

-- the line of a DEV_EXTENT, if its body has the form of one
abbrev pub dev_extent_text : List ℕ → List ℕ
dev_extent_text body = of_read dev_extent_line (dev_extent_of body)

-- the line of a DEV_ITEM, if its body has the form of one
abbrev pub dev_item_text : List ℕ → List ℕ
dev_item_text body = of_read dev_item_line (dev_item_of body)
