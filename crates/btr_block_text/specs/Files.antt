-- The lines of the items of files and directories. Each line stands behind two tabs.
use Rattle.std.specs.Prelude.{ℕ, List, ◌++◌, codes}
use Rattle.std.specs.Fmt.{decimal}
use Rattle.btr_base.specs.Field.{bytes_at}
use Rattle.btr_items.specs.Entry.{index_entry_of}
use Rattle.btr_items.specs.FileExtent.{file_extent_of}
use Rattle.btr_items.specs.Inode.{inode_of}
use Rattle.btr_items.specs.declared.entry.Entry.{Entry}
use Rattle.btr_items.specs.declared.ext_ref.ExtRef.{ExtRef}
use Rattle.btr_items.specs.declared.file_extent.FileExtent.{FileExtent}
use Rattle.btr_items.specs.declared.inode.Inode.{Inode}
use Rattle.btr_items.specs.declared.inode_ref.InodeRef.{InodeRef}
use Rattle.btr_items.specs.declared.shape.Shape.{Shape}
use Rattle.btr_items.specs.declared.shape.Shape.TheVariants.{Inline, Regular, Prealloc}
use Rattle.btr_text.specs.Pieces.{hex_text, octal_text, key_text, name_text}
use Rattle.btr_block_text.specs.Read.{of_read}

-- the line of an inode
abbrev pub inode_line : Inode → List ℕ
inode_line inode =
    codes "\t\tsize " ++ decimal inode.size ++ codes " nlink " ++ decimal inode.nlink ++ codes " mode " ++ octal_text inode.mode
    ++ codes " flags " ++ hex_text inode.flags ++ codes "\n"

-- the name of a length at a place of the body, as each name ends a line
abbrev pub named : List ℕ → ℕ → ℕ → List ℕ
named body at len = codes " namelen " ++ decimal len ++ codes " name " ++ name_text (bytes_at len at body) ++ codes "\n"

-- the line of a name in an INODE_REF
abbrev pub inode_ref_line : List ℕ → InodeRef → List ℕ
inode_ref_line body found = codes "\t\tindex " ++ decimal found.index ++ named body found.name_at found.name_len

-- the line of a name in an INODE_EXTREF
abbrev pub ext_ref_line : List ℕ → ExtRef → List ℕ
ext_ref_line body found =
    codes "\t\tparent " ++ decimal found.parent ++ codes " index " ++ decimal found.index ++ named body found.name_at found.name_len

-- the line of an entry of a directory
abbrev pub entry_line : List ℕ → Entry → List ℕ
entry_line body entry =
    codes "\t\tlocation " ++ key_text entry.location ++ codes " kind " ++ decimal entry.kind
    ++ codes " transid " ++ decimal entry.transid ++ codes " datalen " ++ decimal entry.extra_len
    ++ named body entry.name_at entry.name_len

-- an extent on the disk, behind its word
abbrev pub disk_text : List ℕ → ℕ → ℕ → ℕ → ℕ → List ℕ
disk_text word addr disk_len skip len =
    word ++ decimal addr ++ codes " length " ++ decimal disk_len ++ codes " offset " ++ decimal skip ++ codes " bytes " ++ decimal len

-- where the bytes of a range of a file stand
abbrev pub shape_text : Shape → List ℕ
shape_text (Inline len) = codes " inline bytes " ++ decimal len
shape_text (Regular addr disk_len skip len) = disk_text (codes " regular disk ") addr disk_len skip len
shape_text (Prealloc addr disk_len skip len) = disk_text (codes " prealloc disk ") addr disk_len skip len

-- the end of the line of a file extent: its full size and its compression
abbrev pub range_end : FileExtent → List ℕ
range_end extent = codes " ram " ++ decimal extent.ram ++ codes " compression " ++ decimal extent.compression ++ codes "\n"

-- the line of a file extent
abbrev pub file_extent_line : FileExtent → List ℕ
file_extent_line extent = codes "\t\tgeneration " ++ decimal extent.generation ++ shape_text extent.shape ++ range_end extent

-- the line of an INODE_ITEM, if its body has the form of one
abbrev pub inode_text : List ℕ → List ℕ
inode_text body = of_read inode_line (inode_of body)

-- the line of a DIR_INDEX, if its body has the form of one
abbrev pub index_text : List ℕ → List ℕ
index_text body = of_read (entry_line body) (index_entry_of body)

-- the line of an EXTENT_DATA whose key has an offset, if its body has the form of one
abbrev pub file_extent_text : ℕ → List ℕ → List ℕ
file_extent_text offset body = of_read file_extent_line (file_extent_of offset body)
