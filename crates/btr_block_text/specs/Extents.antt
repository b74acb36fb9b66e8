-- The lines of extents and of references to them. Each line stands behind two tabs.
use Rattle.std.specs.Prelude.{ℕ, List, [], ◌++◌, codes, Option, Some, None}
use Rattle.std.specs.Fmt.{decimal}
use Rattle.btr_base.specs.declared.key.Key.{Key}
use Rattle.btr_items.specs.ExtentItem.{block_key, extent_item_of}
use Rattle.btr_items.specs.InlineRef.{inline_refs_of}
use Rattle.btr_items.specs.LooseRef.{loose_ref_of}
use Rattle.btr_items.specs.declared.extent_item.ExtentItem.{ExtentItem}
use Rattle.btr_items.specs.declared.inline_ref.InlineRef.{InlineRef}
use Rattle.btr_items.specs.declared.link.Link.{Link}
use Rattle.btr_items.specs.declared.link.Link.TheVariants.{Tree, File, SharedTree, SharedFile}
use Rattle.btr_items.specs.declared.loose_ref.LooseRef.{LooseRef}
use Rattle.btr_text.specs.Pieces.{hex_text, key_text}
use Rattle.btr_block_text.specs.Read.{of_read, of_parts}

-- a tree or a block that refers to a tree block, behind its words
abbrev pub tree_line : List ℕ → ℕ → List ℕ
tree_line words id = words ++ decimal id ++ codes "\n"

-- the line of a data reference of a file: its root, inode, offset and count
abbrev pub file_line : ℕ → ℕ → ℕ → ℕ → List ℕ
file_line root objectid offset count =
    codes "\t\tfile ref root " ++ decimal root ++ codes " objectid " ++ decimal objectid ++ codes " offset " ++ decimal offset
    ++ codes " count " ++ decimal count ++ codes "\n"

-- the line of a data reference of a leaf: its address and count
abbrev pub shared_file_line : ℕ → ℕ → List ℕ
shared_file_line parent count = codes "\t\tshared file ref parent " ++ decimal parent ++ codes " count " ++ decimal count ++ codes "\n"

-- what refers to an extent, and to a data extent how often
abbrev pub link_line : Link → ℕ → List ℕ
link_line (Tree root) count = tree_line (codes "\t\ttree ref root ") root
link_line (File root objectid offset) count = file_line root objectid offset count
link_line (SharedTree parent) count = tree_line (codes "\t\tshared tree ref parent ") parent
link_line (SharedFile parent) count = shared_file_line parent count

-- the line of a reference that stands in an extent's item
abbrev pub inline_ref_line : List ℕ → InlineRef → List ℕ
inline_ref_line body found = link_line found.link found.count

-- the line of a reference that has an item of its own
abbrev pub loose_ref_line : LooseRef → List ℕ
loose_ref_line found = link_line found.link found.count

-- the line of the first key and level of a tree block
abbrev pub block_line : Key → ℕ → List ℕ
block_line key level = codes "\t\tblock key " ++ key_text key ++ codes " level " ++ decimal level ++ codes "\n"

-- the first key and the level of the tree block of an EXTENT_ITEM; a METADATA_ITEM has neither
abbrev pub tree_block_line : Option Key → Option ℕ → List ℕ
tree_block_line None level = []
tree_block_line (Some key) None = []
tree_block_line (Some key) (Some level) = block_line key level

-- the line of an extent: its references, generation and flags
abbrev pub extent_line : ExtentItem → List ℕ
extent_line extent =
    codes "\t\trefs " ++ decimal extent.refs ++ codes " generation " ++ decimal extent.generation
    ++ codes " flags " ++ hex_text extent.flags ++ codes "\n"

-- an extent, the tree block that it is, and the references that stand in its item
abbrev pub extent_lines : List ℕ → ExtentItem → List ℕ
extent_lines body extent =
    extent_line extent ++ tree_block_line (block_key extent.first body) extent.level
    ++ of_parts (inline_ref_line body) (inline_refs_of extent.first body)

-- the lines of an EXTENT_ITEM or a METADATA_ITEM
abbrev pub extent_text : ℕ → List ℕ → List ℕ
extent_text kind body = of_read (extent_lines body) (extent_item_of kind body)

-- the line of a reference in an item of its own
abbrev pub loose_ref_text : Key → List ℕ → List ℕ
loose_ref_text key body = of_read loose_ref_line (loose_ref_of key body)
