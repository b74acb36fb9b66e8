-- The text of an item: its line, and then the lines of its body.
use Rattle.std.specs.Prelude.{ℕ, if◌then◌else◌, List, [], ◌∷◌, ◌++◌, codes}
use Rattle.std.specs.Fmt.{decimal}
use Rattle.btr_base.specs.declared.key.Key.{Key}
use Rattle.btr_base.specs.declared.kind.SumKind.{SumKind}
use Rattle.btr_items.specs.Entry.{entries_of}
use Rattle.btr_items.specs.ExtRef.{ext_refs_of}
use Rattle.btr_items.specs.InodeRef.{inode_refs_of}
use Rattle.btr_items.specs.Item.{form_of, item_fits}
use Rattle.btr_items.specs.declared.form.Form.{Form}
use Rattle.btr_items.specs.declared.form.Form.TheVariants.{Inode, InodeRefs, ExtRefs, Entries, IndexEntry, Empty, FileExtent, Sums, Root, RootRef}
use Rattle.btr_items.specs.declared.form.Form.TheVariants.{Extent, LooseRef, BlockGroup, DevExtent, DevItem, Chunk, Other}
use Rattle.btr_node.specs.Block.{Item}
use Rattle.btr_text.specs.Pieces.{bytes_text, key_text}
use Rattle.btr_block_text.specs.Chunk.{chunk_lines}
use Rattle.btr_block_text.specs.Extents.{extent_text, loose_ref_text}
use Rattle.btr_block_text.specs.Files.{inode_ref_line, ext_ref_line, entry_line, inode_text, index_text, file_extent_text}
use Rattle.btr_block_text.specs.Read.{of_parts}
use Rattle.btr_block_text.specs.Trees.{sums_text, root_text, root_ref_text, block_group_text, dev_extent_text, dev_item_text}

-- a body as it is, in hexadecimal digits
abbrev pub raw_line : List ℕ → List ℕ
raw_line [] = codes "\t\traw\n"
raw_line (b ∷ rest) = codes "\t\traw " ++ bytes_text (b ∷ rest) ++ codes "\n"

-- the lines of a body that has a form; a key without a body has none, and what isn't read is shown as it is
abbrev pub form_lines : Form → SumKind → Key → List ℕ → List ℕ
form_lines Inode sums key body = inode_text body
form_lines InodeRefs sums key body = of_parts (inode_ref_line body) (inode_refs_of body)
form_lines ExtRefs sums key body = of_parts (ext_ref_line body) (ext_refs_of body)
form_lines Entries sums key body = of_parts (entry_line body) (entries_of body)
form_lines IndexEntry sums key body = index_text body
form_lines Empty sums key body = []
form_lines FileExtent sums key body = file_extent_text key.offset body
form_lines Sums sums key body = sums_text sums key body
form_lines Root sums key body = root_text body
form_lines RootRef sums key body = root_ref_text body
form_lines Extent sums key body = extent_text key.kind body
form_lines LooseRef sums key body = loose_ref_text key body
form_lines BlockGroup sums key body = block_group_text body
form_lines DevExtent sums key body = dev_extent_text body
form_lines DevItem sums key body = dev_item_text body
form_lines Chunk sums key body = chunk_lines body
form_lines Other sums key body = raw_line body

-- the lines of an item's body: as it is where the item breaks its form
unfoldable pub body_lines : SumKind → Key → List ℕ → List ℕ
body_lines sums key body = if item_fits sums key body then form_lines (form_of key.kind) sums key body else raw_line body

-- the line of item i, behind a tab
abbrev pub item_line : ℕ → Item → List ℕ
item_line i item =
    codes "\titem " ++ decimal i ++ codes " key " ++ key_text item.key ++ codes " itemoff " ++ decimal item.offset
    ++ codes " itemsize " ++ decimal item.size ++ codes "\n"

-- item i
unfoldable pub item_text : SumKind → ℕ → Item → List ℕ
item_text sums i item = item_line i item ++ body_lines sums item.key item.body
