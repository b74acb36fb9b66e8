-- What `dump-tree` shows, as programs over wants whose steps are pieces of a text.
use Rattle.std.specs.Prelude.{ℕ, ◌==◌, nat_le, if◌then◌else◌, List, ◌++◌, length, codes, Option, Some, None, Result, Ok, Err}
use Rattle.std.specs.Fmt.{decimal}
use Rattle.std.specs.Option.{unwrap_or}
use Rattle.btr_base.specs.Sum.{kind_of_type}
use Rattle.btr_base.specs.Key.{last_key}
use Rattle.btr_base.specs.declared.kind.SumKind.{SumKind}
use Rattle.btr_base.specs.declared.kind.SumKind.TheVariants.{Crc32c}
use Rattle.btr_items.specs.Form.{map_ok}
use Rattle.btr_items.specs.RootItem.{root_item_of}
use Rattle.btr_items.specs.declared.fault.ItemFault.{ItemFault}
use Rattle.btr_items.specs.Types.{root_item}
use Rattle.btr_node.specs.Node.{node_of}
use Rattle.btr_node.specs.declared.node.Node.{Node}
use Rattle.btr_prog.specs.Prog.{Return, Stop, Need, Emit, bind}
use Rattle.btr_read.specs.Fate.{Malformed}
use Rattle.btr_read.specs.declared.want.Want.TheVariants.{Block}
use Rattle.btr_super.specs.declared.superblock.Super.{Super}
use Rattle.btr_walk.specs.Blocks.{TreeBlock, BlocksProg, blocks}
use Rattle.btr_walk.specs.Le.{TreeItem}
use Rattle.btr_walk.specs.Range.{RangeProg, range}
use Rattle.btr_volume.specs.Lookup.{Program, formed, each, looks}
use Rattle.btr_volume.specs.Table.{first_key, chunk_root}
use Rattle.btr_volume.specs.Tree.{root_root, named_root, described, tree_of}
use Rattle.btr_volume.specs.declared.root.TreeRoot.{TreeRoot}
use Rattle.btr_block_text.specs.Block.{block_text}

-- a piece of a text
abbrev pub Text : Type 0
Text = List ℕ

-- a text that is shown piece by piece
abbrev pub Shown : Type 0
Shown = Program Text (Unit {0})

-- a text that is shown in one piece
abbrev pub piece : Text → Shown
piece text = Emit text (Return tt)

-- the kind of a volume's checksums, whose type is one that is read
abbrev pub kind_in : Super → SumKind
kind_in s = unwrap_or (kind_of_type s.csum_type) Crc32c

-- a good block is shown; another one is malformed
unfoldable pub held_block : SumKind → ℕ → List ℕ → Option Node → Shown
held_block sums addr block None = Stop (Malformed addr)
held_block sums addr block (Some node) = piece (block_text sums addr block)

-- what a block holds, which is at least as long as its header
abbrev pub held_in : List ℕ → Option Node
held_in block = if nat_le 101 (length block) then node_of block else None

-- the block at an address, of whatever tree it is
abbrev pub block_shown : SumKind → ℕ → Shown
block_shown sums addr = Need (Block addr) (λ block. held_block sums addr block (held_in block))

-- the line of a root: of which tree, and where it stands
abbrev pub root_text : ℕ → ℕ → ℕ → ℕ → ℕ → Text
root_text id offset addr level generation =
    codes "tree " ++ decimal id ++ codes " offset " ++ decimal offset ++ codes " bytenr " ++ decimal addr
    ++ codes " level " ++ decimal level ++ codes " generation " ++ decimal generation ++ codes "\n"

-- the line of a tree's root
abbrev pub root_line : TreeRoot → Text
root_line root = root_text root.id root.offset root.place.addr root.place.level root.place.generation

-- the line of the root that an item describes, if it is a ROOT_ITEM; one that breaks its form makes its leaf malformed
unfoldable pub item_line : TreeItem → Shown
item_line item = if item.key.kind == root_item then formed item (root_item_of item.body) (λ root. piece (root_line (described item.key root))) else Return tt

-- the lines of the roots among items
abbrev pub item_lines : RangeProg → Shown
item_lines items = each (λ u item. item_line item) tt items

-- the lines of the roots: of the root tree, of the chunk tree, and of each ROOT_ITEM in the order of the keys
abbrev pub roots_shown : Super → Shown
roots_shown s = Emit (root_line (named_root 1 (root_root s)))
    (Emit (root_line (named_root 3 (chunk_root s))) (item_lines (range first_key last_key (root_root s))))

-- the line before the blocks of a tree
abbrev pub tree_text : ℕ → ℕ → Text
tree_text id offset = codes "tree " ++ decimal id ++ codes " offset " ++ decimal offset ++ codes "\n"

-- a block of a tree
unfoldable pub met_block : SumKind → TreeBlock → Shown
met_block sums met = held_block sums met.addr met.bytes (held_in met.bytes)

-- the blocks of a tree, each before its children
abbrev pub blocks_shown : SumKind → BlocksProg → Shown
blocks_shown sums met = each (λ u block. met_block sums block) tt met

-- a tree: its line, and then its blocks
abbrev pub tree_shown : SumKind → TreeRoot → Shown
tree_shown sums root = Emit (tree_text root.id root.offset) (blocks_shown sums (blocks root.place))

-- a text, or the id of a tree that there isn't
abbrev pub Asked : Type 0
Asked = Program Text (Option ℕ)

-- the tree that was found for an id
abbrev pub found_tree : SumKind → ℕ → Option TreeRoot → Asked
found_tree sums id None = Return (Some id)
found_tree sums id (Some root) = bind (tree_shown sums root) (λ u. Return None)

-- the tree of an id
abbrev pub asked_tree : Super → ℕ → Asked
asked_tree s id = looks (tree_of s id) (found_tree (kind_in s) id)

-- the root that was read of an item, if it keeps its form
abbrev pub if_formed : Result TreeRoot ItemFault → Option TreeRoot
if_formed (Ok root) = Some root
if_formed (Err fault) = None

-- the root that an item describes, if it is a ROOT_ITEM and keeps its form
unfoldable pub item_root : TreeItem → Option TreeRoot
item_root item = if item.key.kind == root_item then if_formed (map_ok (described item.key) (root_item_of item.body)) else None

-- a tree, if there is one
abbrev pub tree_if : SumKind → Option TreeRoot → Shown
tree_if sums None = Return tt
tree_if sums (Some root) = tree_shown sums root

-- the trees that items describe, one after another
abbrev pub item_trees : SumKind → RangeProg → Shown
item_trees sums items = each (λ u item. tree_if sums (item_root item)) tt items

-- the trees whose roots the superblock names: the root tree, and then the chunk tree
abbrev pub top_trees : Super → Shown
top_trees s = bind (tree_shown (kind_in s) (named_root 1 (root_root s))) (λ u. tree_shown (kind_in s) (named_root 3 (chunk_root s)))

-- all trees: those, and then the tree of each ROOT_ITEM in the order of the keys
abbrev pub all_trees : Super → Shown
all_trees s = bind (top_trees s) (λ u. item_trees (kind_in s) (range first_key last_key (root_root s)))
