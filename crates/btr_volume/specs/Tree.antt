-- The roots of trees.
use Rattle.std.specs.Prelude.{ℕ, ◌-◌, ◌^◌, Bool, ◌&&◌, ◌==◌, if◌then◌else◌, Option, Some, None}
use Rattle.btr_base.specs.declared.key.Key.{Key}
use Rattle.btr_items.specs.RootItem.{root_item_of}
use Rattle.btr_items.specs.declared.root_item.RootItem.{RootItem}
use Rattle.btr_items.specs.Types.{root_item}
use Rattle.btr_prog.specs.Prog.{Return, bind}
use Rattle.btr_read.specs.declared.want.Want.{Want}
use Rattle.btr_read.specs.declared.want.Want.TheVariants.{Tree}
use Rattle.btr_super.specs.declared.superblock.Super.{Super}
use Rattle.btr_walk.specs.declared.place.RootPlace.{RootPlace}
use Rattle.btr_walk.specs.Le.{TreeItem, le}
use Rattle.btr_volume.specs.declared.root.TreeRoot.{TreeRoot}
use Rattle.btr_volume.specs.Lookup.{Lookup, formed}
use Rattle.btr_volume.specs.Table.{chunk_root}

-- the key of an item
abbrev pub key : ℕ → ℕ → ℕ → Key
key objectid kind offset = record { objectid = objectid; kind = kind; offset = offset }

-- the last offset that a key can have
abbrev pub last : ℕ
last = 2 ^ 64 - 1

-- the root block of the root tree
abbrev pub root_root : Super → RootPlace
root_root s = record { addr = s.root; generation = s.generation; level = s.root_level }

-- the same as it is sought
abbrev pub root_want : Super → Want
root_want s = Tree s.root s.generation s.root_level

-- a tree whose root the superblock names
abbrev pub named_root : ℕ → RootPlace → TreeRoot
named_root id place = record { id = id; offset = 0; place = place; dirid = 0; refs = 1 }

-- the root that a ROOT_ITEM of this key describes
abbrev pub described : Key → RootItem → TreeRoot
described key root = record {
  id = key.objectid;
  offset = key.offset;
  place = record { addr = root.bytenr; generation = root.generation; level = root.level };
  dirid = root.dirid;
  refs = root.refs;
}

-- a key is of a ROOT_ITEM of the tree of this id
abbrev pub is_root_of : ℕ → Key → Bool
is_root_of id key = (key.objectid == id) && (key.kind == root_item)

-- the root in what was found for an id: none where it is another one's item
abbrev pub root_found : ℕ → Option TreeItem → Lookup (Option TreeRoot)
root_found id None = Return None
root_found id (Some item) =
    if is_root_of id item.key then formed item (root_item_of item.body) (λ root. Return (Some (described item.key root))) else Return None

-- the root of the tree of an id in a root tree: the ROOT_ITEM with the greatest offset has it
abbrev pub root_in : RootPlace → ℕ → Lookup (Option TreeRoot)
root_in root id = bind (le root (key id root_item last)) (root_found id)

-- the root of the tree of an id: those of the root tree 1 and of the chunk tree 3 are the
-- superblock's, all others stand in the root tree
abbrev pub tree_of : Super → ℕ → Lookup (Option TreeRoot)
tree_of s id =
    if id == 1 then Return (Some (named_root 1 (root_root s)))
    else if id == 3 then Return (Some (named_root 3 (chunk_root s)))
    else root_in (root_root s) id
