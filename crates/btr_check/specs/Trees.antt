-- The trees of a filesystem, and what reaches their blocks.
use Rattle.std.specs.Prelude.{ℕ, ◌==◌, ◌&&◌, not, Bool, bit_and, List, [], ◌∷◌, ◌++◌, map, Option, Some, None, filter_map, flat_map, option_map, if◌then◌else◌}
use Rattle.std.specs.List.{list_any}
use Rattle.std.specs.Ordering.{is_eq, nat_cmp, ordering_then}
use Rattle.std.specs.declared.cmp.Ordering.{Ordering}
use Rattle.std.specs.Result.{result_ok}
use Rattle.btr_base.specs.declared.key.Key.{Key}
use Rattle.btr_items.specs.RootItem.{root_item_of}
use Rattle.btr_items.specs.Types.{root_item}
use Rattle.btr_super.specs.declared.superblock.Super.{Super}
use Rattle.btr_walk.specs.declared.place.RootPlace.{RootPlace}
use Rattle.btr_walk.specs.Le.{TreeItem, or_here}
use Rattle.btr_walk.specs.Reading.{Map}
use Rattle.btr_tour.specs.Tour.{Reached, whole, items_met, blocks_met}
use Rattle.btr_volume.specs.declared.root.TreeRoot.{TreeRoot}
use Rattle.btr_volume.specs.Table.{chunk_root}
use Rattle.btr_volume.specs.Tree.{root_root, named_root, described}
use Rattle.btr_check.specs.declared.places.BlockId.{BlockId}
use Rattle.btr_findings.specs.declared.extent.Extent.{Extent}
use Rattle.btr_refs.specs.Forward.{Use, root_use, block_uses}

-- the root tree, whose root the superblock has
abbrev pub root_tree : Super → TreeRoot
root_tree sup = named_root 1 (root_root sup)

-- the chunk tree, whose root the superblock has
abbrev pub chunk_tree : Super → TreeRoot
chunk_tree sup = named_root 3 (chunk_root sup)

-- the tree of a ROOT_ITEM
abbrev pub tree_in : Key → List ℕ → Option TreeRoot
tree_in key body = if key.kind == root_item then option_map (described key) (result_ok (root_item_of body)) else None

-- the tree that an item is a ROOT_ITEM of, if it is one
abbrev pub tree_of_item : TreeItem → Option TreeRoot
tree_of_item item = tree_in item.key item.body

-- the items of a whole tree
abbrev pub items_in : Map → TreeRoot → List TreeItem
items_in B tree = items_met (whole B tree.place)

-- the same, where there is a tree
abbrev pub items_if : Map → Option TreeRoot → List TreeItem
items_if B None = []
items_if B (Some tree) = items_in B tree

-- the last one of some trees that has an id
abbrev pub last_of : ℕ → List TreeRoot → Option TreeRoot
last_of id [] = None
last_of id (tree ∷ trees) = or_here (last_of id trees) (tree.id == id) tree

module _ (sup : Super) (B : Map) where
  -- the trees of the root tree's ROOT_ITEMs, in the order of their keys
  abbrev pub listed : List TreeRoot
  listed = filter_map tree_of_item (items_in B (root_tree sup))

  -- all trees
  abbrev pub trees : List TreeRoot
  trees = chunk_tree sup ∷ root_tree sup ∷ listed

  -- the tree of an id that a ROOT_ITEM has
  abbrev pub tree_of : ℕ → Option TreeRoot
  tree_of id = last_of id listed

  -- the items of the tree of an id, or none where there is no such tree
  abbrev pub items_of : ℕ → List TreeItem
  items_of id = items_if B (tree_of id)

-- where a block stands, by which blocks are told apart
abbrev pub place_of : RootPlace → BlockId
place_of root = record { addr = root.addr; generation = root.generation; level = root.level }

-- blocks are ordered by address, then generation, then level
abbrev pub place_cmp : BlockId → BlockId → Ordering
place_cmp a b = ordering_then (nat_cmp a.addr b.addr) (ordering_then (nat_cmp a.generation b.generation) (nat_cmp a.level b.level))

-- a block stands at one of some places
abbrev pub is_among : List BlockId → BlockId → Bool
is_among places one = list_any (λ other. is_eq (place_cmp one other)) places

-- of some blocks those that weren't met before, each once
abbrev pub first_met : List BlockId → List Reached → List Reached
first_met before [] = []
first_met before (one ∷ more) = if is_among before (place_of one.place) then first_met before more else one ∷ first_met (place_of one.place ∷ before) more

-- the blocks of all trees, each once however many trees reach it
abbrev pub reached : Super → Map → List Reached
reached sup B = first_met [] (flat_map (λ (tree : TreeRoot). blocks_met (whole B tree.place)) (trees sup B))

-- the flag of extents whose blocks refer by their own address
abbrev pub is_full_backref : Extent → Bool
is_full_backref extent = not (bit_and extent.flags 0x100 == 0)

-- the block at an address refers by it
abbrev pub refers_by_address : List Extent → ℕ → Bool
refers_by_address extents addr = list_any (λ (extent : Extent). (extent.addr == addr) && is_full_backref extent) extents

-- what a block uses; it refers by its address where an extent at that address says so
abbrev pub uses_of : List Extent → Reached → List Use
uses_of extents from = block_uses (refers_by_address extents from.place.addr) from.place.addr from.place.level from.block

-- all uses: of the trees' root blocks, and by the blocks
abbrev pub uses : Super → Map → List Extent → List Use
uses sup B extents = map root_use (trees sup B) ++ flat_map (uses_of extents) (reached sup B)
