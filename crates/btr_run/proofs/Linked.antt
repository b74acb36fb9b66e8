-- Each owner's extent is among what all trees use.
use Rattle.std.proofs.Common.{◌≡◌, Bool, true, false, ◌||◌, ◌⊎◌, inl, inr, List, [], ◌∷◌, map, filter_map, flat_map}
use Rattle.std.proofs.Common.{Option, Some, None, Ok, if◌then◌else◌, refl, sym, ap, ◌∙◌, subst, arith}
use Rattle.std.specs.Prelude.{Contains}
use Rattle.std.specs.List.{AllByRecursion, cons_option}
use Rattle.std.specs.Option.{option_map}
use Rattle.std.specs.Result.{result_ok}
use Rattle.std.specs.Ordering.{is_eq, nat_cmp}
use Rattle.std.specs.declared.cmp.Ordering.{Ordering}
use Rattle.std.specs.declared.cmp.Ordering.TheVariants.{Less, Equal, Greater}
use Rattle.std.proofs.lemmas.List.Elements.{All-contains, All-contains_itself, All-from_recursion, All-weaker, Contains-append_right, Contains-get_or}
use Rattle.std.proofs.lemmas.Map.Lookups.{exact_unsigned}
use Rattle.btr_check.proofs.There.{first_there, trees_there}
use Rattle.btr_check.specs.Counting.{IsBlock}
use Rattle.btr_check.specs.Trees.{chunk_tree, first_met, is_among, listed, place_cmp, place_of, reached, refers_by_address}
use Rattle.btr_check.specs.Trees.{root_tree, tree_of_item, trees, uses, uses_of}
use Rattle.btr_check.specs.declared.places.BlockId.{BlockId}
use Rattle.btr_items.specs.RootItem.{root_item_of}
use Rattle.btr_read.specs.declared.want.Want.TheVariants.{Tree}
use Rattle.btr_findings.proofs.Sets.{both_equal}
use Rattle.btr_findings.specs.declared.extent.Extent.{Extent}
use Rattle.btr_refs.specs.Forward.{Use, block_uses, root_use}
use Rattle.btr_resolve.proofs.Linking.{given_by, owners_linked, weaker}
use Rattle.btr_resolve.specs.Links.{HasUsesOf}
use Rattle.btr_super.specs.declared.superblock.Super.{Super}
use Rattle.btr_tour.specs.Tour.{Reached, blocks_met, items_met, whole}
use Rattle.btr_volume.specs.Tree.{described, root_root}
use Rattle.btr_volume.specs.declared.root.TreeRoot.{TreeRoot}
use Rattle.btr_walk.specs.Le.{TreeItem}
use Rattle.btr_walk.specs.Reading.{Map}
use Rattle.btr_run.proofs.Seeking.{HasRoot, IsChunkTree, IsListed, IsRootTree, Stands, tree_stands}
use Rattle.btr_run.specs.Linked.{OwnersCounted}

-- what an element gives is among what all give
among : {X Y : Type 0} (f : X → List Y) (xs : List X) (x : X) (y : Y) → Contains xs x → Contains (f x) y → Contains (flat_map f xs) y
among {X} {Y} f xs x y here there =
    let P = λ (z : X). (w : Y) → Contains (f z) w → Contains (flat_map f xs) w in
    All-contains P xs x (All-from_recursion P xs (given_by f xs)) here y there

-- ---- of blocks that are met first, each place has one

-- what tests as equal is equal
is_equal : (o : Ordering) → is_eq o ≡ true → o ≡ Equal
is_equal Less e = let z : ⊥ = cc in absurd z
is_equal Equal e = refl
is_equal Greater e = let z : ⊥ = cc in absurd z

-- places that compare as equal are one
same_place : (a b : BlockId) → is_eq (place_cmp a b) ≡ true → a ≡ b
same_place a b e =
    let addr = both_equal (nat_cmp a.addr b.addr) _ (is_equal (place_cmp a b) e) in
    let rest = both_equal (nat_cmp a.generation b.generation) (nat_cmp a.level b.level) addr.1 in
    let is-addr : a.addr ≡ b.addr = exact_unsigned a.addr b.addr addr.0 in
    let is-generation : a.generation ≡ b.generation = exact_unsigned a.generation b.generation rest.0 in
    let is-level : a.level ≡ b.level = exact_unsigned a.level b.level rest.1 in
    λ i. record { addr = is-addr i; generation = is-generation i; level = is-level i }

-- a block's place was met before, or is that of one of some blocks
abbrev IsMet : List BlockId → List Reached → Reached → Type 0
IsMet before firsts one =
    (is_among before (place_of one.place) ≡ true) ⊎ ((other : Reached) × Contains firsts other × (place_of other.place ≡ place_of one.place))

-- a block where one stands, or where some were met before, is met, if that one is among the first
met_later : (before : List BlockId) (one : Reached) (firsts : List Reached) (x : Reached) (b : Bool)
    → is_eq (place_cmp (place_of x.place) (place_of one.place)) ≡ b
    → (b || is_among before (place_of x.place)) ≡ true → IsMet before (one ∷ firsts) x
met_later before one firsts x true is e =
    inr (one, Contains-get_or (one ∷ firsts) 0 one (omega arith), sym (same_place (place_of x.place) (place_of one.place) is))
met_later before one firsts x false is e = inl e

-- what is met once one block was met before is met where that block is among the first
met_behind : (before : List BlockId) (one : Reached) (firsts : List Reached) (x : Reached) → IsMet (place_of one.place ∷ before) firsts x
    → IsMet before (one ∷ firsts) x
met_behind before one firsts x (inl e) = met_later before one firsts x _ refl e
met_behind before one firsts x (inr other) = inr (other.0, Contains-append_right (one ∷ []) firsts other.0 other.1, other.2)

-- each block stands where one was met before, or where one stands that is met first
all_met : (before : List BlockId) (all : List Reached) → AllByRecursion (IsMet before (first_met before all)) all
all_met before [] = tt
all_met before (one ∷ more) =
    by (is_among before (place_of one.place)) refl (all_met before more) (all_met (place_of one.place ∷ before) more)
  where
    firsts : List Reached
    firsts = first_met (place_of one.place ∷ before) more

    by : (b : Bool) → is_among before (place_of one.place) ≡ b → AllByRecursion (IsMet before (first_met before more)) more
        → AllByRecursion (IsMet (place_of one.place ∷ before) firsts) more
        → AllByRecursion (IsMet before (if b then first_met before more else one ∷ firsts)) (one ∷ more)
    by true is old new = (inl is, old)
    by false is old new = (
      inr (one, Contains-get_or (one ∷ firsts) 0 one (omega arith), refl),
      weaker (IsMet (place_of one.place ∷ before) firsts) (IsMet before (one ∷ firsts)) (met_behind before one firsts) more new,
    )

-- ---- two blocks at one place are one

module _ (B : Map) (extents : List Extent) where
  -- two blocks that the map has at one place use the same extents
  same_uses : (a b : Reached) → place_of a.place ≡ place_of b.place → IsBlock B a.place a.block → IsBlock B b.place b.block
      → uses_of extents a ≡ uses_of extents b
  same_uses a b same is-a is-b =
      let fates = ap (λ (p : BlockId). B (Tree p.addr p.generation p.level)) same in
      let oks : Ok a.block ≡ Ok b.block = sym is-a ∙ fates ∙ is-b in
      let bytes : a.block ≡ b.block = cc in
      ap (λ (p : BlockId). block_uses (refers_by_address extents p.addr) p.addr p.level a.block) same
      ∙ ap (block_uses (refers_by_address extents b.place.addr) b.place.addr b.place.level) bytes

-- ---- the owners of an address in one of the trees

module _ (sup : Super) (B : Map) (extents : List Extent) (tree : TreeRoot) (is : Contains (trees sup B) tree) where
  -- the blocks that are met in one tree
  abbrev blocks_of : TreeRoot → List Reached
  blocks_of one = blocks_met (whole B one.place)

  -- the blocks that are met in all trees
  abbrev all_blocks : List Reached
  all_blocks = flat_map blocks_of (trees sup B)

  -- of these each place's first
  abbrev reached_first : List Reached
  reached_first = reached sup B

  -- a block that is met in a tree is the one that the map has at its place
  there : (one : Reached) → Contains all_blocks one → IsBlock B one.place one.block
  there one = All-contains (λ (x : Reached). IsBlock B x.place x.block) all_blocks one
      (All-from_recursion (λ (x : Reached). IsBlock B x.place x.block) all_blocks (trees_there B (trees sup B)))

  -- so is each that is met first
  firsts_there : (one : Reached) → Contains reached_first one → IsBlock B one.place one.block
  firsts_there one = All-contains (λ (x : Reached). IsBlock B x.place x.block) reached_first one
      (All-from_recursion (λ (x : Reached). IsBlock B x.place x.block) reached_first (first_there B [] all_blocks (trees_there B (trees sup B))))

  -- what a block of the trees uses is among all uses, if one that is met first stands at its place
  used_by_all : (leaf : Reached) (one : Use) → Contains all_blocks leaf → Contains (uses_of extents leaf) one → IsMet [] reached_first leaf
      → Contains (uses sup B extents) one
  used_by_all leaf one here link (inl e) = let z : ⊥ = cc in absurd z
  used_by_all leaf one here link (inr other) =
      let same = same_uses B extents other.0 leaf other.2 (firsts_there other.0 other.1) (there leaf here) in
      Contains-append_right (map root_use (trees sup B)) (flat_map (uses_of extents) reached_first) one
      (among (uses_of extents) reached_first other.0 one other.1 (subst (λ (us : List Use). Contains us one) (sym same) link))

  -- among all uses are those of each block of the tree
  leaf_has : (leaf : Reached) → Contains (blocks_of tree) leaf → HasUsesOf (refers_by_address extents) (uses sup B extents) leaf
  leaf_has leaf met =
      let here : Contains all_blocks leaf = among blocks_of (trees sup B) tree leaf is met in
      let first = All-contains (IsMet [] reached_first) all_blocks leaf (All-from_recursion (IsMet [] reached_first) all_blocks (all_met [] all_blocks)) here in
      All-weaker (Contains (uses_of extents leaf)) (Contains (uses sup B extents)) (λ one link. used_by_all leaf one here link first) (uses_of extents leaf)
      (All-contains_itself (uses_of extents leaf))

-- ---- a tree that is found by its id is one of them

-- an item that has the root of a tree is read as that tree
from_item : (item : TreeItem) (tree : TreeRoot) → HasRoot item tree → tree_of_item item ≡ Some tree
from_item item tree root =
    ap (λ b. if b then option_map (described item.key) (result_ok (root_item_of item.body)) else None) root.kind
    ∙ ap (λ r. option_map (described item.key) (result_ok r)) root.formed
    ∙ ap Some root.is

-- a tree that one of some items is read as is among those that they all are read as
filtered : (xs : List TreeItem) → AllByRecursion (λ item. (tree : TreeRoot) → tree_of_item item ≡ Some tree → Contains (filter_map tree_of_item xs) tree) xs
filtered [] = tt
filtered (item ∷ xs) = (here, later (tree_of_item item) xs (filtered xs))
  where
    here : (tree : TreeRoot) → tree_of_item item ≡ Some tree → Contains (filter_map tree_of_item (item ∷ xs)) tree
    here tree e = subst (λ (o : Option TreeRoot). Contains (cons_option o (filter_map tree_of_item xs)) tree) (sym e)
        (Contains-get_or (tree ∷ filter_map tree_of_item xs) 0 tree (omega arith))

    behind : (o : Option TreeRoot) (ys : List TreeRoot) (tree : TreeRoot) → Contains ys tree → Contains (cons_option o ys) tree
    behind None ys tree is = is
    behind (Some other) ys tree is = Contains-append_right (other ∷ []) ys tree is

    later : (o : Option TreeRoot) (others : List TreeItem)
        → AllByRecursion (λ one. (tree : TreeRoot) → tree_of_item one ≡ Some tree → Contains (filter_map tree_of_item xs) tree) others
        → AllByRecursion (λ one. (tree : TreeRoot) → tree_of_item one ≡ Some tree → Contains (cons_option o (filter_map tree_of_item xs)) tree) others
    later o others all = weaker (λ (one : TreeItem). (tree : TreeRoot) → tree_of_item one ≡ Some tree → Contains (filter_map tree_of_item xs) tree)
        (λ (one : TreeItem). (tree : TreeRoot) → tree_of_item one ≡ Some tree → Contains (cons_option o (filter_map tree_of_item xs)) tree)
        (λ one h tree e. behind o (filter_map tree_of_item xs) tree (h tree e)) others all

-- a tree whose item is met in the root tree is listed
is_listed : (sup : Super) (B : Map) (item : TreeItem) (tree : TreeRoot) → Contains (items_met (whole B (root_root sup))) item → HasRoot item tree
    → Contains (listed sup B) tree
is_listed sup B item tree is root =
    let items = items_met (whole B (root_root sup)) in
    let P = λ (one : TreeItem). (other : TreeRoot) → tree_of_item one ≡ Some other → Contains (filter_map tree_of_item items) other in
    All-contains P items item (All-from_recursion P items (filtered items)) is tree (from_item item tree root)

-- a tree that stands in the filesystem is one of all trees
is_tree : (sup : Super) (B : Map) (tree : TreeRoot) → Stands B sup tree → Contains (trees sup B) tree
is_tree sup B tree (IsChunkTree e) = subst (Contains (trees sup B)) (sym e) (Contains-get_or (trees sup B) 0 (chunk_tree sup) (omega arith))
is_tree sup B tree (IsRootTree e) = subst (Contains (trees sup B)) (sym e)
    (Contains-append_right (chunk_tree sup ∷ []) (root_tree sup ∷ listed sup B) (root_tree sup)
    (Contains-get_or (root_tree sup ∷ listed sup B) 0 (root_tree sup) (omega arith)))
is_tree sup B tree (IsListed item is root) =
    Contains-append_right (chunk_tree sup ∷ root_tree sup ∷ []) (listed sup B) tree (is_listed sup B item tree is root)

-- each owner that `logical-resolve` tells is among the references that a check counts
pub owners_counted : OwnersCounted
owners_counted sup B extents id tree addr below found =
    let is = is_tree sup B tree (tree_stands B sup id tree below found) in
    let blocks = blocks_met (whole B tree.place) in
    owners_linked B tree (refers_by_address extents) addr (uses sup B extents)
    (All-weaker (Contains blocks) (HasUsesOf (refers_by_address extents) (uses sup B extents)) (leaf_has sup B extents tree is) blocks
    (All-contains_itself blocks))
