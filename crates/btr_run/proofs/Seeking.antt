-- What is found by its key in a tree is met by a tour of the whole tree.
use Rattle.std.proofs.Common.{◌≡◌, ℕ, zero, suc, ◌-◌, ◌≤◌, ◌<◌, ◌&&◌, Bool, true, false, cond, List, [], ◌∷◌, ◌++◌, map, filter, flat_map}
use Rattle.std.proofs.Common.{Option, Some, None, Result, Ok, Err, refl, sym, ap, ◌∙◌, subst, arith}
use Rattle.std.specs.Prelude.{◌==◌, ◌^◌, Contains, if◌then◌else◌}
use Rattle.std.specs.List.{AllByRecursion}
use Rattle.std.specs.Option.{is_some, option_map}
use Rattle.std.proofs.lemmas.Bool.{le-leb, leb-true, lt-ltb, ltb-true}
use Rattle.std.proofs.lemmas.List.Elements.{All-contains, All-from_recursion, Contains-append_left, Contains-append_right, Contains-get_or}
use Rattle.btr_base.specs.Key.{key_le, key_lt, key_number, last_key}
use Rattle.btr_base.specs.declared.key.Key.{Key}
use Rattle.btr_node.proofs.Inners.{ascends-pointers}
use Rattle.btr_node.specs.Block.{Item as NodeItem, KeyPointer, ascends, pointers}
use Rattle.btr_node.specs.declared.node.Node.{Node}
use Rattle.btr_node.specs.declared.node.Node.TheVariants as node
use Rattle.btr_items.specs.RootItem.{root_item_of}
use Rattle.btr_items.specs.Types.{root_item}
use Rattle.btr_items.specs.declared.fault.ItemFault.{ItemFault}
use Rattle.btr_items.specs.declared.root_item.RootItem.{RootItem}
use Rattle.btr_prog.specs.Prog.{Mark, Return, Run, after, exec, given}
use Rattle.btr_prog.proofs.Runs.{exec-bind}
use Rattle.btr_read.specs.declared.want.Want.{Want}
use Rattle.btr_super.specs.declared.superblock.Super.{Super}
use Rattle.btr_volume.specs.Lookup.{formed}
use Rattle.btr_volume.specs.Table.{chunk_root}
use Rattle.btr_volume.specs.Tree.{described, key, last, named_root, root_found, root_in, root_root, tree_of}
use Rattle.btr_volume.specs.declared.root.TreeRoot.{TreeRoot}
use Rattle.btr_walk.specs.declared.place.RootPlace.{RootPlace}
use Rattle.btr_read.specs.Fate.{Fault}
use Rattle.btr_resolve.proofs.Linking.{items_then}
use Rattle.btr_tour.specs.Tour as tour
use Rattle.btr_tour.specs.Tour.{block_tour, child_pointers, child_tour, first_key, items_met, meets_keys, node_tour, tour_at, whole}
use Rattle.btr_walk.proofs.Ways.{inner_at}
use Rattle.btr_walk.specs.Le.{TreeItem, below, go_down, le_at, le_child, le_inner, le_item, le_leaf, le, or_here, root_pointer, tree_item, up_of, want_of}
use Rattle.btr_walk.specs.Range.{is_within}
use Rattle.btr_walk.specs.Reading.{Map}
use Rattle.btr_walk.specs.BlockPointer.{is_below, judged}
use Rattle.btr_walk.specs.declared.block_pointer.BlockPointer.{BlockPointer}

-- a filter keeps what is behind one element, and that one where it passes
kept_behind : {X Y : Type 0} (f : X → Y) (test : X → Bool) (x : X) (xs : List X) (y : Y) (b : Bool) → Contains (map f (filter test xs)) y
    → Contains (map f (cond b (x ∷ filter test xs) (filter test xs))) y
kept_behind f test x xs y true is = Contains-append_right (f x ∷ []) (map f (filter test xs)) y is
kept_behind f test x xs y false is = is

-- a filter keeps an element that passes
kept_here : {X Y : Type 0} (f : X → Y) (test : X → Bool) (x : X) (xs : List X) → test x ≡ true → Contains (map f (filter test (x ∷ xs))) (f x)
kept_here {X} {Y} f test x xs e =
    subst (λ b. Contains (map f (cond b (x ∷ filter test xs) (filter test xs))) (f x)) (sym e)
    (Contains-get_or (f x ∷ map f (filter test xs)) 0 (f x) (omega arith))

-- the items that a tour meets in the marks of some items are these
leaf_items : (items : List TreeItem) → items_met (map tour.Item items) ≡ items
leaf_items [] = refl
leaf_items (item ∷ items) = ap (λ l. item ∷ l) (leaf_items items)

module _ (key : Key) (bound : key_number key ≤ key_number last_key) where
  -- a key that isn't above this one isn't above the last key
  low : (other : Key) → key_le other key ≡ true → key_le other last_key ≡ true
  low other e =
      let le : key_number other ≤ key_number key = leb-true _ _ e in
      le-leb (key_number other) (key_number last_key) (omega arith)

  -- a key that isn't above this one is within the keys of a whole tree
  within : (other : Key) → key_le other key ≡ true → (key_le first_key other && key_le other last_key) ≡ true
  within other e = ap (λ b. b && key_le other last_key) (le-leb (key_number first_key) (key_number other) (omega arith)) ∙ low other e

  -- the item that a leaf has at the key or last below it is among those that a tour of the leaf meets
  item_met : (addr : ℕ) (xs : List NodeItem) (one : NodeItem) → le_item key xs ≡ Some one
      → Contains (map (tree_item addr) (filter (is_within first_key last_key) xs)) (tree_item addr one)
  item_met addr [] one e = let z : ⊥ = cc in absurd z
  item_met addr (x ∷ xs) one e = by (item_met addr xs one) (le_item key xs) refl (key_le x.key key) refl e
    where
      by : (le_item key xs ≡ Some one → Contains (map (tree_item addr) (filter (is_within first_key last_key) xs)) (tree_item addr one))
          → (o : Option NodeItem) → le_item key xs ≡ o → (b : Bool) → key_le x.key key ≡ b → or_here o b x ≡ Some one
          → Contains (map (tree_item addr) (filter (is_within first_key last_key) (x ∷ xs))) (tree_item addr one)
      by more (Some later) is b at e = kept_behind (tree_item addr) (is_within first_key last_key) x xs (tree_item addr one) _ (more (is ∙ e))
      by more None is true at e =
          let same : x ≡ one = cc in
          subst (λ (y : NodeItem). Contains (map (tree_item addr) (filter (is_within first_key last_key) (x ∷ xs))) (tree_item addr y)) same
          (kept_here (tree_item addr) (is_within first_key last_key) x xs (within x.key at))
      by more None is false at e = let z : ⊥ = cc in absurd z

  -- nothing is below the first key
  abbrev IsAbove : Option Key → Type 0
  IsAbove up = is_below up first_key ≡ true

  -- a key above another is above the first key
  behind : (one other : Key) → key_lt one other ≡ true → IsAbove (Some other)
  behind one other e =
      let lt : key_number one < key_number other = ltb-true _ _ e in
      lt-ltb (key_number first_key) (key_number other) (omega arith)

  -- the keys of some key pointers
  abbrev keys : List KeyPointer → List Key
  keys ps = map (λ (key_pointer : KeyPointer). key_pointer.key) ps

  -- where the keys ascend, the bound of the first child is above the first key
  next_above : (p : KeyPointer) (ps : List KeyPointer) (up : Option Key) → ascends (keys (p ∷ ps)) ≡ true → IsAbove up → IsAbove (up_of ps up)
  next_above p [] up e above = above
  next_above p (q ∷ ps) up e above = by (key_lt p.key q.key) refl e
    where
      by : (b : Bool) → key_lt p.key q.key ≡ b → (b && ascends (keys (q ∷ ps))) ≡ true → IsAbove (Some q.key)
      by true is e = behind p.key q.key is
      by false is e = let z : ⊥ = cc in absurd z

  -- where some keys ascend, those behind the first do
  rest_ascend : (b : Bool) (p : KeyPointer) (ps : List KeyPointer) → (b && ascends (keys ps)) ≡ true → ascends (keys ps) ≡ true
  rest_ascend true p ps e = e
  rest_ascend false p ps e = let z : ⊥ = cc in absurd z

  -- a child that leads to the key is one of a tour, and has a bound above the first key
  abbrev IsChild : List BlockPointer → BlockPointer → Type 0
  IsChild block_pointers child = Contains (filter (meets_keys first_key last_key) block_pointers) child × IsAbove child.up

  -- a child that is kept for a tour is kept behind one more, whether this is kept or not
  child_behind : (pointer : BlockPointer) (block_pointers : List BlockPointer) (child : BlockPointer) (b : Bool)
      → Contains (filter (meets_keys first_key last_key) block_pointers) child
      → Contains (cond b (pointer ∷ filter (meets_keys first_key last_key) block_pointers) (filter (meets_keys first_key last_key) block_pointers)) child
  child_behind pointer block_pointers child true is = Contains-append_right (pointer ∷ []) (filter (meets_keys first_key last_key) block_pointers) child is
  child_behind pointer block_pointers child false is = is

  -- a child whose key isn't above the key is kept for a tour
  child_here : (p : KeyPointer) (up : Option Key) (block_pointers : List BlockPointer) → key_le p.key key ≡ true → IsAbove up
      → IsChild (below p up ∷ block_pointers) (below p up)
  child_here p up block_pointers at above =
      let meets : (is_below up first_key && key_le p.key last_key) ≡ true = ap (λ b. b && key_le p.key last_key) above ∙ low p.key at in
      let rest = filter (meets_keys first_key last_key) block_pointers in (
        subst (λ b. Contains (cond b (below p up ∷ rest) rest) (below p up)) (sym meets) (Contains-get_or (below p up ∷ rest) 0 (below p up) (omega arith)),
        above,
      )

  -- the child that leads to the key is kept for a tour of the node
  child_met : (ps : List KeyPointer) (up : Option Key) (child : BlockPointer) → ascends (keys ps) ≡ true → IsAbove up → le_child key ps up ≡ Some child
      → IsChild (child_pointers ps up) child
  child_met [] up child asc above e = let z : ⊥ = cc in absurd z
  child_met (p ∷ ps) up child asc above e = by (child_met ps up child (rest_ascend _ p ps asc) above) (le_child key ps up) refl (key_le p.key key) refl e
    where
      by : (le_child key ps up ≡ Some child → IsChild (child_pointers ps up) child) → (o : Option BlockPointer) → le_child key ps up ≡ o
          → (b : Bool) → key_le p.key key ≡ b → or_here o b (below p (up_of ps up)) ≡ Some child
          → IsChild (child_pointers (p ∷ ps) up) child
      by more (Some later) is b at e =
          let rest = more (is ∙ e) in
          (child_behind (below p (up_of ps up)) (child_pointers ps up) child _ rest.0, rest.1)
      by more None is true at e =
          let same : below p (up_of ps up) ≡ child = cc in
          subst (IsChild (child_pointers (p ∷ ps) up)) same (child_here p (up_of ps up) (child_pointers ps up) at (next_above p ps up asc above))
      by more None is false at e = let z : ⊥ = cc in absurd z

  module _ (B : Map) (item : TreeItem) where
    -- the item is among those that some marks meet
    abbrev Meets : List tour.Mark → Type 0
    Meets marks = Contains (items_met marks) item

    -- what the tour of one child meets the tours of all children meet
    children_meet : (tours : BlockPointer → List tour.Mark) (addr level : ℕ) (block_pointers : List BlockPointer)
        → AllByRecursion (λ pointer. Meets (tours pointer) → Meets (flat_map (child_tour first_key last_key tours addr level) block_pointers)) block_pointers
    children_meet tours addr level [] = tt
    children_meet tours addr level (pointer ∷ block_pointers) =
        let rest = flat_map (child_tour first_key last_key tours addr level) block_pointers in
        let both = items_then (tours pointer) rest in (
          λ is. subst (λ (l : List TreeItem). Contains l item) (sym both) (Contains-append_left (items_met (tours pointer)) (items_met rest) item is),
          later rest both block_pointers (children_meet tours addr level block_pointers),
        )
      where
        later : (rest : List tour.Mark) → items_met (tours pointer ++ rest) ≡ items_met (tours pointer) ++ items_met rest → (others : List BlockPointer)
            → AllByRecursion (λ other. Meets (tours other) → Meets rest) others
            → AllByRecursion (λ other. Meets (tours other) → Meets (tours pointer ++ rest)) others
        later rest both [] all = tt
        later rest both (other ∷ others) all = (
          λ is. subst (λ (l : List TreeItem). Contains l item) (sym both) (Contains-append_right (items_met (tours pointer)) (items_met rest) item (all.0 is)),
          later rest both others all.1,
        )

    -- a search ends with the item
    abbrev Ends : (Result (Option TreeItem) Fault) → Type 0
    Ends result = result ≡ Ok (Some item)

    -- the item that a leaf has for the key is among its items within all keys
    leaf_ends : (addr : ℕ) (xs : List NodeItem) (o : Option NodeItem) → le_item key xs ≡ o → option_map (tree_item addr) o ≡ Some item
        → Contains (map (tree_item addr) (filter (is_within first_key last_key) xs)) item
    leaf_ends addr xs None is e = let z : ⊥ = cc in absurd z
    leaf_ends addr xs (Some one) is e =
        let same : tree_item addr one ≡ item = cc in
        subst (λ (y : TreeItem). Contains (map (tree_item addr) (filter (is_within first_key last_key) xs)) y) same (item_met addr xs one is)

    -- what a search finds in a leaf the tour of that leaf meets
    leaf_met : (pointer : BlockPointer) (block : List ℕ) (o : Option Node) → Ends (exec {S = ⊥} B (le_leaf key pointer o)).ending
        → Meets (node_tour first_key last_key (λ child. []) 0 pointer block o)
    leaf_met pointer block None e = let z : ⊥ = cc in absurd z
    leaf_met pointer block (Some (node.Leaf xs)) e =
        let found : option_map (tree_item pointer.addr) (le_item key xs) ≡ Some item = cc in
        subst (λ (l : List TreeItem). Contains l item) (sym (leaf_items _)) (leaf_ends pointer.addr xs (le_item key xs) refl found)
    leaf_met pointer block (Some (node.Inner ps)) e = let z : ⊥ = cc in absurd z

    -- what a search finds below one child the tours of the children meet, if the tour of that child does
    down_met : (n : ℕ) (block_pointers : List BlockPointer) (addr : ℕ) (o : Option BlockPointer)
        → ((child : BlockPointer) → IsAbove child.up → Ends (exec {S = ⊥} B (le_at n key child)).ending → Meets (tour_at first_key last_key B n child))
        → ((child : BlockPointer) → o ≡ Some child → IsChild block_pointers child) → Ends (exec {S = ⊥} B (go_down (le_at n key) o)).ending
        → Meets (flat_map (child_tour first_key last_key (tour_at first_key last_key B n) addr n) (filter (meets_keys first_key last_key) block_pointers))
    down_met n block_pointers addr None more is e = let z : ⊥ = cc in absurd z
    down_met n block_pointers addr (Some child) more is e =
        let one = is child refl in
        let passing = filter (meets_keys first_key last_key) block_pointers in
        let tours = tour_at first_key last_key B n in
        let P = λ (pointer : BlockPointer). Meets (tours pointer) → Meets (flat_map (child_tour first_key last_key tours addr n) passing) in
        All-contains P passing child (All-from_recursion P passing (children_meet tours addr n passing)) one.0 (more child one.1 e)

    -- what a search finds below a node the tour of that node meets, if those of its children do
    inner_met : (n : ℕ) (pointer : BlockPointer) (block : List ℕ) (o : Option Node) → judged (suc n) pointer block ≡ o → IsAbove pointer.up
        → ((child : BlockPointer) → IsAbove child.up → Ends (exec {S = ⊥} B (le_at n key child)).ending → Meets (tour_at first_key last_key B n child))
        → Ends (exec {S = ⊥} B (le_inner (le_at n key) key pointer o)).ending
        → Meets (node_tour first_key last_key (tour_at first_key last_key B n) (suc n) pointer block o)
    inner_met n pointer block None is above more e = let z : ⊥ = cc in absurd z
    inner_met n pointer block (Some (node.Leaf xs)) is above more e = let z : ⊥ = cc in absurd z
    inner_met n pointer block (Some (node.Inner ps)) is above more e =
        let at = inner_at (suc n) pointer block (ap is_some is) (λ e. absurd (omega (arith, e))) in
        let nodes : Some (node.Inner ps) ≡ Some (node.Inner (pointers block)) = sym is ∙ at.is in
        let same : ps ≡ pointers block = cc in
        let asc : ascends (keys ps) ≡ true = ap (λ l. ascends (keys l)) same ∙ ascends-pointers block at.good in
        let level : suc n - 1 ≡ n = omega arith in
        let passing = filter (meets_keys first_key last_key) (child_pointers ps pointer.up) in
        subst (λ (l : ℕ). Meets (flat_map (child_tour first_key last_key (tour_at first_key last_key B n) pointer.addr l) passing))
        (sym level)
        (down_met n (child_pointers ps pointer.up) pointer.addr (le_child key ps pointer.up) more
        (λ child found. child_met ps pointer.up child asc above found) e)

    -- a leaf that is sought in, whether its block can be had or not
    leaf_by : (pointer : BlockPointer) (r : Result (List ℕ) Fault)
        → Ends (given {S = ⊥} r (λ block. exec B (le_leaf key pointer (judged 0 pointer block)))).ending
        → Meets (block_tour first_key last_key (λ child. []) 0 pointer r)
    leaf_by pointer (Err f) e = let z : ⊥ = cc in absurd z
    leaf_by pointer (Ok block) e = leaf_met pointer block (judged 0 pointer block) e

    -- a node that is sought below, whether its block can be had or not
    inner_by : (n : ℕ) (pointer : BlockPointer) (r : Result (List ℕ) Fault) → IsAbove pointer.up
        → ((child : BlockPointer) → IsAbove child.up → Ends (exec {S = ⊥} B (le_at n key child)).ending → Meets (tour_at first_key last_key B n child))
        → Ends (given {S = ⊥} r (λ block. exec B (le_inner (le_at n key) key pointer (judged (suc n) pointer block)))).ending
        → Meets (block_tour first_key last_key (tour_at first_key last_key B n) (suc n) pointer r)
    inner_by n pointer (Err f) above more e = let z : ⊥ = cc in absurd z
    inner_by n pointer (Ok block) above more e = inner_met n pointer block (judged (suc n) pointer block) refl above more e

    -- what a search finds from a block on the tour from there on meets
    met_at : (n : ℕ) (pointer : BlockPointer) → IsAbove pointer.up → Ends (exec {S = ⊥} B (le_at n key pointer)).ending
        → Meets (tour_at first_key last_key B n pointer)
    met_at zero pointer above e = leaf_by pointer (B (want_of 0 pointer)) e
    met_at (suc n) pointer above e = inner_by n pointer (B (want_of (suc n) pointer)) above (met_at n) e

-- what is found by a key in a tree is met by a tour of the whole tree
found_whole : (B : Map) (root : RootPlace) (key : Key) (item : TreeItem) → key_number key ≤ key_number last_key
    → (exec {S = ⊥} B (le root key)).ending ≡ Ok (Some item) → Contains (items_met (whole B root)) item
found_whole B root key item bound e = met_at key bound B item root.level (root_pointer root) refl e

-- ---- the root of a tree

-- a run that ends with a value came to a value first, and ends as what goes on by that
ends_by : {A C : Type 0} (ms : List (Mark Want ⊥)) (r : Result A Fault) (k : A → Run Want Fault ⊥ C) (c : C) → (after ms r k).ending ≡ Ok c
    → (a : A) × (r ≡ Ok a) × ((k a).ending ≡ Ok c)
ends_by ms (Ok a) k c e = (a, refl, e)
ends_by ms (Err f) k c e = let z : ⊥ = cc in absurd z

-- an item has the root that a ROOT_ITEM describes
pub record HasRoot (item : TreeItem) (tree : TreeRoot) : Type 0 where
  pub kind : (item.key.kind == root_item) ≡ true
  pub fields : RootItem
  pub formed : root_item_of item.body ≡ Ok fields
  pub is : described item.key fields ≡ tree

-- where an item came to a tree, it has the root of that tree
root_by : (B : Map) (id : ℕ) (item : TreeItem) (a b : Bool) (r : Result RootItem ItemFault) (tree : TreeRoot) → (item.key.kind == root_item) ≡ b
    → root_item_of item.body ≡ r
    → (exec {S = ⊥} B (if a && b then formed item r (λ root. Return (Some (described item.key root))) else Return None)).ending ≡ Ok (Some tree)
    → HasRoot item tree
root_by B id item true true (Ok fields) tree kind form e = record { kind = kind; fields = fields; formed = form; is = cc }
root_by B id item true true (Err fault) tree kind form e = let z : ⊥ = cc in absurd z
root_by B id item true false r tree kind form e = let z : ⊥ = cc in absurd z
root_by B id item false b r tree kind form e = let z : ⊥ = cc in absurd z

-- where a search for a tree's root came to a tree, it found an item that has its root
root_of : (B : Map) (id : ℕ) (o : Option TreeItem) (tree : TreeRoot) → (exec {S = ⊥} B (root_found id o)).ending ≡ Ok (Some tree)
    → (item : TreeItem) × (o ≡ Some item) × HasRoot item tree
root_of B id None tree e = let z : ⊥ = cc in absurd z
root_of B id (Some item) tree e =
    (item, refl, root_by B id item (item.key.objectid == id) (item.key.kind == root_item) (root_item_of item.body) tree refl refl e)

-- a key that the root of a tree is sought by isn't above the last key
in_tree : (id : ℕ) → id < 2 ^ 64 → key_number (key id root_item last) ≤ key_number last_key
in_tree id below = omega arith

-- the root of a tree that a lookup finds is one of the superblock's, or that of a ROOT_ITEM of the root tree
pub data Stands (B : Map) (sup : Super) (tree : TreeRoot) : Type 0 where
  IsRootTree : tree ≡ named_root 1 (root_root sup) → Stands B sup tree
  IsChunkTree : tree ≡ named_root 3 (chunk_root sup) → Stands B sup tree
  IsListed : (item : TreeItem) → Contains (items_met (whole B (root_root sup))) item → HasRoot item tree → Stands B sup tree

-- a tree that is found by its id in the root tree has a root that stands there
listed_stands : (B : Map) (sup : Super) (id : ℕ) (tree : TreeRoot) → id < 2 ^ 64 → (exec {S = ⊥} B (root_in (root_root sup) id)).ending ≡ Ok (Some tree)
    → Stands B sup tree
listed_stands B sup id tree below e =
    let found = exec {S = ⊥} B (le (root_root sup) (key id root_item last)) in
    let run = ap (λ (r : Run Want Fault ⊥ (Option TreeRoot)). r.ending) (sym (exec-bind B (le (root_root sup) (key id root_item last)) (root_found id))) ∙ e in
    let by = ends_by found.marks found.ending (λ o. exec B (root_found id o)) (Some tree) run in
    let root = root_of B id by.0 tree by.2 in
    IsListed root.0 (found_whole B (root_root sup) (key id root_item last) root.0 (in_tree id below) (by.1 ∙ ap Ok root.1)) root.2

-- so has each that is found by its id, be it the root tree, the chunk tree or another
stands_by : (B : Map) (sup : Super) (id : ℕ) (tree : TreeRoot) (a b : Bool) → id < 2 ^ 64
    → (exec {S = ⊥} B (if a then Return (Some (named_root 1 (root_root sup))) else if b then Return (Some (named_root 3 (chunk_root sup)))
    else root_in (root_root sup) id)).ending
    ≡ Ok (Some tree) → Stands B sup tree
stands_by B sup id tree true b below e = IsRootTree cc
stands_by B sup id tree false true below e = IsChunkTree cc
stands_by B sup id tree false false below e = listed_stands B sup id tree below e

-- the root of a tree that is found by its id is one that the filesystem has
pub tree_stands : (B : Map) (sup : Super) (id : ℕ) (tree : TreeRoot) → id < 2 ^ 64
    → (exec {S = ⊥} B (tree_of sup id)).ending ≡ Ok (Some tree) → Stands B sup tree
tree_stands B sup id tree below e = stands_by B sup id tree (id == 1) (id == 3) below e
