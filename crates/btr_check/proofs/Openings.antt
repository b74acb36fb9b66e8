-- Blocks that are opened, and what is walked below them.
use Rattle.std.proofs.Common.{◌≡◌, ℕ, zero, suc, ◌-◌, Bool, true, false, ◌&&◌, ◌+◌, ◌<◌, ◌≤◌, List, [], ◌∷◌, ◌++◌, length, take, take_all, get_or, drop}
use Rattle.std.proofs.Common.{append-nil, cond, if◌then◌else◌, fold, filter, flat_map, map, Option, Some, None, Result, Ok, Err, arith}
use Rattle.std.proofs.Common.{refl, sym, ap, ◌∙◌, subst}
use Rattle.std.proofs.lemmas.List.{map-append, take_more}
use Rattle.std.proofs.lemmas.List.Elements.{filter-append}
use Rattle.std.proofs.lemmas.List.Sums.{fold-append}
use Rattle.std.specs.Bool.{⊤}
use Rattle.std.specs.List.{cons_option}
use Rattle.btr_base.specs.Key.{last_key}
use Rattle.btr_base.specs.declared.key.Key.{Key}
use Rattle.btr_node.specs.Block.{Item as NodeItem, KeyPointer, items, pointers}
use Rattle.btr_node.specs.declared.node.Node.TheVariants.{Leaf, Inner}
use Rattle.btr_read.specs.Fate as fate
use Rattle.btr_read.specs.Store.{Blocks}
use Rattle.btr_read.specs.declared.want.Want.{Want}
use Rattle.btr_tour.specs.Tour.{Mark, Block, Item, Left, first_key, child_pointers, child_tour, meets_keys, node_tour, block_tour, tour_at, place_of}
use Rattle.btr_volume.specs.declared.stop.Stop.{Stop}
use Rattle.btr_walk.specs.declared.fault.TreeFault.{TreeFault}
use Rattle.btr_walk.specs.declared.fault.TreeFault.TheVariants as tree
use Rattle.btr_walk.specs.declared.block_pointer.BlockPointer.{BlockPointer}
use Rattle.btr_walk.specs.declared.found.Found.{Found}
use Rattle.btr_walk.specs.Le.{TreeItem, below, tree_item, up_of, want_of}
use Rattle.btr_walk.specs.Range.{is_within, items_within}
use Rattle.btr_walk.specs.Showing.{item_of}
use Rattle.btr_tour.proofs.Seeking.{length-block_pointers, some_item, some_pointer, some_block_pointer, child_pointer_at}
use Rattle.btr_walk.specs.Reading.{Map, UnreadBlock, Reads}
use Rattle.btr_walk.specs.BlockPointer.{judged}
use Rattle.btr_check.specs.declared.block_fault.BlockFault.{BlockFault}
use Rattle.btr_check.specs.declared.block_fault.BlockFault.TheVariants as block
use Rattle.btr_check.specs.declared.opening.Opened.{Opened}
use Rattle.btr_check.specs.declared.opening.Opened.TheVariants.{Whole, Children}
use Rattle.btr_check.specs.declared.subtrees.Edges.{Edges}
use Rattle.btr_check.specs.declared.walk.FileRange.{FileRange}
use Rattle.btr_check.specs.Before.{block_fault, left_by}
use Rattle.btr_check.specs.Filesystem.{Filesystem}
use Rattle.btr_check.specs.Passing.{Known, Opens, OpensGood, Walked, Walks, children_marks, edge_of, edges_of, joined, subtree_marks, with_if, WalksItem}
use Rattle.btr_check.specs.Passing.{WalksItems, IsAbove, IsSubtreeKept, Keeps, Passes, kept_if}
use Rattle.btr_check.specs.Running.{World, CanCheck, Ran, StopsOutside, filesystem, is_outside}
use Rattle.btr_check.specs.Walking.{WalkSeen, is_nothing, walk_step}
use Rattle.btr_check.specs.Walks.{range_of, ranges_met}
use Rattle.btr_check.proofs.Passes.{ran_memory, ran_no_memory}
use Rattle.btr_check.proofs.Passing.{knows_on, marks_edges, walked_block, walked_kept, walked_more, walked_passed}
use Rattle.btr_check.proofs.Runs.{ran_none, ran_value}

module _ (B : Map) (pointer : BlockPointer) where
  -- where a want comes to a fault, the tour meets just this, that the block is left out
  left_marks : (level : ℕ) (fault : fate.Fault) → B (want_of level pointer) ≡ Err fault → tour_at first_key last_key B level pointer ≡ Left fault ∷ []
  left_marks zero fault is = ap (block_tour first_key last_key (λ child. []) 0 pointer) is
  left_marks (suc n) fault is = ap (block_tour first_key last_key (tour_at first_key last_key B n) (suc n) pointer) is

  -- where a block is malformed, the tour meets just this, that it is left out
  malformed_marks : (level : ℕ) (block : List ℕ) → B (want_of level pointer) ≡ Ok block → judged level pointer block ≡ None
      → tour_at first_key last_key B level pointer ≡ Left (fate.Malformed pointer.addr) ∷ []
  malformed_marks zero block is none =
      ap (block_tour first_key last_key (λ child. []) 0 pointer) is ∙ ap (node_tour first_key last_key (λ child. []) 0 pointer block) none
  malformed_marks (suc n) block is none =
      ap (block_tour first_key last_key (tour_at first_key last_key B n) (suc n) pointer) is
      ∙ ap (node_tour first_key last_key (tour_at first_key last_key B n) (suc n) pointer block) none

  -- of a good leaf the tour meets the block, and then its items
  leaf_marks : (level : ℕ) (block : List ℕ) → level ≡ 0 → B (want_of level pointer) ≡ Ok block → judged level pointer block ≡ Some (Leaf (items block))
      → tour_at first_key last_key B level pointer
      ≡ Block (place_of level pointer) block ∷ map Item (items_within first_key last_key pointer.addr (items block))
  leaf_marks zero block low is good =
      ap (block_tour first_key last_key (λ child. []) 0 pointer) is ∙ ap (node_tour first_key last_key (λ child. []) 0 pointer block) good
  leaf_marks (suc n) block low is good = absurd (omega (arith, low))

  -- what the tour meets below a good node
  abbrev below_node : ℕ → List ℕ → ℕ → List Mark
  below_node level block n = flat_map (child_tour first_key last_key (tour_at first_key last_key B n) pointer.addr (level - 1))
      (filter (meets_keys first_key last_key) (child_pointers (pointers block) pointer.up))

  -- of a good node the tour meets the block, and then what is below it
  inner_marks : (level : ℕ) (block : List ℕ) → (level ≡ 0 → ⊥) → B (want_of level pointer) ≡ Ok block → judged level pointer block
      ≡ Some (Inner (pointers block))
      → tour_at first_key last_key B level pointer ≡ Block (place_of level pointer) block ∷ below_node level block (level - 1)
  inner_marks zero block high is good = absurd (high refl)
  inner_marks (suc n) block high is good =
      let same : n ≡ suc n - 1 = omega arith in
      ap (block_tour first_key last_key (tour_at first_key last_key B n) (suc n) pointer) is
      ∙ ap (node_tour first_key last_key (tour_at first_key last_key B n) (suc n) pointer block) good
      ∙ ap (λ m. Block (place_of (suc n) pointer) block ∷ below_node (suc n) block m) same

-- the children that are to come
abbrev pub AreChildren : Opened → List BlockPointer → Type 0
AreChildren (Whole edges) block_pointers = ⊥
AreChildren (Children all) block_pointers = block_pointers ≡ all.items

module _ (fs : Filesystem) (level : ℕ) (pointer : BlockPointer) (old new : WalkSeen) where
  -- a block that is left out is all that was walked there, and has no edges
  opens_left : (fault : fate.Fault) → subtree_marks fs level pointer ≡ Left fault ∷ [] → new ≡ walk_step old (Left fault)
      → Opens fs level pointer old new (Whole None)
  opens_left fault marks is = (is ∙ sym (ap (fold walk_step old) marks), sym (ap (λ m. edges_of (ranges_met m)) marks))

  some_is : {X : Type 0} (a b : X) → Some a ≡ Some b → a ≡ b
  some_is a b e = cc

  -- a block that is left out
  pub opens_fault : (Is : UnreadBlock → Want → Type 0) (store : Blocks) (f : TreeFault) (left : BlockFault) → block_fault f ≡ Some left
      → Reads Is fs.blocks level pointer store (Err f) → ((g : fate.Fault) → left_by g ≡ Some left → new ≡ walk_step old (Left g))
      → Opens fs level pointer old new (Whole None)
  opens_fault Is store (tree.Lost a) left e reads is = opens_left (fate.Lost a) (left_marks fs.blocks pointer level (fate.Lost a) reads) (is (fate.Lost a) e)
  opens_fault Is store (tree.Unread a slot) left e reads is = cc
  opens_fault Is store (tree.Unmapped a) left e reads is =
      opens_left (fate.Unmapped a) (left_marks fs.blocks pointer level (fate.Unmapped a) reads) (is (fate.Unmapped a) e)
  opens_fault Is store (tree.Crosses a) left e reads is =
      opens_left (fate.Crosses a) (left_marks fs.blocks pointer level (fate.Crosses a) reads) (is (fate.Crosses a) e)
  opens_fault Is store (tree.Malformed a) left e reads is =
      opens_left (fate.Malformed pointer.addr) (malformed_marks fs.blocks pointer level reads.1.0 reads.1.1 reads.1.2)
      (is (fate.Malformed pointer.addr) (ap (λ addr. Some (block.Malformed addr)) (sym reads.0) ∙ e))

  -- a good block
  pub opens_good : (bytes : List ℕ) (opened : Opened) → fs.blocks (want_of level pointer) ≡ Ok bytes
      → (level ≡ 0 → judged level pointer bytes ≡ Some (Leaf (items bytes))) → ((level ≡ 0 → ⊥) → judged level pointer bytes ≡ Some (Inner (pointers bytes)))
      → IsAbove level opened → OpensGood level pointer bytes old new opened → Opens fs level pointer old new opened
  opens_good bytes (Whole edges) came leaf inner above h =
      let marks = leaf_marks fs.blocks pointer level bytes h.0 came (leaf h.0) in
      (h.1.0 ∙ sym (ap (fold walk_step old) marks), h.1.1 ∙ sym (ap (λ m. edges_of (ranges_met m)) marks))
  opens_good bytes (Children block_pointers) came leaf inner above h = (
    bytes,
    h.0,
    inner_marks fs.blocks pointer level bytes above came (inner above)
        ∙ ap (λ l. Block (place_of level pointer) bytes ∷ children_marks fs pointer.addr (level - 1) l) (sym h.1),
  )

  -- all of a block was walked as it was opened
  pub walks_whole : (known : Known) (edges : Option Edges) → Opens fs level pointer old new (Whole edges)
      → Walks fs (subtree_marks fs level pointer) old new known known (Ok edges)
  walks_whole known edges h knows = record {
    seen = h.0;
    edges_are = h.1;
    knows = knows_on fs old new known (subtree_marks fs level pointer) h.0 knows;
  }

  -- its children were walked behind it
  pub walks_node : (mid : WalkSeen) (known known' : Known) (opened : Opened) (block_pointers : List BlockPointer) (r : Result (Option Edges) Stop)
      → Opens fs level pointer old mid opened → AreChildren opened block_pointers
      → ((addr : ℕ) → Walks fs (children_marks fs addr (level - 1) block_pointers) mid new known known' r)
      → Walks fs (subtree_marks fs level pointer) old new known known' r
  walks_node mid known known' (Whole edges) block_pointers r h are walks = absurd are
  walks_node mid known known' (Children all) block_pointers (Err stop) h are walks = tt
  walks_node mid known known' (Children all) block_pointers (Ok edges) h are walks = λ knows.
      let place = place_of level pointer in
      let knows_mid = knows_on fs old mid known (Block place h.0 ∷ []) h.1 knows in
      subst (λ marks. Walked fs marks old new known' edges)
      (ap (λ l. Block place h.0 ∷ children_marks fs pointer.addr (level - 1) l) are ∙ sym h.2)
      (walked_block fs (children_marks fs pointer.addr (level - 1) block_pointers) old mid new known' edges place h.0 h.1 (walks pointer.addr knows_mid))

-- a subtree that is kept was passed
pub ran_passed : {U : Filesystem → Want → Type 0} (x : World)
    (level : ℕ) (pointer : BlockPointer) (old new : WalkSeen) (known : Known) (edges : Option Edges) (r : Result (Option Edges) Stop)
    → CanCheck x → IsSubtreeKept known level pointer edges → Passes old edges new r
    → Ran U (λ fs. Walks fs (subtree_marks fs level pointer) old new known known r) x x r
ran_passed {U} x level pointer old new known edges (Ok answer) ready kept h =
    ran_none (λ fs. Walks fs (subtree_marks fs level pointer) old new known known (Ok answer)) x answer ready
    (λ B knows. subst (Walked (filesystem x.vol B) (subtree_marks (filesystem x.vol B) level pointer) old new known) (sym h.0)
    (walked_passed (filesystem x.vol B) level pointer old new known edges kept h.1 knows))
ran_passed {U} x level pointer old new known edges (Err stop) ready kept h =
    subst (λ s. Ran {A = Option Edges} U (λ fs. ⊤) x x (Err s)) (sym h) (ran_memory {C = Option Edges} (λ fs. ⊤) x ready (λ B. tt))

-- as a subtree is passed, a call stops only where there is no memory
pub passed_outside : (old new : WalkSeen) (edges : Option Edges) (r : Result (Option Edges) Stop) → Passes old edges new r → StopsOutside r
passed_outside old new edges (Ok answer) h = tt
passed_outside old new edges (Err stop) h = ap is_outside h

-- one that was walked is kept
module _ (asked : Bool) (level : ℕ) (pointer : BlockPointer) (old new : WalkSeen) (before known after : Known) (edges : Option Edges) where
  -- a subtree that was walked, kept only if that is asked and nothing was found
  kept_walked : (fs : Filesystem) (asks sound : Bool) → is_nothing (new.broken ++ new.overlapping) ≡ sound
      → Walked fs (subtree_marks fs level pointer) old new known edges
      → Walked fs (subtree_marks fs level pointer) old new (kept_if (asks && sound) known level pointer edges) edges
  kept_walked fs true true is one = walked_kept fs level pointer old new known edges is one
  kept_walked fs true false is one = one
  kept_walked fs false sound is one = one

  -- behind a call that walked a subtree it is kept, or there was no memory
  pub ran_kept : {W U : Filesystem → Want → Type 0} (x y : World) (r : Result (Option Edges) Stop)
      → Ran W (λ fs. Walks fs (subtree_marks fs level pointer) old new before known (Ok edges)) x y (Ok edges)
      → Keeps asked level pointer edges new known after r
      → Ran U (λ fs. Walks fs (subtree_marks fs level pointer) old new before after r) x y r
  ran_kept {U = U} x y (Ok answer) one h =
      ran_value (λ fs. Walks fs (subtree_marks fs level pointer) old new before known (Ok edges))
      (λ fs. Walks fs (subtree_marks fs level pointer) old new before after (Ok answer)) x y edges answer one
      (λ B walks knows.
      let fs = filesystem x.vol B in
      subst (Walked fs (subtree_marks fs level pointer) old new after) (sym h.0)
      (subst (λ k. Walked fs (subtree_marks fs level pointer) old new k edges) (sym h.1)
      (kept_walked fs asked (is_nothing (new.broken ++ new.overlapping)) refl (walks knows))))
  ran_kept {U = U} x y (Err stop) one h =
      subst (λ s. Ran {A = Option Edges} U (λ fs. ⊤) x y (Err s)) (sym h)
      (ran_no_memory {C = Option Edges} (λ fs. Walks fs (subtree_marks fs level pointer) old new before known (Ok edges)) (λ fs. ⊤) x y edges one (λ B. tt))

-- as a subtree is kept, a call stops only where there is no memory
pub kept_outside : (asked : Bool) (level : ℕ) (pointer : BlockPointer) (edges : Option Edges) (seen : WalkSeen) (old new : Known)
    (r : Result (Option Edges) Stop)
    → Keeps asked level pointer edges seen old new r → StopsOutside r
kept_outside asked level pointer edges seen old new (Ok answer) h = tt
kept_outside asked level pointer edges seen old new (Err stop) h = ap is_outside h

module _ (fs : Filesystem) (addr level : ℕ) (block_pointers : List BlockPointer) (i : ℕ) where
  -- one child more
  pub walks_child : (d : BlockPointer) (old mid new : WalkSeen) (first known after : Known) (front back edges : Option Edges) → i < length block_pointers
      → edges ≡ joined front back → Walks fs (children_marks fs addr level (take i block_pointers)) old mid first known (Ok front)
      → Walks fs (subtree_marks fs level (get_or block_pointers i d)) mid new known after (Ok back)
      → Walks fs (children_marks fs addr level (take (i + 1) block_pointers)) old new first after (Ok edges)
  walks_child d old mid new first known after front back edges below is one two knows =
      let before = one knows in
      subst (Walked fs (children_marks fs addr level (take (i + 1) block_pointers)) old new after) (sym is)
      (walked_more fs addr level block_pointers i d old mid new known after front back below before (two before.knows))

  -- and then all of them
  pub walks_end : (old new : WalkSeen) (first known : Known) (edges : Option Edges) → length block_pointers ≤ i
      → Walks fs (children_marks fs addr level (take i block_pointers)) old new first known (Ok edges)
      → Walks fs (children_marks fs addr level block_pointers) old new first known (Ok edges)
  walks_end old new first known edges all walks knows =
      subst (λ l. Walked fs (children_marks fs addr level l) old new known edges) (take_all i block_pointers all) (walks knows)

-- children, one more
filter_more : {X : Type 0} (test : X → Bool) (xs : List X) (i : ℕ) (d : X) → i < length xs
    → filter test (take (i + 1) xs) ≡ with_if test (filter test (take i xs)) (get_or xs i d)
filter_more test xs i d below =
    ap (filter test) (take_more xs i d below) ∙ filter-append test (take i xs) (get_or xs i d ∷ []) ∙ by (test (get_or xs i d))
  where
    by : (b : Bool) → filter test (take i xs) ++ cond b (get_or xs i d ∷ []) []
        ≡ (if b then filter test (take i xs) ++ get_or xs i d ∷ [] else filter test (take i xs))
    by true = refl
    by false = append-nil (filter test (take i xs))

-- the children of a node with one pointer more, if that meets the keys
pub child_more : (ps : List KeyPointer) (up : Option Key) (i : ℕ) (pointer : BlockPointer) (old new : List BlockPointer) → i < length ps
    → ((d : KeyPointer) → pointer ≡ below (get_or ps i d) (up_of (drop (i + 1) ps) up))
    → old ≡ filter (meets_keys first_key last_key) (take i (child_pointers ps up)) → new ≡ with_if (meets_keys first_key last_key) old pointer
    → new ≡ filter (meets_keys first_key last_key) (take (i + 1) (child_pointers ps up))
child_more ps up i pointer old new lt at had is =
    let same : pointer ≡ get_or (child_pointers ps up) i some_block_pointer =
    at some_pointer ∙ sym (child_pointer_at ps up i some_pointer some_block_pointer lt) in
    let test = meets_keys first_key last_key in
    is ∙ (λ j. with_if test (had j) (same j))
    ∙ sym (filter_more test (child_pointers ps up) i some_block_pointer (omega (arith, lt, length-block_pointers ps up)))

-- the edges of one range that there may be
edge_met : (next : Option FileRange) → edges_of (cons_option next []) ≡ edge_of next
edge_met None = refl
edge_met (Some range) = refl

-- items, one more
module _ (addr : ℕ) (all : List NodeItem) (i : ℕ) (old mid new : WalkSeen) (edges edges' : Option Edges) where
  -- the item of the leaf that is next
  abbrev node_item : NodeItem
  node_item = get_or all i some_item

  -- the items of the leaf so far, as a tour meets them
  abbrev so_far : List TreeItem
  so_far = items_within first_key last_key addr (take i all)

  -- one item more was walked, whether a tour meets it or not
  item_step : (b : Bool) → is_within first_key last_key node_item ≡ b → i < length all → WalksItems addr (take i all) old mid edges
      → WalksItem (tree_item addr node_item) mid new edges edges' → WalksItems addr (take (i + 1) all) old new edges'
  item_step true e lt had one =
      let item = tree_item addr node_item in
      let within : items_within first_key last_key addr (take (i + 1) all) ≡ so_far ++ item ∷ [] =
      ap (map (tree_item addr)) (filter_more (is_within first_key last_key) all i some_item lt
      ∙ ap (λ b. if b then filter (is_within first_key last_key) (take i all) ++ node_item ∷ [] else filter (is_within first_key last_key) (take i all)) e)
      ∙ map-append (tree_item addr) (filter (is_within first_key last_key) (take i all)) (node_item ∷ []) in
      let marks : map Item (items_within first_key last_key addr (take (i + 1) all)) ≡ map Item so_far ++ Item item ∷ [] =
      ap (map Item) within ∙ map-append Item so_far (item ∷ []) in (
        one.0 ∙ ap (λ b. if b then walk_step mid (Item item) else mid) e ∙ ap (λ s. walk_step s (Item item)) had.0
            ∙ sym (fold-append walk_step old (map Item so_far) (Item item ∷ [])) ∙ sym (ap (fold walk_step old) marks),
        one.1 ∙ ap (λ b. if b then joined edges (edge_of (range_of item)) else edges) e
            ∙ (λ j. joined (had.1 j) (sym (edge_met (range_of item)) j)) ∙ sym (marks_edges (map Item so_far) (Item item ∷ []))
            ∙ sym (ap (λ m. edges_of (ranges_met m)) marks),
      )
  item_step false e lt had one =
      let item = tree_item addr node_item in
      let within : items_within first_key last_key addr (take (i + 1) all) ≡ so_far =
      ap (map (tree_item addr)) (filter_more (is_within first_key last_key) all i some_item lt
      ∙ ap (λ b. if b then filter (is_within first_key last_key) (take i all) ++ node_item ∷ [] else filter (is_within first_key last_key) (take i all)) e) in (
        one.0 ∙ ap (λ b. if b then walk_step mid (Item item) else mid) e ∙ had.0 ∙ sym (ap (λ l. fold walk_step old (map Item l)) within),
        one.1 ∙ ap (λ b. if b then joined edges (edge_of (range_of item)) else edges) e ∙ had.1
            ∙ sym (ap (λ l. edges_of (ranges_met (map Item l))) within),
      )

  -- the items of a leaf so far were walked, and then the next one
  pub items_more : (found : Found) → i < length all → ((d : NodeItem) → tree_item addr (get_or all i d) ≡ item_of found)
      → WalksItems addr (take i all) old mid edges → WalksItem (item_of found) mid new edges edges' → WalksItems addr (take (i + 1) all) old new edges'
  items_more found lt is had one =
      item_step (is_within first_key last_key node_item) refl lt had
      (subst (λ item. WalksItem item mid new edges edges') (sym (is some_item)) one)
