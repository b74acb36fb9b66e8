-- Each owner's extent is among what its leaf refers to.
use Rattle.std.proofs.Common.{◌≡◌, ℕ, zero, suc, ◌-◌, Bool, true, false, cond, List, [], ◌∷◌, ◌++◌, map, filter, flat_map}
use Rattle.std.proofs.Common.{Option, Some, None, Result, Ok, Err, if◌then◌else◌, refl, sym, ap, ◌∙◌, subst, arith}
use Rattle.std.specs.Prelude.{◌==◌, nat_le, All, Contains}
use Rattle.std.specs.List.{AllByRecursion}
use Rattle.std.proofs.lemmas.List.Elements.{All-contains, All-contains_itself, All-from_recursion, recursion_from_All}
use Rattle.std.proofs.lemmas.List.Elements.{Contains-append_left, Contains-append_right, Contains-get_or}
use Rattle.btr_base.specs.Key.{last_key}
use Rattle.btr_items.specs.FileExtent.{file_extent_of}
use Rattle.btr_items.specs.Types.{extent_data}
use Rattle.btr_items.specs.declared.fault.ItemFault.{ItemFault}
use Rattle.btr_items.specs.declared.file_extent.FileExtent.{FileExtent}
use Rattle.btr_items.specs.declared.link.Link.{Link}
use Rattle.btr_items.specs.declared.shape.Shape.{Shape}
use Rattle.btr_items.specs.declared.shape.Shape.TheVariants.{Inline, Regular, Prealloc}
use Rattle.btr_node.specs.Block.{Item as NodeItem}
use Rattle.btr_node.specs.Node.{node_of}
use Rattle.btr_node.specs.declared.node.Node.{Node}
use Rattle.btr_node.specs.declared.node.Node.TheVariants as node
use Rattle.btr_prog.specs.Prog.{Return, Stop, Mark, Wants, Does, Run, after, exec, given, steps, steps_of}
use Rattle.btr_prog.specs.Thread.{go_on_run, thread_run}
use Rattle.btr_prog.specs.Trying.{Done, Try, Act, tried}
use Rattle.btr_prog.proofs.Runs.{steps_of-append}
use Rattle.btr_prog.proofs.Threads.{exec-thread}
use Rattle.btr_read.specs.Fate.{Fault, Malformed}
use Rattle.btr_read.specs.declared.want.Want.{Want}
use Rattle.btr_refs.specs.Forward.{Use, begin_of, data_use, extent_uses, file_link, item_uses, leaf_uses, node_uses, origin_of, shape_uses}
use Rattle.btr_tour.specs.Program.{TourProg, items_until_fault, tour_prog}
use Rattle.btr_tour.specs.Tour as tour
use Rattle.btr_tour.specs.Tour.{Reached, blocks_met, child_pointers, child_tour, block_tour, first_key, items_met, meets_keys, node_tour}
use Rattle.btr_tour.specs.Tour.{place_of, tour_at, under}
use Rattle.btr_tour.specs.Tour.{whole}
use Rattle.btr_tour.proofs.Programs.{marks_law}
use Rattle.btr_tour.proofs.Ranges.{stops_law}
use Rattle.btr_volume.specs.Lookup.{formed}
use Rattle.btr_volume.specs.declared.root.TreeRoot.{TreeRoot}
use Rattle.btr_walk.specs.Le.{TreeItem, root_pointer, tree_item, want_of}
use Rattle.btr_walk.specs.Range.{is_within, range}
use Rattle.btr_walk.specs.Reading.{Map}
use Rattle.btr_walk.specs.BlockPointer.{fits, fitting, judged, keys_of}
use Rattle.btr_walk.specs.declared.place.RootPlace.{RootPlace}
use Rattle.btr_walk.specs.declared.block_pointer.BlockPointer.{BlockPointer}
use Rattle.btr_resolve.specs.Links.{HasUsesOf, IsLinked, OwnersLinked, use_by, uses_of}
use Rattle.btr_resolve.specs.Owning.{end_in, extent_met, item_met, none_met, on_disk, owner_at, owner_if, owners, position_in, position_on}
use Rattle.btr_resolve.specs.declared.extent.DiskExtent.{DiskExtent}
use Rattle.btr_resolve.specs.declared.owner.Met.{Met}
use Rattle.btr_resolve.specs.declared.owner.Owner.{Owner}

-- ---- what holds of all elements

-- where something follows of each element, it holds of all
pub weaker : {X : Type 0} (P Q : X → Type 0) → ((x : X) → P x → Q x) → (xs : List X) → AllByRecursion P xs → AllByRecursion Q xs
weaker P Q h [] all = tt
weaker P Q h (x ∷ xs) all = (h x all.0, weaker P Q h xs all.1)

-- where two things hold of all elements, both hold of each
both_all : {X : Type 0} (P Q : X → Type 0) (xs : List X) → AllByRecursion P xs → AllByRecursion Q xs → AllByRecursion (λ x. P x × Q x) xs
both_all P Q [] one two = tt
both_all P Q (x ∷ xs) one two = ((one.0, two.0), both_all P Q xs one.1 two.1)

-- what holds of all of two lists holds of all of both together
all_then : {X : Type 0} (P : X → Type 0) (xs ys : List X) → AllByRecursion P xs → AllByRecursion P ys → AllByRecursion P (xs ++ ys)
all_then P [] ys one two = two
all_then P (x ∷ xs) ys one two = (one.0, all_then P xs ys one.1 two)

-- what holds of all of two lists together holds of all of the first
all_front : {X : Type 0} (P : X → Type 0) (xs ys : List X) → AllByRecursion P (xs ++ ys) → AllByRecursion P xs
all_front P [] ys all = tt
all_front P (x ∷ xs) ys all = (all.0, all_front P xs ys all.1)

-- what holds of all of two lists together holds of all of the second
all_behind : {X : Type 0} (P : X → Type 0) (xs ys : List X) → AllByRecursion P (xs ++ ys) → AllByRecursion P ys
all_behind P [] ys all = all
all_behind P (x ∷ xs) ys all = all_behind P xs ys all.1

-- of the elements that pass a test, as a function leaves them
passing : {X Y : Type 0} (P : Y → Type 0) (f : X → Y) (test : X → Bool) (xs : List X) → AllByRecursion (λ x. P (f x)) xs
    → AllByRecursion P (map f (filter test xs))
passing P f test [] all = tt
passing P f test (x ∷ xs) all = by (test x) all.0 (passing P f test xs all.1)
  where
    by : (b : Bool) → P (f x) → AllByRecursion P (map f (filter test xs)) → AllByRecursion P (map f (cond b (x ∷ filter test xs) (filter test xs)))
    by true here rest = (here, rest)
    by false here rest = rest

-- what one element gives is among what all give
pub given_by : {X Y : Type 0} (f : X → List Y) (xs : List X) → AllByRecursion (λ x. (y : Y) → Contains (f x) y → Contains (flat_map f xs) y) xs
given_by f [] = tt
given_by {X} {Y} f (x ∷ xs) = (
  λ y is. Contains-append_left (f x) (flat_map f xs) y is,
  weaker (λ (z : X). (y : Y) → Contains (f z) y → Contains (flat_map f xs) y) (λ (z : X). (y : Y) → Contains (f z) y → Contains (f x ++ flat_map f xs) y)
      (λ z h y is. Contains-append_right (f x) (flat_map f xs) y (h y is)) xs (given_by f xs),
)

-- ---- steps that are treated one after another

module _ {S T St : Type 0} (P : T → Type 0) (Q : S → Type 0) (body : St → S → Run Want Fault T (Result St (Unit {0}))) (done : St → Unit {0} → Unit {0})
    (each : (st : St) (s : S) → Q s → AllByRecursion P (steps_of (body st s).marks)) where
  -- what holds of all steps of one run, and of all that may come behind it, holds of all steps
  after_all : (ms : List (Mark Want T)) (e : Result (Result St (Unit {0})) Fault) (k : St → Run Want Fault T (Unit {0})) → AllByRecursion P (steps_of ms)
      → ((st : St) → AllByRecursion P (steps_of (k st).marks)) → AllByRecursion P (steps_of (after ms e (go_on_run k)).marks)
  after_all ms (Ok (Ok st)) k one two =
      subst (AllByRecursion P) (sym (steps_of-append ms (k st).marks)) (all_then P (steps_of ms) (steps_of (k st).marks) one (two st))
  after_all ms (Ok (Err u)) k one two = subst (AllByRecursion P) (sym (steps_of-append ms [])) (all_then P (steps_of ms) [] one tt)
  after_all ms (Err f) k one two = one

  -- where each step is treated by steps of which something holds, it holds of all of them
  thread_all : (st : St) (ms : List (Mark Want S)) (e : Result (Unit {0}) Fault) → AllByRecursion Q (steps_of ms)
      → AllByRecursion P (steps_of (thread_run body done st ms e).marks)
  thread_all st [] (Ok u) all = tt
  thread_all st [] (Err f) all = tt
  thread_all st (Wants w ∷ ms) e all = thread_all st ms e all
  thread_all st (Does s ∷ ms) e all =
      after_all (body st s).marks (body st s).ending (λ st'. thread_run body done st' ms e) (each st s all.0) (λ st'. thread_all st' ms e all.1)

-- ---- the items of a range are those of a tour

module _ (B : Map) (Q : TreeItem → Type 0) where
  -- what holds of a tour's items holds of those up to the first fault, whether the next block came or not
  items_by : (r : Result (List ℕ) Fault) (k : Result (List ℕ) Fault → TourProg)
      → ((block : List ℕ) → AllByRecursion Q (items_met (steps_of (tried B (k (Ok block))).marks))
      → AllByRecursion Q (steps_of (exec B (items_until_fault (k (Ok block)))).marks))
      → AllByRecursion Q (items_met (steps_of (tried B (k r)).marks))
      → AllByRecursion Q (steps_of (given r (λ block. exec B (items_until_fault (k (Ok block))))).marks)
  items_by (Ok block) k more all = more block all
  items_by (Err f) k more all = tt

  -- what holds of all items of a tour holds of those up to its first fault
  items_all : (p : TourProg) → AllByRecursion Q (items_met (steps_of (tried B p).marks)) → AllByRecursion Q (steps_of (exec B (items_until_fault p)).marks)
  items_all (Done u) all = tt
  items_all (Try w k) all = items_by (B w) k (λ block. items_all (k (Ok block))) all
  items_all (Act (tour.Block place block) p) all = items_all p all
  items_all (Act (tour.Child addr place) p) all = items_all p all
  items_all (Act (tour.Item item) p) all = (all.0, items_all p all.1)
  items_all (Act (tour.Left f) p) all = tt

-- ---- the items of a tour stand in the leaves that it meets

-- a node that fits its pointer is the one that the block holds
fitted : (pointer : BlockPointer) (o : Option Node) (one : Node) → fitting pointer o ≡ Some one → o ≡ Some one
fitted pointer None one e = cc
fitted pointer (Some other) one e = by (fits pointer (keys_of other)) e
  where
    by : (b : Bool) → (if b then Some other else None) ≡ Some one → Some other ≡ Some one
    by true e = e
    by false e = cc

-- a good node at a pointer is the one that the block holds
judged_by : (b : Bool) (pointer : BlockPointer) (o : Option Node) (one : Node) → (if b then fitting pointer o else None) ≡ Some one → o ≡ Some one
judged_by true pointer o one e = fitted pointer o one e
judged_by false pointer o one e = let z : ⊥ = cc in absurd z

-- the blocks that some marks meet, and those that more do, are those of all marks
blocks_then : (xs ys : List tour.Mark) → blocks_met (xs ++ ys) ≡ blocks_met xs ++ blocks_met ys
blocks_then [] ys = refl
blocks_then (tour.Block place block ∷ xs) ys = ap (λ l. record { place = place; block = block } ∷ l) (blocks_then xs ys)
blocks_then (tour.Child addr place ∷ xs) ys = blocks_then xs ys
blocks_then (tour.Item item ∷ xs) ys = blocks_then xs ys
blocks_then (tour.Left f ∷ xs) ys = blocks_then xs ys

-- the items that some marks meet, and those that more do, are those of all marks
pub items_then : (xs ys : List tour.Mark) → items_met (xs ++ ys) ≡ items_met xs ++ items_met ys
items_then [] ys = refl
items_then (tour.Block place block ∷ xs) ys = items_then xs ys
items_then (tour.Child addr place ∷ xs) ys = items_then xs ys
items_then (tour.Item item ∷ xs) ys = ap (λ l. item ∷ l) (items_then xs ys)
items_then (tour.Left f ∷ xs) ys = items_then xs ys

module _ (B : Map) (blocks : List Reached) (Q : TreeItem → Type 0)
    (each : (place : RootPlace) (block : List ℕ) (xs : List NodeItem) → Contains blocks (record { place = place; block = block })
    → node_of block ≡ Some (node.Leaf xs) → AllByRecursion (λ x. Q (tree_item place.addr x)) xs) where
  -- where its blocks are among these, its items are fine
  abbrev AreFine : List tour.Mark → Type 0
  AreFine marks = AllByRecursion (Contains blocks) (blocks_met marks) → AllByRecursion Q (items_met marks)

  -- of two lists of marks in which the items are fine, those of both together are
  fine_then : (xs ys : List tour.Mark) → AreFine xs → AreFine ys → AreFine (xs ++ ys)
  fine_then xs ys one two all =
      let here : AllByRecursion (Contains blocks) (blocks_met xs ++ blocks_met ys) = subst (AllByRecursion (Contains blocks)) (blocks_then xs ys) all in
      subst (AllByRecursion Q) (sym (items_then xs ys))
      (all_then Q (items_met xs) (items_met ys)
      (one (all_front (Contains blocks) (blocks_met xs) (blocks_met ys) here))
      (two (all_behind (Contains blocks) (blocks_met xs) (blocks_met ys) here)))

  -- what holds of some items holds of those that their own marks meet
  leaf_fine : (items : List TreeItem) → AllByRecursion Q items → AllByRecursion Q (items_met (map tour.Item items))
  leaf_fine [] all = tt
  leaf_fine (item ∷ items) all = (all.0, leaf_fine items all.1)

  -- the items below the children of a node are fine, where those below each child are
  children_fine : (below : BlockPointer → List tour.Mark) → ((pointer : BlockPointer) → AreFine (below pointer))
      → (addr level : ℕ) (block_pointers : List BlockPointer)
      → AreFine (flat_map (child_tour first_key last_key below addr level) block_pointers)
  children_fine below fine addr level [] all = tt
  children_fine below fine addr level (pointer ∷ block_pointers) all =
      fine_then (below pointer) (flat_map (child_tour first_key last_key below addr level) block_pointers) (fine pointer)
      (children_fine below fine addr level block_pointers) all

  -- the items below a block that is among these are fine, where those below each child are
  under_fine : (below : BlockPointer → List tour.Mark) → ((pointer : BlockPointer) → AreFine (below pointer))
      → (level : ℕ) (pointer : BlockPointer) (block : List ℕ) (one : Node)
      → Contains blocks (record { place = place_of level pointer; block = block }) → node_of block ≡ Some one
      → AreFine (under first_key last_key below level pointer one)
  under_fine below fine level pointer block (node.Leaf xs) is holds all =
      leaf_fine (map (tree_item pointer.addr) (filter (is_within first_key last_key) xs))
      (passing Q (tree_item pointer.addr) (is_within first_key last_key) xs (each (place_of level pointer) block xs is holds))
  under_fine below fine level pointer block (node.Inner ps) is holds all =
      children_fine below fine pointer.addr (level - 1) (filter (meets_keys first_key last_key) (child_pointers ps pointer.up)) all

  -- the items of the tour of a block are fine, whether the block is good or not
  node_fine : (below : BlockPointer → List tour.Mark) → ((pointer : BlockPointer) → AreFine (below pointer))
      → (level : ℕ) (pointer : BlockPointer) (block : List ℕ) (o : Option Node)
      → judged level pointer block ≡ o → AreFine (node_tour first_key last_key below level pointer block o)
  node_fine below fine level pointer block None is all = tt
  node_fine below fine level pointer block (Some one) is all =
      under_fine below fine level pointer block one all.0 (judged_by _ pointer (node_of block) one is) all.1

  -- the items of the tour from a pointer on are fine, whether its block came or not
  block_fine : (below : BlockPointer → List tour.Mark) → ((pointer : BlockPointer) → AreFine (below pointer))
      → (level : ℕ) (pointer : BlockPointer) (r : Result (List ℕ) Fault)
      → AreFine (block_tour first_key last_key below level pointer r)
  block_fine below fine level pointer (Err f) all = tt
  block_fine below fine level pointer (Ok block) all = node_fine below fine level pointer block (judged level pointer block) refl all

  -- the items of the tour below any pointer are fine
  tour_fine : (level : ℕ) (pointer : BlockPointer) → AreFine (tour_at first_key last_key B level pointer)
  tour_fine zero pointer = block_fine (λ child. []) (λ child all. tt) 0 pointer (B (want_of 0 pointer))
  tour_fine (suc n) pointer = block_fine (tour_at first_key last_key B n) (tour_fine n) (suc n) pointer (B (want_of (suc n) pointer))

-- ---- what an item comes to, and what it uses

module _ (B : Map) (addr : ℕ) (tree : TreeRoot) (P : Owner → Type 0) (item : TreeItem) where
  -- what holds of the owner at a position holds of what an extent gives, in its order or out of it
  owner_all : (b : Bool) (o : Option ℕ) (met : Met) → ((position : ℕ) → o ≡ Some position → P (owner_at tree item.key.objectid position))
      → AllByRecursion P (steps B (if b then owner_if tree item.key.objectid o met else Stop (Malformed item.leaf)))
  owner_all false o met h = tt
  owner_all true None met h = tt
  owner_all true (Some position) met h = (h position refl, tt)

  -- what holds of the owner that an extent has at an address holds of what its item gives
  formed_all : (b : Bool) (r : Result FileExtent ItemFault) (met : Met)
      → ((fields : FileExtent) (position : ℕ) → b ≡ true → r ≡ Ok fields → position_in addr item.key.offset fields ≡ Some position
      → P (owner_at tree item.key.objectid position))
      → AllByRecursion P (steps B (if b then formed item r (extent_met addr tree met item) else Return (Ok met)))
  formed_all false r met h = tt
  formed_all true (Err f) met h = tt
  formed_all true (Ok fields) met h =
      owner_all (nat_le (end_in met item.key.objectid) item.key.offset) (position_in addr item.key.offset fields) _
      (λ position is. h fields position refl refl is)

module _ (by_address : ℕ → Bool) (leaf : Reached) (item : TreeItem) where
  -- the link of the item's file by the leaf, to an extent of which so much is skipped
  abbrev link : ℕ → Link
  link skip = file_link (origin_of (by_address leaf.place.addr) leaf.place.addr leaf.block) item.key.objectid (begin_of item.key.offset skip)

  -- an extent with an address is the one that the leaf uses
  range_link : (b : Bool) (addr disk_len skip len : ℕ) (extent : DiskExtent)
      → (if b then None else Some (record { addr = addr; disk_len = disk_len; skip = skip; len = len })) ≡ Some extent
      → Contains (if b then [] else data_use addr (link skip) disk_len ∷ []) (use_by by_address leaf item extent)
  range_link true addr disk_len skip len extent e = let z : ⊥ = cc in absurd z
  range_link false addr disk_len skip len extent e =
      let one : Use = data_use addr (link skip) disk_len in
      let is : record { addr = addr; disk_len = disk_len; skip = skip; len = len } ≡ extent = cc in
      subst (λ (x : DiskExtent). Contains (one ∷ []) (use_by by_address leaf item x)) is (Contains-get_or (one ∷ []) 0 one (omega arith))

  -- what the leaf uses by an extent of this shape
  abbrev in_shape : Shape → List Use
  in_shape s = shape_uses (origin_of (by_address leaf.place.addr) leaf.place.addr leaf.block) item.key s

  -- an extent on the disk is among what the leaf uses by its shape
  shape_link : (s : Shape) (extent : DiskExtent) → on_disk s ≡ Some extent → Contains (in_shape s) (use_by by_address leaf item extent)
  shape_link (Inline len) extent e = let z : ⊥ = cc in absurd z
  shape_link (Regular addr disk_len skip len) extent e = range_link (addr == 0) addr disk_len skip len extent e
  shape_link (Prealloc addr disk_len skip len) extent e = range_link (addr == 0) addr disk_len skip len extent e

  -- what the leaf uses by the item
  abbrev in_item : List Use
  in_item = item_uses (origin_of (by_address leaf.place.addr) leaf.place.addr leaf.block) item.key item.body

  -- the extent on the disk of an EXTENT_DATA is among what the leaf uses by it
  item_link : (fields : FileExtent) (extent : DiskExtent) → (item.key.kind == extent_data) ≡ true → file_extent_of item.key.offset item.body ≡ Ok fields
      → on_disk fields.shape ≡ Some extent → Contains in_item (use_by by_address leaf item extent)
  item_link fields extent kind form placed =
      let from = origin_of (by_address leaf.place.addr) leaf.place.addr leaf.block in
      let same : in_item ≡ in_shape fields.shape =
      ap (λ b. if b then extent_uses from item.key (file_extent_of item.key.offset item.body) else []) kind ∙ ap (extent_uses from item.key) form in
      subst (λ (uses : List Use). Contains uses (use_by by_address leaf item extent)) (sym same) (shape_link fields.shape extent placed)

-- a file has a byte on the disk only by an extent there
extent_on : (addr start : ℕ) (is_plain : Bool) (o : Option DiskExtent) (position : ℕ) → position_on addr start is_plain o ≡ Some position
    → (extent : DiskExtent) × (o ≡ Some extent)
extent_on addr start is_plain None position e = let z : ⊥ = cc in absurd z
extent_on addr start is_plain (Some extent) position e = (extent, refl)

-- ---- the owners of an address in a tree

module _ (B : Map) (tree : TreeRoot) (by_address : ℕ → Bool) (uses : List Use) (have : All (HasUsesOf by_address uses) (blocks_met (whole B tree.place))) where
  -- the tour of the whole tree
  abbrev marks : List tour.Mark
  marks = whole B tree.place

  -- an item stands in a leaf whose uses are among these, with those of the item
  record IsUsing (item : TreeItem) : Type 0 where
    leaf : Reached
    reached : Contains (blocks_met marks) leaf
    stands : item.leaf ≡ leaf.place.addr
    using : (one : Use) → Contains (in_item by_address leaf item) one → Contains uses one

  -- each item of a leaf that the tour meets has its uses among these
  leaf_using : (place : RootPlace) (block : List ℕ) (xs : List NodeItem) → Contains (blocks_met marks) (record { place = place; block = block })
      → node_of block ≡ Some (node.Leaf xs) → AllByRecursion (λ (x : NodeItem). IsUsing (tree_item place.addr x)) xs
  leaf_using place block xs is holds =
      let here : Reached = record { place = place; block = block } in
      let from = origin_of (by_address place.addr) place.addr block in
      let same : uses_of by_address here ≡ leaf_uses from xs = ap (node_uses from place.level) holds in
      let all = All-contains (HasUsesOf by_address uses) (blocks_met marks) here have is in
      weaker (λ (x : NodeItem). (one : Use) → Contains (item_uses from x.key x.body) one → Contains (leaf_uses from xs) one)
      (λ (x : NodeItem). IsUsing (tree_item place.addr x))
      (λ x h. record {
        leaf = here;
        reached = is;
        stands = refl;
        using = λ one c. All-contains (Contains uses) (uses_of by_address here) one all (subst (λ (us : List Use). Contains us one) (sym same) (h one c));
      })
      xs (given_by (λ (x : NodeItem). item_uses from x.key x.body) xs)

  -- each item that the tour meets has its uses among these
  all_using : AllByRecursion IsUsing (items_met marks)
  all_using = tour_fine B (blocks_met marks) IsUsing leaf_using tree.place.level (root_pointer tree.place)
      (recursion_from_All (Contains (blocks_met marks)) (blocks_met marks) (All-contains_itself (blocks_met marks)))

  -- the tour meets the item, which has its uses among these
  abbrev IsItem : TreeItem → Type 0
  IsItem item = Contains (items_met marks) item × IsUsing item

  -- each item that the tour meets is one that it meets with its uses among these
  all_items : AllByRecursion IsItem (items_met marks)
  all_items = both_all (Contains (items_met marks)) IsUsing (items_met marks)
      (recursion_from_All (Contains (items_met marks)) (items_met marks) (All-contains_itself (items_met marks))) all_using

  -- each item of the tree up to its first fault is one that the tour meets with its uses among these
  in_range : AllByRecursion IsItem (steps B (range first_key last_key tree.place))
  in_range = subst (λ p. AllByRecursion IsItem (steps B p)) (stops_law tree.place first_key last_key)
      (items_all B IsItem (tour_prog first_key last_key tree.place)
      (subst (λ ms. AllByRecursion IsItem (items_met ms)) (sym (marks_law B tree.place first_key last_key)) all_items))

  module _ (addr : ℕ) where
    -- an owner of the address in the tree is linked
    abbrev IsOne : Owner → Type 0
    IsOne = IsLinked B tree by_address addr uses

    -- each owner that such an item gives is linked
    item_linked : (met : Met) (item : TreeItem) → IsItem item → AllByRecursion IsOne (steps B (item_met addr tree met item))
    item_linked met item is =
        formed_all B addr tree IsOne item (item.key.kind == extent_data) (file_extent_of item.key.offset item.body) met
        (λ fields position kind form at.
        let on = extent_on addr item.key.offset (fields.compression == 0) (on_disk fields.shape) position at in
        record {
          tree_is = refl;
          leaf = is.1.leaf;
          reached = is.1.reached;
          item = item;
          met = is.0;
          stands = is.1.stands;
          extent = on.0;
          has = record { fields = fields; formed = form; placed = on.1; inode = refl; position = at };
          link = is.1.using (use_by by_address is.1.leaf item on.0) (item_link by_address is.1.leaf item fields on.0 kind form on.1);
        })

    -- each owner of the address in the tree is linked
    all_linked : AllByRecursion IsOne (steps B (owners addr tree))
    all_linked =
        let read = exec B (range first_key last_key tree.place) in
        subst (λ (r : Run Want Fault Owner (Unit {0})). AllByRecursion IsOne (steps_of r.marks))
        (sym (exec-thread B (item_met addr tree) (λ met u. u) none_met (range first_key last_key tree.place)))
        (thread_all IsOne IsItem (λ met item. exec B (item_met addr tree met item)) (λ met u. u) item_linked none_met read.marks read.ending in_range)

-- where some uses have those of all blocks of a tree, each owner of an address in the tree is linked
pub owners_linked : OwnersLinked
owners_linked B tree by_address addr uses have =
    All-from_recursion (IsLinked B tree by_address addr uses) (steps B (owners addr tree)) (all_linked B tree by_address uses have addr)
