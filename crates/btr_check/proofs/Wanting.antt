-- What the parts of a check want is among what the whole wants.
use Rattle.std.proofs.Common.{◌≡◌, ⊎_elim, ℕ, ◌-◌, Bool, true, false, eqb, List, [], ◌∷◌, ◌++◌, map, filter, flat_map, cond}
use Rattle.std.proofs.Common.{option_to_list, Option, Some, None, Err, if◌then◌else◌, refl, sym, ap, ◌∙◌, subst}
use Rattle.std.proofs.lemmas.List.Elements.{Contains-append_cases, Contains-append_left, Contains-append_right}
use Rattle.std.specs.List.{Contains}
use Rattle.btr_check_sums.specs.Sums.{run_sectors}
use Rattle.btr_items.specs.declared.sum_run.SumRun.{SumRun}
use Rattle.btr_read.specs.Store.{Blocks}
use Rattle.btr_read.specs.declared.want.Want.{Want}
use Rattle.btr_tour.specs.Tour.{Mark, Block, Child, Item, Left, Reached, blocks_met, place_of, whole}
use Rattle.btr_volume.specs.declared.root.TreeRoot.{TreeRoot}
use Rattle.btr_walk.specs.Le.{or_here, want_of}
use Rattle.btr_walk.specs.Reading.{Map, Reads, UnreadBlock}
use Rattle.btr_walk.specs.declared.fault.TreeFault.{TreeFault}
use Rattle.btr_walk.specs.declared.fault.TreeFault.TheVariants.{Lost, Unread, Unmapped, Crosses, Malformed}
use Rattle.btr_walk.specs.declared.place.RootPlace.{RootPlace}
use Rattle.btr_walk.specs.declared.block_pointer.BlockPointer.{BlockPointer}
use Rattle.btr_check.proofs.Openings.{AreChildren}
use Rattle.btr_check.proofs.Wants.{first_in, first_or_later, later_in, none_in, wants_met-append}
use Rattle.btr_check.specs.Filesystem.{Filesystem, is_file_tree}
use Rattle.btr_check.specs.Passes.{AreAll, Lists}
use Rattle.btr_check.specs.Passing.{Opens, children_marks, subtree_marks}
use Rattle.btr_check.specs.Running.{FaultUnread}
use Rattle.btr_check.specs.Trees.{chunk_tree, first_met, is_among, last_of, listed, place_of as at_place, root_tree, trees}
use Rattle.btr_check.specs.Walking.{ArePlaces, WalkSeen}
use Rattle.btr_check.specs.Wanted.{AreSums, OfAllTrees, OfData, OfPlaces, OfSector, OfSectors, OfSubtree, OfSubtrees}
use Rattle.btr_check.specs.Wanted.{OfTree, OfTrees, subtree_wants, want_at, wants_met}
use Rattle.btr_check.specs.declared.opening.Opened.{Opened}
use Rattle.btr_check.specs.declared.opening.Opened.TheVariants.{Whole, Children}
use Rattle.btr_check.specs.declared.places.BlockId.{BlockId}
use Rattle.btr_check.proofs.ExtentTrees.{same_tree, not_some}

-- ---- lists

-- what is made of a thing in a list is among all that is made of the list
pub in_flat : {X Y : Type 0} (f : X → List Y) (xs : List X) (x : X) (y : Y) → Contains xs x → Contains (f x) y → Contains (flat_map f xs) y
in_flat f [] x y h here = none_in x _ h
in_flat f (z ∷ zs) x y h here = ⊎_elim (λ is. Contains-append_left (f z) (flat_map f zs) y (subst (λ w. Contains (f w) y) (sym is) here))
    (λ later. Contains-append_right (f z) (flat_map f zs) y (in_flat f zs x y later here)) (first_or_later z zs x h)

-- what is among all that is made of a list is made of a thing in it
of_flat : {X Y : Type 0} (f : X → List Y) (xs : List X) (y : Y) → Contains (flat_map f xs) y → (x : X) × Contains xs x × Contains (f x) y
of_flat f [] y h = none_in y _ h
of_flat f (z ∷ zs) y h = ⊎_elim (λ here. (z, first_in z zs, here))
    (λ later. let one = of_flat f zs y later in (one.0, later_in z zs one.0 one.1, one.2)) (Contains-append_cases (f z) (flat_map f zs) y h)

-- what is in a mapped list comes from a thing in the list
of_map : {X Y : Type 0} (f : X → Y) (xs : List X) (y : Y) → Contains (map f xs) y → (x : X) × Contains xs x × (f x ≡ y)
of_map f [] y h = none_in y _ h
of_map f (z ∷ zs) y h = ⊎_elim (λ is. (z, first_in z zs, is))
    (λ later. let one = of_map f zs y later in (one.0, later_in z zs one.0 one.1, one.2)) (first_or_later (f z) (map f zs) y h)

-- what is left by a test was in the list
of_filter : {X : Type 0} (test : X → Bool) (xs : List X) (x : X) → Contains (filter test xs) x → Contains xs x
of_filter test [] x h = h
of_filter test (y ∷ ys) x h = by (of_filter test ys x) (test y) h
  where
    by : (Contains (filter test ys) x → Contains ys x) → (b : Bool) → Contains (cond b (y ∷ filter test ys) (filter test ys)) x → Contains (y ∷ ys) x
    by more true h = ⊎_elim (λ is. subst (Contains (y ∷ ys)) is (first_in y ys)) (λ later. later_in y ys x (more later))
        (first_or_later y (filter test ys) x h)
    by more false h = later_in y ys x (more h)

-- ---- trees

-- the last one of an id is one of the list
pub last_in : (id : ℕ) (all : List TreeRoot) (tree : TreeRoot) → last_of id all ≡ Some tree → Contains all tree
last_in id [] tree is = not_some tree _ is
last_in id (one ∷ more) tree is = by (last_in id more tree) (last_of id more) (eqb one.id id) refl is
  where
    by : (last_of id more ≡ Some tree → Contains more tree) → (o : Option TreeRoot) (b : Bool) → last_of id more ≡ o → or_here o b one ≡ Some tree
        → Contains (one ∷ more) tree
    by rest (Some later) b was e = later_in one more tree (rest (was ∙ e))
    by rest None true was e = subst (Contains (one ∷ more)) (same_tree one tree e) (first_in one more)
    by rest None false was e = not_some tree _ e

module _ (fs : Filesystem) where
  -- a tree that is listed, the chunk tree and the root tree are trees of the filesystem
  pub listed_in : (all : List TreeRoot) (tree : TreeRoot) → Lists all fs → Contains all tree → Contains (trees fs.sup fs.blocks) tree
  listed_in all tree lists h =
      let behind : List TreeRoot = root_tree fs.sup ∷ listed fs.sup fs.blocks in
      later_in (chunk_tree fs.sup) behind tree
      (later_in (root_tree fs.sup) (listed fs.sup fs.blocks) tree (subst (λ l. Contains l tree) lists h))

  -- a block of the chunk tree is one of a tree of the filesystem
  pub chunk_wanted : (tree : TreeRoot) (want : Want) → tree ≡ chunk_tree fs.sup → OfTree tree.place fs want → OfAllTrees fs want
  chunk_wanted tree want is h =
      (tree, subst (Contains (trees fs.sup fs.blocks)) (sym is) (first_in (chunk_tree fs.sup) (root_tree fs.sup ∷ listed fs.sup fs.blocks)), h)

  -- a block of the root tree is one of a tree of the filesystem
  pub root_wanted : (tree : TreeRoot) (want : Want) → tree ≡ root_tree fs.sup → OfTree tree.place fs want → OfAllTrees fs want
  root_wanted tree want is h = (
    tree,
    subst (Contains (trees fs.sup fs.blocks)) (sym is)
        (later_in (chunk_tree fs.sup) (root_tree fs.sup ∷ listed fs.sup fs.blocks) (root_tree fs.sup) (first_in (root_tree fs.sup) (listed fs.sup fs.blocks))),
    h,
  )

  -- of one tree
  pub one_wanted : (tree : TreeRoot) (want : Want) → OfTrees (option_to_list (Some tree)) fs want → OfTree tree.place fs want
  one_wanted tree want h = ⊎_elim (λ (is : tree ≡ h.0). subst (λ (t : TreeRoot). OfTree t.place fs want) (sym is) h.2)
      (λ none. none_in h.0 _ none) (first_or_later tree [] h.0 h.1)

  -- of the last one of an id
  pub last_wanted : (all : List TreeRoot) (id : ℕ) (tree : Option TreeRoot) (want : Want) → tree ≡ last_of id all → Lists all fs
      → OfTrees (option_to_list tree) fs want → OfAllTrees fs want
  last_wanted all id None want is lists h = none_in h.0 _ h.1
  last_wanted all id (Some tree) want is lists h = (tree, listed_in all tree lists (last_in id all tree (sym is)), one_wanted tree want h)

  -- of the last ones of two ids
  pub two_wanted : (all : List TreeRoot) (id other : ℕ) (first second : Option TreeRoot) (want : Want) → first ≡ last_of id all → second ≡ last_of other all
      → Lists all fs → OfTrees (option_to_list first ++ option_to_list second) fs want → OfAllTrees fs want
  two_wanted all id other first second want is has lists h =
      ⊎_elim (λ one. last_wanted all id first want is lists (h.0, one, h.2)) (λ two. last_wanted all other second want has lists (h.0, two, h.2))
      (Contains-append_cases (option_to_list first) (option_to_list second) h.0 h.1)

  -- of some trees that are all of the filesystem's
  pub all_wanted : (all : List TreeRoot) (want : Want) → AreAll all fs → OfTrees all fs want → OfAllTrees fs want
  all_wanted all want are h = (h.0, subst (λ l. Contains l h.0) are h.1, h.2)

  -- of trees of files among those that are listed
  pub files_wanted : (all files : List TreeRoot) (want : Want) → Lists all fs → files ≡ filter (λ (tree : TreeRoot). is_file_tree tree.id) all
      → OfTrees files fs want → OfAllTrees fs want
  files_wanted all files want lists are h = (
    h.0,
    listed_in all h.0 lists (of_filter (λ (tree : TreeRoot). is_file_tree tree.id) all h.0 (subst (λ l. Contains l h.0) are h.1)),
    h.2,
  )

-- ---- blocks that were met

-- a block that a tour met is one that it wants
met_wanted : (marks : List Mark) (one : Reached) → Contains (blocks_met marks) one → Contains (wants_met marks) (want_at one.place)
met_wanted [] one h = none_in one _ h
met_wanted (Block place block ∷ more) one h =
    ⊎_elim (λ is. subst (λ (r : Reached). Contains (want_at place ∷ wants_met more) (want_at r.place)) is (first_in (want_at place) (wants_met more)))
    (λ later. later_in (want_at place) (wants_met more) (want_at one.place) (met_wanted more one later))
    (first_or_later (record { place = place; block = block }) (blocks_met more) one h)
met_wanted (Child addr place ∷ more) one h = later_in (want_at place) (wants_met more) (want_at one.place) (met_wanted more one h)
met_wanted (Item item ∷ more) one h = met_wanted more one h
met_wanted (Left fault ∷ more) one h = met_wanted more one h

-- a block that wasn't met before is one of those that are met
first_met_in : (before : List BlockId) (all : List Reached) (one : Reached) → Contains (first_met before all) one → Contains all one
first_met_in before [] one h = h
first_met_in before (x ∷ xs) one h = by (λ more. first_met_in more xs one) (is_among before (at_place x.place)) h
  where
    by : ((more : List BlockId) → Contains (first_met more xs) one → Contains xs one) → (b : Bool)
        → Contains (if b then first_met before xs else x ∷ first_met (at_place x.place ∷ before) xs) one → Contains (x ∷ xs) one
    by rest true h = later_in x xs one (rest before h)
    by rest false h = ⊎_elim (λ is. subst (Contains (x ∷ xs)) is (first_in x xs)) (λ later. later_in x xs one (rest (at_place x.place ∷ before) later))
        (first_or_later x (first_met (at_place x.place ∷ before) xs) one h)

-- the blocks that trees reach are blocks of theirs
pub places_wanted : (fs : Filesystem) (all : List TreeRoot) (places : List RootPlace) (want : Want) → ArePlaces fs all places → OfPlaces places fs want
    → OfTrees all fs want
places_wanted fs all places want are h =
    let reached = of_map (λ (one : Reached). one.place) (first_met [] (flat_map (λ (tree : TreeRoot). blocks_met (whole fs.blocks tree.place)) all)) h.0
    (subst (λ l. Contains l h.0) are h.1) in
    let tree = of_flat (λ (tree : TreeRoot). blocks_met (whole fs.blocks tree.place)) all reached.0 (first_met_in [] _ reached.0 reached.1) in
    let here = met_wanted (whole fs.blocks tree.0.place) reached.0 tree.2 in
    let same : want_at reached.0.place ≡ want = ap want_at reached.2 ∙ sym h.2 in (
      tree.0,
      tree.1,
      later_in (want_at tree.0.place) (wants_met (whole fs.blocks tree.0.place)) want (subst (Contains (wants_met (whole fs.blocks tree.0.place))) same here),
    )

-- ---- subtrees

module _ (fs : Filesystem) where
  -- the block at a pointer is one of the subtree there
  pub here_wanted : (level : ℕ) (pointer : BlockPointer) (want : Want) → want ≡ want_of level pointer → OfSubtree level pointer fs want
  here_wanted level pointer want is =
      subst (Contains (subtree_wants fs.blocks level pointer)) (sym is) (first_in (want_of level pointer) (wants_met (subtree_marks fs level pointer)))

  -- a block of a child's subtree is wanted below the children of the node
  children_wanted : (addr level : ℕ) (block_pointers : List BlockPointer) (want : Want) (pointer : BlockPointer) → Contains block_pointers pointer
      → OfSubtree level pointer fs want
      → Contains (wants_met (children_marks fs addr level block_pointers)) want
  children_wanted addr level [] want pointer h of = none_in pointer _ h
  children_wanted addr level (s ∷ ss) want pointer h of =
      let here : List Want = subtree_wants fs.blocks level s in
      let later : List Mark = children_marks fs addr level ss in
      let all : wants_met (Child addr (place_of level s) ∷ subtree_marks fs level s ++ later) ≡ here ++ wants_met later =
      ap (λ l. want_of level s ∷ l) (wants_met-append (subtree_marks fs level s) later) in
      subst (λ l. Contains l want) (sym all)
      (⊎_elim (λ is. Contains-append_left here (wants_met later) want (subst (λ x. OfSubtree level x fs want) (sym is) of))
      (λ more. Contains-append_right here (wants_met later) want (children_wanted addr level ss want pointer more of)) (first_or_later s ss pointer h))

  -- the children of a block that was opened
  pub below_wanted : (level : ℕ) (pointer : BlockPointer) (old new : WalkSeen) (opened : Opened) (block_pointers : List BlockPointer) (want : Want)
      → Opens fs level pointer old new opened
      → AreChildren opened block_pointers → OfSubtrees (level - 1) block_pointers fs want → OfSubtree level pointer fs want
  below_wanted level pointer old new (Whole edges) block_pointers want opens are h = absurd are
  below_wanted level pointer old new (Children all) block_pointers want opens are h =
      let below : List Mark = children_marks fs pointer.addr (level - 1) all.items in
      later_in (want_of level pointer) (wants_met (subtree_marks fs level pointer)) want
      (subst (λ l. Contains (wants_met l) want) (sym opens.2)
      (later_in (want_of level pointer) (wants_met below) want
      (children_wanted pointer.addr (level - 1) all.items want h.0 (subst (λ l. Contains l h.0) are h.1) h.2)))

-- a block at a pointer that could not be read is the one that is wanted there
pub read_unread : (Is : UnreadBlock → Want → Type 0) (B : Map) (level : ℕ) (pointer : BlockPointer) (store : Blocks) (f : TreeFault)
    → Reads Is B level pointer store (Err f)
    → FaultUnread (λ u. (want : Want) × (want ≡ want_of level pointer) × Is u want) f
read_unread Is B level pointer store (Lost a) h = tt
read_unread Is B level pointer store (Unread a slot) h = (want_of level pointer, refl, h)
read_unread Is B level pointer store (Unmapped a) h = tt
read_unread Is B level pointer store (Crosses a) h = tt
read_unread Is B level pointer store (Malformed a) h = tt

-- a sector of a run is one of those that have a checksum
pub run_wanted : (fs : Filesystem) (runs : List SumRun) (sums : Option TreeRoot) (run : SumRun) (want : Want) → AreSums runs sums fs → Contains runs run
    → OfSectors sums (run_sectors run) fs want → OfData fs want
run_wanted fs runs sums run want are h one = (
  one.0,
  subst (λ l. Contains (flat_map run_sectors l) one.0) are.0 (in_flat run_sectors runs run one.0 h one.1),
  subst (λ (t : Option TreeRoot). OfSector t one.0 fs want) are.1 one.2,
)
