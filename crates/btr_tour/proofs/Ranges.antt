-- A range is the tour that stops at its first fault, and has the items of a tour without faults.
use Rattle.std.proofs.Common.{◌≡◌, ◌∙◌, ℕ, zero, suc, ◌-◌, Bool, true, false, cond, List, [], ◌∷◌, Option, Some, None, Result, Ok, Err, refl, sym, ap, map}
use Rattle.std.proofs.Common.{filter, arith}
use Rattle.std.proofs.Math.Path.{fun_ext}
use Rattle.std.specs.Option.{is_some}
use Rattle.btr_base.specs.declared.key.Key.{Key}
use Rattle.btr_node.specs.Block.{Item as NodeItem, KeyPointer}
use Rattle.btr_node.specs.declared.node.Node.{Node}
use Rattle.btr_node.specs.declared.node.Node.TheVariants as node
use Rattle.btr_prog.specs.Prog.{Need, Emit, exec, given, steps_of}
use Rattle.btr_prog.specs.Trying.{Done, Try, Act, tried, act_all}
use Rattle.btr_read.specs.Fate.{Fault}
use Rattle.btr_walk.specs.declared.block_pointer.BlockPointer.{BlockPointer}
use Rattle.btr_walk.specs.BlockPointer.{judged}
use Rattle.btr_walk.specs.Le.{TreeItem, root_pointer, below, up_of, want_of}
use Rattle.btr_walk.specs.Range.{RangeProg, meets, emit_all, items_within, over, range_leaf, range_inner, range_at}
use Rattle.btr_walk.specs.Reading.{Map}
use Rattle.btr_walk.proofs.Ways.{leaf_at, inner_at}
use Rattle.btr_tour.specs.Tour.{Mark, Block, Child, Item, Left, child_pointers, meets_keys, items_met, faults_met}
use Rattle.btr_tour.specs.Program.{TourProg, children, by_node, tour_from, tour_prog, items_until_fault}
use Rattle.btr_tour.specs.Law.{StopsLaw, FaultlessLaw}
use Rattle.btr_tour.proofs.Programs.{marks_law}

-- a leaf is no inner node
no_inner : (pointer : BlockPointer) (block : List ℕ) (ps : List KeyPointer) → judged 0 pointer block ≡ Some (node.Inner ps) → ⊥
no_inner pointer block ps is =
    let leaf = leaf_at 0 pointer block (ap is_some is) refl in
    let e : Some (node.Inner ps) ≡ Some (node.Leaf _) = sym is ∙ leaf.is in cc

-- a block above level 0 is no leaf
no_leaf : (n : ℕ) (pointer : BlockPointer) (block : List ℕ) (xs : List NodeItem) → judged (suc n) pointer block ≡ Some (node.Leaf xs) → ⊥
no_leaf n pointer block xs is =
    let inner = inner_at (suc n) pointer block (ap is_some is) (λ e. absurd (omega (arith, e))) in
    let e : Some (node.Leaf xs) ≡ Some (node.Inner _) = sym is ∙ inner.is in cc

module _ (lo hi : Key) where
  -- up to the first fault items, and then the rest, give these items, and then what the rest gives
  stops_items : (xs : List TreeItem) (rest : TourProg) → items_until_fault (act_all (map Item xs) rest) ≡ emit_all xs (items_until_fault rest)
  stops_items [] rest = refl
  stops_items (x ∷ xs) rest = ap (Emit x) (stops_items xs rest)

  module _ (tour : BlockPointer → TourProg → TourProg) (child : BlockPointer → RangeProg → RangeProg)
      (stops : (pointer : BlockPointer) (rest : TourProg) → items_until_fault (tour pointer rest) ≡ child pointer (items_until_fault rest))
      (addr level : ℕ) where
    -- up to the first fault a child gives what its range does, if its keys meet the range, and else nothing
    by_test : (b : Bool) (pointer : BlockPointer) (block_pointers : List BlockPointer) (rest : TourProg) (more : RangeProg)
        → items_until_fault (children tour addr level block_pointers rest) ≡ more
        → items_until_fault (children tour addr level (cond b (pointer ∷ block_pointers) block_pointers) rest) ≡ cond b (child pointer more) more
    by_test false pointer block_pointers rest more e = e
    by_test true pointer block_pointers rest more e = stops pointer (children tour addr level block_pointers rest) ∙ ap (child pointer) e

    -- up to the first fault the children of a node give what their ranges do, where each child does
    stops_children : (ps : List KeyPointer) (up : Option Key) (rest : TourProg)
        → items_until_fault (children tour addr level (filter (meets_keys lo hi) (child_pointers ps up)) rest) ≡ over lo hi child ps up (items_until_fault rest)
    stops_children [] up rest = refl
    stops_children (p ∷ ps) up rest = by_test (meets lo hi p.key (up_of ps up)) (below p (up_of ps up))
        (filter (meets_keys lo hi) (child_pointers ps up)) rest (over lo hi child ps up (items_until_fault rest)) (stops_children ps up rest)

  -- up to the first fault the tour of a leaf gives what its range does
  stops_leaf : (pointer : BlockPointer) (block : List ℕ) (rest : TourProg) (o : Option Node) → judged 0 pointer block ≡ o
      → items_until_fault (by_node lo hi (λ child more. more) 0 pointer block rest o) ≡ range_leaf lo hi pointer (items_until_fault rest) o
  stops_leaf pointer block rest None is = refl
  stops_leaf pointer block rest (Some (node.Leaf xs)) is = stops_items (items_within lo hi pointer.addr xs) rest
  stops_leaf pointer block rest (Some (node.Inner ps)) is = absurd (no_inner pointer block ps is)

  -- up to the first fault the tour of an inner node gives what its range does, where each child's does
  stops_inner : (n : ℕ) (pointer : BlockPointer) (block : List ℕ) (rest : TourProg) (o : Option Node)
      → ((child : BlockPointer) (more : TourProg) → items_until_fault (tour_from lo hi n child more) ≡ range_at lo hi n child (items_until_fault more))
      → judged (suc n) pointer block ≡ o → items_until_fault (by_node lo hi (tour_from lo hi n) (suc n) pointer block rest o)
      ≡ range_inner lo hi (range_at lo hi n) pointer (items_until_fault rest) o
  stops_inner n pointer block rest None ih is = refl
  stops_inner n pointer block rest (Some (node.Leaf xs)) ih is = absurd (no_leaf n pointer block xs is)
  stops_inner n pointer block rest (Some (node.Inner ps)) ih is =
      stops_children (tour_from lo hi n) (range_at lo hi n) ih pointer.addr (suc n - 1) ps pointer.up rest

  -- up to the first fault the tour from a block on gives what the range from it does
  stops_from : (level : ℕ) (pointer : BlockPointer) (rest : TourProg) → items_until_fault (tour_from lo hi level pointer rest)
      ≡ range_at lo hi level pointer (items_until_fault rest)
  stops_from zero pointer rest = ap (Need (want_of 0 pointer)) (fun_ext (λ block. stops_leaf pointer block rest (judged 0 pointer block) refl))
  stops_from (suc n) pointer rest = ap (Need (want_of (suc n) pointer))
      (fun_ext (λ block. stops_inner n pointer block rest (judged (suc n) pointer block) (stops_from n) refl))

-- a range is the tour that stops at its first fault
pub stops_law : StopsLaw
stops_law root lo hi = stops_from lo hi root.level (root_pointer root) (Done tt)

-- ---- without faults

-- a program meets this fault next
abbrev IsLeft : Fault → TourProg → Type 0
IsLeft fault (Done u) = ⊥
IsLeft fault (Try w k) = ⊥
IsLeft fault (Act (Block place block) p) = ⊥
IsLeft fault (Act (Child addr place) p) = ⊥
IsLeft fault (Act (Item item) p) = ⊥
IsLeft fault (Act (Left other) p) = other ≡ fault

-- each fault of a want is met at once
abbrev MeetsFaults : TourProg → Type 0
MeetsFaults (Done u) = Unit {0}
MeetsFaults (Try w k) = ((fault : Fault) → IsLeft fault (k (Err fault))) × ((block : List ℕ) → MeetsFaults (k (Ok block)))
MeetsFaults (Act mark p) = MeetsFaults p

-- where the rest meets each fault of a want at once, it does so behind some marks
meets_all : (ms : List Mark) (rest : TourProg) → MeetsFaults rest → MeetsFaults (act_all ms rest)
meets_all [] rest h = h
meets_all (m ∷ ms) rest h = meets_all ms rest h

-- where each child's tour meets each fault of a want at once, all of them one after another do
meets_children : (tour : BlockPointer → TourProg → TourProg) → ((pointer : BlockPointer) (rest : TourProg) → MeetsFaults rest → MeetsFaults (tour pointer rest))
    → (addr level : ℕ) (block_pointers : List BlockPointer) (rest : TourProg) → MeetsFaults rest → MeetsFaults (children tour addr level block_pointers rest)
meets_children tour each addr level [] rest h = h
meets_children tour each addr level (pointer ∷ block_pointers) rest h =
    each pointer (children tour addr level block_pointers rest) (meets_children tour each addr level block_pointers rest h)

module _ (lo hi : Key) where
  -- where each child's tour meets each fault of a want at once, a node's does
  meets_node : (tour : BlockPointer → TourProg → TourProg) → ((pointer : BlockPointer) (rest : TourProg) → MeetsFaults rest → MeetsFaults (tour pointer rest))
      → (level : ℕ) (pointer : BlockPointer) (block : List ℕ) (rest : TourProg) (o : Option Node) → MeetsFaults rest
      → MeetsFaults (by_node lo hi tour level pointer block rest o)
  meets_node tour each level pointer block rest None h = h
  meets_node tour each level pointer block rest (Some (node.Leaf xs)) h = meets_all (map Item (items_within lo hi pointer.addr xs)) rest h
  meets_node tour each level pointer block rest (Some (node.Inner ps)) h = meets_children tour each pointer.addr (level - 1)
      (filter (meets_keys lo hi) (child_pointers ps pointer.up)) rest h

  -- the tour from a block on meets each fault of a want at once
  meets_from : (level : ℕ) (pointer : BlockPointer) (rest : TourProg) → MeetsFaults rest → MeetsFaults (tour_from lo hi level pointer rest)
  meets_from zero pointer rest h = (λ fault. refl, λ block. meets_node (λ child more. more) (λ child more g. g) 0 pointer block rest (judged 0 pointer block) h)
  meets_from (suc n) pointer rest h =
      (λ fault. refl, λ block. meets_node (tour_from lo hi n) (meets_from n) (suc n) pointer block rest (judged (suc n) pointer block) h)

module _ (B : Map) where
  -- the marks that a program meets
  abbrev marks_by : TourProg → List Mark
  marks_by p = steps_of (tried B p).marks

  -- up to its first fault a program comes to its end, and gives the items that it meets
  abbrev HasItems : TourProg → Type 0
  HasItems p = (steps_of (exec B (items_until_fault p)).marks ≡ items_met (marks_by p)) × ((exec B (items_until_fault p)).ending ≡ Ok tt)

  -- a program that meets a fault next isn't one without faults
  no_left : (fault : Fault) (p : TourProg) → IsLeft fault p → faults_met (marks_by p) ≡ [] → ⊥
  no_left fault (Done u) h none = h
  no_left fault (Try w k) h none = h
  no_left fault (Act (Block place block) p) h none = h
  no_left fault (Act (Child addr place) p) h none = h
  no_left fault (Act (Item item) p) h none = h
  no_left fault (Act (Left other) p) h none = let e : other ∷ faults_met (marks_by p) ≡ [] = none in cc

  -- where no fault is met, a want came to a block, and what follows gives the items that it meets
  by_fate : (x : Result (List ℕ) Fault) (k : Result (List ℕ) Fault → TourProg) → ((fault : Fault) → IsLeft fault (k (Err fault)))
      → ((block : List ℕ) → faults_met (marks_by (k (Ok block))) ≡ [] → HasItems (k (Ok block))) → faults_met (marks_by (k x)) ≡ []
      → (steps_of (given x (λ block. exec B (items_until_fault (k (Ok block))))).marks ≡ items_met (marks_by (k x)))
      × ((given x (λ block. exec B (items_until_fault (k (Ok block))))).ending ≡ Ok tt)
  by_fate (Ok block) k left ih none = ih block none
  by_fate (Err fault) k left ih none = absurd (no_left fault (k (Err fault)) (left fault) none)

  -- a program that meets its faults at once, and meets none, comes to its end and gives the items that it meets
  has_items : (p : TourProg) → MeetsFaults p → faults_met (marks_by p) ≡ [] → HasItems p
  has_items (Done u) h none = (refl, refl)
  has_items (Try w k) h none = by_fate (B w) k h.0 (λ block. has_items (k (Ok block)) (h.1 block)) none
  has_items (Act (Block place block) p) h none = has_items p h none
  has_items (Act (Child addr place) p) h none = has_items p h none
  has_items (Act (Item item) p) h none = let g = has_items p h none in (ap (λ is. item ∷ is) g.0, g.1)
  has_items (Act (Left fault) p) h none = absurd (let e : fault ∷ faults_met (marks_by p) ≡ [] = none in cc)

-- where a tour has no fault, the range comes to its end, and its items are the tour's
pub faultless_law : FaultlessLaw
faultless_law B root lo hi none =
    let same = marks_law B root lo hi in
    let stops = sym (stops_law root lo hi) in
    let g = has_items B (tour_prog lo hi root) (meets_from lo hi root.level (root_pointer root) (Done tt) tt) (ap faults_met same ∙ none) in
    (ap (λ p. steps_of (exec B p).marks) stops ∙ g.0 ∙ ap items_met same, ap (λ p. (exec B p).ending) stops ∙ g.1)
