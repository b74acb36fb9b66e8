-- Which blocks are wanted on the way through trees.
use Rattle.std.proofs.Common.{◌≡◌, ◌⊎◌, inl, inr, ⊎_elim, ℕ, zero, suc, ◌-◌, List, [], ◌∷◌, ◌++◌, map, filter, flat_map}
use Rattle.std.proofs.Common.{Option, Some, None, Result, Ok, Err, refl, sym, ap, ◌∙◌, subst, arith}
use Rattle.std.proofs.lemmas.List.Elements.{Contains-append_right}
use Rattle.std.specs.List.{Contains}
use Rattle.btr_base.specs.Key.{last_key}
use Rattle.btr_node.specs.declared.node.Node.{Node}
use Rattle.btr_node.specs.declared.node.Node.TheVariants.{Leaf, Inner}
use Rattle.btr_prog.proofs.Follow.{names_left, names_right}
use Rattle.btr_prog.proofs.Runs.{wants_of-append}
use Rattle.btr_prog.specs.Answers.{Names, Follows, Unread as unread, no_part}
use Rattle.btr_prog.specs.Prog.{Return, Stop, Need, Emit, Run, bind, exec, given, wants_of}
use Rattle.btr_prog.specs.Thread.{go_on}
use Rattle.btr_prog.specs.Trying.{Done, Try, Act, act_all, tried}
use Rattle.btr_rack.specs.Rack.{Seen}
use Rattle.btr_read.specs.Fate as fate
use Rattle.btr_read.specs.Layout.{Layout}
use Rattle.btr_read.specs.declared.want.Want.{Want}
use Rattle.btr_tour.specs.Program.{TourProg, by_block, by_node, children, items_until_fault, tour_from, tour_prog}
use Rattle.btr_tour.specs.Tour.{Mark, Block, Child, Item, Left, block_tour, child_pointers, child_tour, first_key, meets_keys, node_tour, place_of, tour_at}
use Rattle.btr_tour.specs.Visits.{Visits}
use Rattle.btr_walk.specs.Folding.{FoldCause}
use Rattle.btr_walk.specs.Folds.{Next, Go, End, Broken, folded_over, next_prog}
use Rattle.btr_walk.specs.Le.{TreeItem, root_pointer, want_of}
use Rattle.btr_walk.specs.Range.{RangeProg, items_within, range}
use Rattle.btr_walk.specs.Reading.{Map, UnreadBlock, halt_of}
use Rattle.btr_walk.specs.BlockPointer.{judged}
use Rattle.btr_walk.specs.declared.fault.TreeFault.{TreeFault}
use Rattle.btr_walk.specs.declared.fault.TreeFault.TheVariants.{Lost, Unread, Unmapped, Crosses, Malformed}
use Rattle.btr_walk.specs.declared.folder.FoldFault.{FoldFault}
use Rattle.btr_walk.specs.declared.folder.FoldFault.TheVariants.{Tree as tree}
use Rattle.btr_walk.specs.declared.place.RootPlace.{RootPlace}
use Rattle.btr_walk.specs.declared.block_pointer.BlockPointer.{BlockPointer}
use Rattle.btr_check.proofs.Runs.{cause_unread, fault_more}
use Rattle.btr_check.specs.Running.{FaultUnread, IsAnyUnread}
use Rattle.btr_check.specs.Wanted.{subtree_wants, tree_wants, want_at, wants_met}

-- the first of a list, and one of the others
pub first_in : {X : Type 0} (x : X) (xs : List X) → Contains (x ∷ xs) x
first_in x xs = (0, omega arith, refl)

-- what is in a list is in it with one more in front
pub later_in : {X : Type 0} (x : X) (xs : List X) (y : X) → Contains xs y → Contains (x ∷ xs) y
later_in x xs y h = Contains-append_right (x ∷ []) xs y h

-- what is in a list is the first, or one of the others
pub first_or_later : {X : Type 0} (x : X) (xs : List X) (y : X) → Contains (x ∷ xs) y → (x ≡ y) ⊎ Contains xs y
first_or_later x xs y (zero, lt, at) = inl at
first_or_later x xs y (suc k, lt, at) = inr (k, omega (arith, lt), at)

-- nothing is in an empty list
pub none_in : {X : Type 0} (y : X) (P : Type 0) → Contains [] y → P
none_in y P h = absurd (omega (arith, h.1))

-- some want of a list has what is told of a block
pub named_in : (Is : UnreadBlock → Want → Type 0) (u : UnreadBlock) (ws : List Want) → Names Is u ws → (want : Want) × Contains ws want × Is u want
named_in Is u [] h = absurd h
named_in Is u (w ∷ ws) (inl is) = (w, first_in w ws, is)
named_in Is u (w ∷ ws) (inr more) = let one = named_in Is u ws more in (one.0, later_in w ws one.0 one.1, one.2)

-- a run that was broken off by a block that could not be read names one of its wants
wanted_by : {S A : Type 0} (Is : UnreadBlock → Want → Type 0) (u : UnreadBlock) (r : Run Want fate.Fault S A) (done : List S)
    → Follows Is no_part [] r done (Err (unread u)) → Names Is u (wants_of r.marks)
wanted_by Is u r done f =
    subst (Names Is u) (sym (wants_of-append f.before f.behind) ∙ sym (ap wants_of f.place))
    (names_left Is u (wants_of f.before) (wants_of f.behind) f.holds)

-- where a run's fault is a block that could not be read, one of its wants is that
pub fault_wanted : {S A : Type 0} (Is : UnreadBlock → Want → Type 0) (r : Run Want fate.Fault S A) (done : List S) (f : TreeFault)
    → Follows Is no_part [] r done (Err (halt_of f)) → FaultUnread (λ u. Names Is u (wants_of r.marks)) f
fault_wanted Is r done (Lost addr) h = tt
fault_wanted Is r done (Unread addr slot) h = wanted_by Is (record { addr = addr; slot = slot }) r done h
fault_wanted Is r done (Unmapped addr) h = tt
fault_wanted Is r done (Crosses addr) h = tt
fault_wanted Is r done (Malformed addr) h = tt

-- ---- what tours want

-- what two tours want, one behind the other, is what each of them wants
pub wants_met-append : (xs ys : List Mark) → wants_met (xs ++ ys) ≡ wants_met xs ++ wants_met ys
wants_met-append [] ys = refl
wants_met-append (Block place block ∷ xs) ys = ap (λ l. want_at place ∷ l) (wants_met-append xs ys)
wants_met-append (Child addr place ∷ xs) ys = ap (λ l. want_at place ∷ l) (wants_met-append xs ys)
wants_met-append (Item item ∷ xs) ys = wants_met-append xs ys
wants_met-append (Left fault ∷ xs) ys = wants_met-append xs ys

module _ (Is : UnreadBlock → Want → Type 0) (u : UnreadBlock) (B : Map) where
  -- what the program of a tour wants
  abbrev wanted : TourProg → List Want
  wanted p = wants_of (tried B p).marks

  -- either of some wants, or of the rest
  abbrev Either : List Want → TourProg → Type 0
  Either ws rest = Names Is u ws ⊎ Names Is u (wanted rest)

  -- steps before the rest want nothing themselves
  items_want : (ms : List Mark) (rest : TourProg) → Names Is u (wanted (act_all ms rest)) → Names Is u (wanted rest)
  items_want [] rest h = h
  items_want (m ∷ ms) rest h = items_want ms rest h

  module _ (tour : BlockPointer → TourProg → TourProg) (marks : BlockPointer → List Mark) (level : ℕ)
      (met : (pointer : BlockPointer) (rest : TourProg) → Names Is u (wanted (tour pointer rest))
      → Either (want_of (level - 1) pointer ∷ wants_met (marks pointer)) rest) where
    -- a block that could not be read in the tours of children is wanted by these, or by the rest
    children_want : (addr : ℕ) (block_pointers : List BlockPointer) (rest : TourProg) → Names Is u (wanted (children tour addr (level - 1) block_pointers rest))
        → Either (wants_met (flat_map (child_tour first_key last_key marks addr (level - 1)) block_pointers)) rest
    children_want addr [] rest h = inr h
    children_want addr (pointer ∷ block_pointers) rest h =
        let here : List Want = want_of (level - 1) pointer ∷ wants_met (marks pointer) in
        let later : List Mark = flat_map (child_tour first_key last_key marks addr (level - 1)) block_pointers in
        let all : wants_met (Child addr (place_of (level - 1) pointer) ∷ marks pointer ++ later) ≡ here ++ wants_met later =
        ap (λ l. want_of (level - 1) pointer ∷ l) (wants_met-append (marks pointer) later) in
        ⊎_elim (λ one. inl (subst (Names Is u) (sym all) (names_left Is u here (wants_met later) one)))
        (λ more. ⊎_elim (λ one. inl (subst (Names Is u) (sym all) (names_right Is u here (wants_met later) one))) (λ r. inr r)
        (children_want addr block_pointers rest more))
        (met pointer (children tour addr (level - 1) block_pointers rest) h)

    -- a block that could not be read behind a node's block is wanted below the node, or by the rest
    node_wants : (pointer : BlockPointer) (block : List ℕ) (rest : TourProg) (node : Option Node)
        → Names Is u (wanted (by_node first_key last_key tour level pointer block rest node))
        → Either (wants_met (node_tour first_key last_key marks level pointer block node)) rest
    node_wants pointer block rest None h = inr h
    node_wants pointer block rest (Some (Leaf items)) h = inr (items_want (map Item (items_within first_key last_key pointer.addr items)) rest h)
    node_wants pointer block rest (Some (Inner ps)) h = ⊎_elim (λ one. inl (inr one)) (λ r. inr r)
        (children_want pointer.addr (filter (meets_keys first_key last_key) (child_pointers ps pointer.up)) rest h)

    -- whatever a want came to, a block that could not be read behind it is wanted below it, or by the rest
    block_wants : (pointer : BlockPointer) (rest : TourProg) (came : Result (List ℕ) fate.Fault)
        → Names Is u (wanted (by_block first_key last_key tour level pointer rest came))
        → Either (wants_met (block_tour first_key last_key marks level pointer came)) rest
    block_wants pointer rest (Ok block) h = node_wants pointer block rest (judged level pointer block) h
    block_wants pointer rest (Err fault) h = inr h

  -- with one want more in front it is that one, one of the others, or one of the rest
  here_or : (w : Want) (ws : List Want) (rest : TourProg) → Is u w ⊎ Either ws rest → Either (w ∷ ws) rest
  here_or w ws rest (inl is) = inl (inl is)
  here_or w ws rest (inr (inl one)) = inl (inr one)
  here_or w ws rest (inr (inr more)) = inr more

  -- a block that could not be read in a tour from a pointer downwards is of the subtree, or the rest wants it
  subtree_want : (level : ℕ) (pointer : BlockPointer) (rest : TourProg) → Names Is u (wanted (tour_from first_key last_key level pointer rest))
      → Either (subtree_wants B level pointer) rest
  subtree_want zero pointer rest h = here_or (want_of 0 pointer) _ rest
      (⊎_elim (λ is. inl is) (λ more. inr (block_wants (λ child more. more) (λ child. []) 0 (λ child more h. inr h) pointer rest (B (want_of 0 pointer))
      more)) h)
  subtree_want (suc n) pointer rest h =
      let down : n ≡ suc n - 1 = omega arith in
      here_or (want_of (suc n) pointer) _ rest
      (⊎_elim (λ is. inl is) (λ more. inr (block_wants (tour_from first_key last_key n) (tour_at first_key last_key B n) (suc n)
      (λ child more h. subst (λ k. Either (want_of k child ∷ wants_met (tour_at first_key last_key B n child)) more) down (subtree_want n child more h))
      pointer rest (B (want_of (suc n) pointer)) more)) h)

  -- the tour of a tree wants its blocks
  pub tree_want : (root : RootPlace) → Names Is u (wanted (tour_prog first_key last_key root)) → (want : Want) × Contains (tree_wants B root) want × Is u want
  tree_want root h = named_in Is u (tree_wants B root)
      (⊎_elim (λ one. one) (λ none. absurd none) (subtree_want root.level (root_pointer root) (Done tt) h))

  -- a range wants what the tour does that stops at its first fault
  range_want : (p : TourProg) → Names Is u (wants_of (exec B (items_until_fault p)).marks) → Names Is u (wanted p)
  range_want (Done end) h = h
  range_want (Try w k) h = ⊎_elim (λ is. inl is) (λ more. inr (by (λ block. range_want (k (Ok block))) (B w) more)) h
    where
      by : ((block : List ℕ) → Names Is u (wants_of (exec B (items_until_fault (k (Ok block)))).marks) → Names Is u (wanted (k (Ok block))))
          → (came : Result (List ℕ) fate.Fault) → Names Is u (wants_of (given came (λ block. exec B (items_until_fault (k (Ok block))))).marks)
          → Names Is u (wanted (k came))
      by next (Ok block) more = next block more
      by next (Err fault) more = absurd more
  range_want (Act (Block place block) p) h = range_want p h
  range_want (Act (Child addr place) p) h = range_want p h
  range_want (Act (Item item) p) h = range_want p h
  range_want (Act (Left fault) p) h = absurd h

  -- what is made of the items of a range wants no more
  module _ {St R : Type 0} (step : St → TreeItem → Next St R) (answer : St → R) where
    -- a block that could not be read as items are folded is a want of their range
    fold_wants : (p : RangeProg) (state : St) → Names Is u (wants_of (exec B (folded_over step answer state p)).marks) → Names Is u (wants_of (exec B p).marks)
    fold_wants (Return end) state h = h
    fold_wants (Stop fault) state h = h
    fold_wants (Need w k) state h = ⊎_elim (λ is. inl is) (λ more. inr (by (λ block. fold_wants (k block) state) (B w) more)) h
      where
        by : ((block : List ℕ) → Names Is u (wants_of (exec B (folded_over step answer state (k block))).marks)
            → Names Is u (wants_of (exec B (k block)).marks))
            → (came : Result (List ℕ) fate.Fault) → Names Is u (wants_of (given came (λ block. exec B (folded_over step answer state (k block)))).marks)
            → Names Is u (wants_of (given came (λ block. exec B (k block))).marks)
        by next (Ok block) more = next block more
        by next (Err fault) more = more
    fold_wants (Emit item p) state h = by (λ more. fold_wants p more) (step state item) h
      where
        by : ((more : St) → Names Is u (wants_of (exec B (folded_over step answer more p)).marks) → Names Is u (wants_of (exec B p).marks))
            → (next : Next St R) → Names Is u (wants_of (exec B (bind (next_prog item.leaf next) (go_on (λ more. folded_over step answer more p)))).marks)
            → Names Is u (wants_of (exec B p).marks)
        by on (Go more) h = on more h
        by on (End r) h = absurd h
        by on Broken h = absurd h

-- a visit that was broken off by a block that could not be read wanted it
pub visit_unread : {St E : Type 0} (step : St → Mark → St) (Is : UnreadBlock → Want → Type 0) (B : Map) (root : RootPlace) (old new : St) (r : FoldFault E)
    (f : TreeFault) → r ≡ tree f → Visits step Is B root old new (Err r) → FaultUnread (λ u. (want : Want) × Contains (tree_wants B root) want × Is u want) f
visit_unread step Is B root old new r f is h =
    let v = subst (λ x. Visits step Is B root old new (Err x)) is h in
    let tour = tried B (tour_prog first_key last_key root) in
    fault_more (λ u. Names Is u (wants_of tour.marks)) (λ u. (want : Want) × Contains (tree_wants B root) want × Is u want)
    (λ u named. tree_want Is u B root named) f (fault_wanted Is tour v.done f v.refused)

-- a block that could not be read in a fold of a tree is some want, with its whole cause
pub fold_unread : {E : Type 0} (layout : Layout) (old new : Seen) (r : FoldFault E) (f : TreeFault) → r ≡ tree f
    → FoldCause {A = Unit {0}} layout old new (Err r) → FaultUnread (IsAnyUnread layout old new) f
fold_unread layout old new r f is h = cause_unread layout old new f (subst (λ x. FoldCause {A = Unit {0}} layout old new (Err x)) is h)
