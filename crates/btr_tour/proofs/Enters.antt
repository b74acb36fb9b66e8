-- What a step meets that reads a block.
use Rattle.std.proofs.Common.{◌≡◌, ◌∙◌, ℕ, zero, suc, ◌+◌, ◌-◌, ◌<◌, ◌≤◌, List, [], ◌∷◌, ◌++◌, length, get_or, set, map, drop, true, Option, Some, None, IfSome}
use Rattle.std.proofs.Common.{IsSomeAnd, IsTrue, Ok, Err, refl, sym, ap, subst, append-nil, arith}
use Rattle.std.proofs.lemmas.List.{set-set}
use Rattle.std.proofs.lemmas.List.Elements.{Contains-append_left}
use Rattle.btr_base.specs.Header.{header_of}
use Rattle.btr_base.specs.declared.kind.SumKind.{SumKind}
use Rattle.btr_base.specs.declared.key.Key.{Key}
use Rattle.btr_node.specs.Block.{Item as NodeItem, KeyPointer, items, pointers, is_leaf}
use Rattle.btr_node.specs.declared.node.Node.TheVariants.{Leaf, Inner}
use Rattle.btr_prog.specs.Prog.{Wants, Does, first}
use Rattle.btr_prog.specs.Trying.{Done, Act, tried, act_all}
use Rattle.btr_prog.specs.Answers.{Follows, no_part}
use Rattle.btr_prog.specs.Answers as halt
use Rattle.btr_prog.proofs.Follow.{want_unread}
use Rattle.btr_rack.specs.Rack.{Seen}
use Rattle.btr_read.specs.Fate as fate
use Rattle.btr_read.specs.Layout.{Layout}
use Rattle.btr_read.specs.Store.{Blocks, Lent, block_of}
use Rattle.btr_read.specs.declared.want.Want.{Want}
use Rattle.btr_walk.specs.Advancing.{hand_items}
use Rattle.btr_walk.specs.Again.{IsChild, IsNextBelow, Rereads}
use Rattle.btr_walk.specs.Frames.{frame_or}
use Rattle.btr_walk.specs.Going.{IsAlong}
use Rattle.btr_walk.specs.Hand.{behind_next, IsHeld, IsInHand}
use Rattle.btr_walk.specs.Le.{root_pointer, tree_item, want_of}
use Rattle.btr_walk.specs.Range.{items_within}
use Rattle.btr_walk.specs.Ranks.{IsShaped}
use Rattle.btr_walk.specs.Reading.{Map, UnreadBlock, Reads, IsUnreadOf, CauseOf}
use Rattle.btr_walk.specs.Scans.{part_items, FramesPart, IsChoice, IsPart, IsFrame, IsTodo}
use Rattle.btr_walk.specs.BlockPointer.{is_below}
use Rattle.btr_walk.specs.declared.choice.Part.{Part}
use Rattle.btr_walk.specs.declared.fault.TreeFault.{TreeFault}
use Rattle.btr_walk.specs.declared.fault.TreeFault.TheVariants.{Lost, Unread, Unmapped, Crosses, Malformed}
use Rattle.btr_walk.specs.declared.frame.Below.{Below}
use Rattle.btr_walk.specs.declared.frame.Frame.{Frame}
use Rattle.btr_walk.specs.declared.frame.Todo.{Todo}
use Rattle.btr_walk.specs.declared.going.Where.{Where}
use Rattle.btr_walk.specs.declared.leaf_at.LeafAt.{LeafAt}
use Rattle.btr_walk.specs.declared.path.AtLevel.{AtLevel}
use Rattle.btr_walk.specs.declared.place.RootPlace.{RootPlace}
use Rattle.btr_walk.specs.declared.block_pointer.BlockPointer.{BlockPointer}
use Rattle.btr_walk.proofs.Choosing.{part_is}
use Rattle.btr_walk.proofs.Fetched.{some_block}
use Rattle.btr_walk.proofs.Frames.{path_set, path_here, path_bare, path_none, last_read}
use Rattle.btr_walk.proofs.Halting.{unread_halts}
use Rattle.btr_walk.proofs.Joined.{block_is}
use Rattle.btr_walk.proofs.Items.{part_next, part_none}
use Rattle.btr_walk.proofs.Ranking.{above_fits}
use Rattle.btr_walk.proofs.Repeated.{again_as}
use Rattle.btr_walk.proofs.Ways.{IsLeafAt, IsInnerAt}
use Rattle.btr_tour.specs.declared.scope.Scope.{Scope}
use Rattle.btr_tour.specs.declared.step.Step.TheVariants.{Item}
use Rattle.btr_tour.specs.Tour as marks
use Rattle.btr_tour.specs.Tour.{place_of, child_pointers}
use Rattle.btr_tour.specs.Program.{TourProg, tour_from, tour_prog}
use Rattle.btr_tour.specs.Place.{want_next, next_want, leaf_left, children_left, frame_left, path_left, todo_left, place_left}
use Rattle.btr_tour.specs.Steps.{IsLowest, Arrived, left_out, passed_leaf, left, MeetsBlock, MeetsItem, Meets, StepsBy, Advances, AdvancesIn}
use Rattle.btr_tour.specs.Steps.{HasStep, StepCause}
use Rattle.btr_tour.proofs.Programs.{IsOut, wants_first, leaf_from, inner_from, fault_from}
use Rattle.btr_tour.proofs.Paths.{chosen_left, chosen_frame, next_left, later_left, along_set, along_more, frame_wanted}

-- a loan has one block
pub same_block : (o : Option (List ℕ)) (a b : List ℕ) → o ≡ Some a → o ≡ Some b → a ≡ b
same_block o a b e f = let h : Some a ≡ Some b = sym e ∙ f in cc

-- a leaf in hand
pub leaf_hand : (store : Blocks) (l : LeafAt) (block : List ℕ) (rest : TourProg) → block_of store l.loan ≡ Some block
    → leaf_left store (Some l) rest ≡ act_all (map marks.Item (part_items l.pointer.addr block l.next l.end)) rest
leaf_hand store l block rest is = ap (λ o. act_all (map marks.Item (hand_items o l)) rest) is

-- a leaf in hand that has no item more
pub hand_none : (store : Blocks) (l : LeafAt) (block : List ℕ) (rest : TourProg) → block_of store l.loan ≡ Some block → l.end ≤ l.next
    → leaf_left store (Some l) rest ≡ rest
hand_none store l block rest is le =
    leaf_hand store l block rest is ∙ ap (λ xs. act_all (map marks.Item xs) rest) (part_none l.pointer.addr block l.next l.end le)

-- the child that a node has
pub next_child : (ps : List KeyPointer) (level : ℕ) (frame : Frame) (o : Option Frame) (todo : Todo) → IsNextBelow ps level frame o (Some todo)
    → IsChild ps level frame todo
next_child ps level frame None todo h = h.0
next_child ps level frame (Some f) todo h = h.0

module _ (lo hi : Key) (B : Map) where
  -- what a place has still to meet is the block that is to be read, if there is one, and then what is left of its nodes
  todo_is : (place : Where) (t : Option Todo) → place.todo ≡ t → place_left lo hi B place ≡ todo_left lo hi B t (path_left lo hi B 0 place.path)
  todo_is place t e = ap (λ x. todo_left lo hi B x (path_left lo hi B 0 place.path)) e

  -- all was met
  pub all_met : (place : Where) → place.todo ≡ None → ((k : ℕ) → get_or place.path k None ≡ None) → place_left lo hi B place ≡ Done tt
  all_met place none clear = todo_is place None none ∙ path_none (frame_left lo hi B) (Done tt) 0 place.path clear

  -- nothing is met yet
  pub begun : (place : Where) (root : RootPlace) → place.todo ≡ Some (record { level = root.level; pointer = root_pointer root })
      → ((k : ℕ) → get_or place.path k None ≡ None) → place_left lo hi B place ≡ tour_prog lo hi root
  begun place root todo clear = todo_is place (Some (record { level = root.level; pointer = root_pointer root })) todo
      ∙ ap (tour_from lo hi root.level (root_pointer root)) (path_none (frame_left lo hi B) (Done tt) 0 place.path clear)

  -- the next item of a leaf in hand is met
  pub hand_meets : (seen : List Want) (store : Blocks) (place : Where) (l : LeafAt) (block : List ℕ) → block_of store l.loan ≡ Some block
      → l.next < l.end → l.end ≤ length (items block) → IsAlong lo hi B seen place → IsHeld B seen store l
      → MeetsItem lo hi B seen (left lo hi B store place (Some l)) store place
      (Some (record { pointer = l.pointer; next = l.next + 1; end = l.end; loan = l.loan })) l.next
  hand_meets seen store place l block is lt within on held =
      let then : LeafAt = record { pointer = l.pointer; next = l.next + 1; end = l.end; loan = l.loan } in
      let rest : TourProg = place_left lo hi B place in
      some_block store l.loan block (λ (b : List ℕ). (d : NodeItem)
      → Meets lo hi B seen (left lo hi B store place (Some l)) store place (Some then) (marks.Item (tree_item l.pointer.addr (get_or (items b) l.next d)))) is
      (λ d. record {
        past = [];
        met = ap (tried B)
            (leaf_hand store l block rest is
            ∙ ap (λ xs. act_all (map marks.Item xs) rest) (part_next l.pointer.addr block l.next l.end d lt within)
            ∙ ap (Act (marks.Item (tree_item l.pointer.addr (get_or (items block) l.next d)))) (sym (leaf_hand store then block rest is)));
        on = subst (λ (ws : List Want). IsAlong lo hi B ws place) (sym (append-nil seen)) on;
        held = record {
          block = held.block;
          lent = held.lent;
          came = held.came;
          is = held.is;
          read = Contains-append_left seen [] (want_of 0 l.pointer) held.read;
        };
      })

  -- a good leaf
  pub enter_leaf : (seen : List Want) (sums : SumKind) (place : Where) (level : ℕ) (pointer : BlockPointer) (store : Blocks) (loan : Lent) (block : List ℕ)
      (part : Part) → place.todo ≡ Some (record { level = level; pointer = pointer }) → level ≡ 0 → IsLeafAt level pointer block → B (want_of level pointer)
      ≡ Ok block
      → block_of store loan ≡ Some block → IsPart lo hi (items block) part → IsAlong lo hi B seen place
      → MeetsBlock lo hi B seen sums (place_left lo hi B place) store (record { path = place.path; todo = None })
      (Some (record { pointer = pointer; next = part.next; end = part.end; loan = loan })) (place_of level pointer) (header_of sums block)
  enter_leaf seen sums place (suc n) pointer store loan block part todo low leaf came is p on = absurd (omega (arith, low))
  enter_leaf seen sums place zero pointer store loan block part todo low leaf came is p on =
      let l : LeafAt = record { pointer = pointer; next = part.next; end = part.end; loan = loan } in
      let gone : LeafAt = record { pointer = pointer; next = part.end; end = part.end; loan = loan } in
      let rest : TourProg = path_left lo hi B 0 place.path in
      let hand : leaf_left store (Some l) rest ≡ act_all (map marks.Item (items_within lo hi pointer.addr (items block))) rest =
      leaf_hand store l block rest is
      ∙ ap (λ (xs : List NodeItem). act_all (map marks.Item (map (tree_item pointer.addr) xs)) rest)
      (sym (part_is lo hi (items block) part.next part.end p.before p.behind p.low p.high)) in
      let none : leaf_left store (Some gone) rest ≡ rest = hand_none store gone block rest is (omega arith) in
      record {
        pointer = pointer;
        block = block;
        node = Leaf (items block);
        came = came;
        good = leaf.is;
        at_is = refl;
        header_is = refl;
        met = ap (tried B) (todo_is place (Some (record { level = 0; pointer = pointer })) todo)
            ∙ leaf_from lo hi B 0 pointer block rest leaf came
            ∙ ap (λ p. first (Wants (want_of 0 pointer)) (first (Does (marks.Block (place_of 0 pointer) block)) (tried B p))) (sym hand);
        below = hand ∙ ap (act_all (map marks.Item (items_within lo hi pointer.addr (items block)))) (sym none);
        on = along_more lo hi B seen (want_of 0 pointer ∷ []) place (record { path = place.path; todo = None }) refl refl on;
        held = record { block = block; lent = is; came = came; is = leaf.is; read = last_read seen (want_of 0 pointer) };
      }

  -- a good inner node
  pub enter_node : (seen : List Want) (sums : SumKind) (place : Where) (level : ℕ) (pointer : BlockPointer) (store : Blocks) (block : List ℕ)
      (path' : List (Option Frame)) (part : Part) (o : Option Frame) → place.todo ≡ Some (record { level = level; pointer = pointer })
      → IsInnerAt level pointer block → B (want_of level pointer) ≡ Ok block → IsShaped place → IsChoice lo hi (pointers block) part → FramesPart pointer part o
      → path' ≡ set place.path (level - 1) o → IsAlong lo hi B seen place
      → MeetsBlock lo hi B seen sums (place_left lo hi B place) store (record { path = path'; todo = None }) None (place_of level pointer)
      (header_of sums block)
  enter_node seen sums place zero pointer store block path' part o todo inner came shaped choice from set_is on =
      let l = inner.some in absurd (omega (arith, l))
  enter_node seen sums place (suc n) pointer store block path' part o todo inner came shaped choice from set_is on =
      let w : Want = want_of (suc n) pointer in
      let down : suc n - 1 ≡ n = omega arith in
      let up : n + 1 ≡ suc n = omega arith in
      let few = inner.few in
      let within : n < length place.path = omega (arith, shaped.long, few) in
      let above : (k : ℕ) → k < suc n → get_or place.path k None ≡ None =
      let P : Option Todo → Type 0 = λ x. IfSome x (λ t. (k : ℕ) → k < t.level → get_or place.path k None ≡ None) in subst P todo shaped.above in
      let clear : (k : ℕ) → k < n → get_or place.path k None ≡ None = λ k lt. above k (omega arith) in
      let path_is : path' ≡ set place.path n o = set_is ∙ ap (λ i. set place.path i o) down in
      let rest : TourProg = path_left lo hi B (n + 1) (drop (suc n) place.path) in
      let block_pointers : List BlockPointer = child_pointers (pointers block) pointer.up in
      let below_up : is_below pointer.up lo ≡ true = let P : Option Todo → Type 0 = IsTodo lo hi in subst P todo on.up in
      let left_is : path_left lo hi B 0 path' ≡ children_left lo hi (suc n) pointer 0 block_pointers rest =
      path_set (frame_left lo hi B) (Done tt) n place.path path' o within clear path_is
      ∙ ap (λ l. frame_or (frame_left lo hi B) l o rest) up ∙ chosen_left lo hi B (suc n) pointer block part came choice o rest from in
      let gone : path_left lo hi B 0 (set path' n None) ≡ rest =
      path_set (frame_left lo hi B) (Done tt) n place.path (set path' n None) None within clear
      (ap (λ p. set p n None) path_is ∙ set-set place.path n o None) in
      record {
        pointer = pointer;
        block = block;
        node = Inner (pointers block);
        came = came;
        good = inner.is;
        at_is = refl;
        header_is = refl;
        met = ap (tried B) (todo_is place (Some (record { level = suc n; pointer = pointer })) todo)
            ∙ inner_from lo hi B (suc n) pointer block (path_left lo hi B 0 place.path) inner came
            ∙ ap (λ p. first (Wants w) (first (Does (marks.Block (place_of (suc n) pointer) block))
            (tried B (children_left lo hi (suc n) pointer 0 block_pointers p)))) (path_bare (frame_left lo hi B) (Done tt) n place.path within above)
            ∙ ap (λ p. first (Wants w) (first (Does (marks.Block (place_of (suc n) pointer) block)) (tried B p))) (sym left_is);
        below = left_is ∙ ap (children_left lo hi (suc n) pointer 0 block_pointers) (sym gone);
        on = record {
          frames = λ k. subst (λ p. IfSome (get_or p k None) (IsFrame lo hi B (seen ++ (w ∷ [])) (k + 1))) (sym path_is)
              (along_set lo hi B seen (w ∷ []) place.path n o within on.frames
              (subst (λ l. IfSome o (IsFrame lo hi B (seen ++ (w ∷ [])) l)) (sym up)
              (chosen_frame lo hi B (suc n) pointer block part came choice (seen ++ (w ∷ [])) o inner.is below_up (last_read seen w) from)) k);
          above = tt;
          up = tt;
        };
        held = tt;
      }

  -- a block that is left out
  out_of_todo : (seen : List Want) (place : Where) (level : ℕ) (pointer : BlockPointer) (store : Blocks) (fault : fate.Fault)
      → place.todo ≡ Some (record { level = level; pointer = pointer }) → IsOut lo hi B level pointer (path_left lo hi B 0 place.path) fault
      → IsAlong lo hi B seen place → Meets lo hi B seen (place_left lo hi B place) store (record { path = place.path; todo = None }) None (marks.Left fault)
  out_of_todo seen place level pointer store fault todo is on = record {
    past = want_of level pointer ∷ [];
    met = ap (tried B) (todo_is place (Some (record { level = level; pointer = pointer })) todo) ∙ is;
    on = along_more lo hi B seen (want_of level pointer ∷ []) place (record { path = place.path; todo = None }) refl refl on;
    held = tt;
  }

  -- a block that could not be read
  refused_todo : (Is : UnreadBlock → Want → Type 0) (seen : List Want) (place : Where) (level : ℕ) (pointer : BlockPointer) (u : UnreadBlock)
      → place.todo ≡ Some (record { level = level; pointer = pointer }) → Is u (want_of level pointer)
      → Follows Is no_part seen (tried B (place_left lo hi B place)) [] (Err (halt.Unread u))
  refused_todo Is seen place level pointer u todo is =
      let w = wants_first lo hi B level pointer (path_left lo hi B 0 place.path) in
      subst (λ r. Follows Is no_part seen r [] (Err (halt.Unread u)))
      (sym (ap (tried B) (todo_is place (Some (record { level = level; pointer = pointer })) todo) ∙ w.1))
      (want_unread Is no_part seen u (want_of level pointer) w.0 is)

  -- a block that could not be had, or isn't good, is left out, but one that could not be read is refused
  pub enter_fault : (Is : UnreadBlock → Want → Type 0) (sums : SumKind) (place : Where) (level : ℕ) (pointer : BlockPointer) (store : Blocks) (f : TreeFault)
      → place.todo ≡ Some (record { level = level; pointer = pointer }) → Reads Is B level pointer store (Err f)
      → Advances lo hi B Is (λ seen. Unit {0}) sums place (place_left lo hi B place) store (left_out place (record { path = place.path; todo = None }) f)
  enter_fault Is sums place level pointer store (Lost a) todo h seen on none = out_of_todo seen place level pointer store (fate.Lost a) todo
      (fault_from lo hi B Is level pointer (path_left lo hi B 0 place.path) store (Lost a) h) on
  enter_fault Is sums place level pointer store (Unread a slot) todo h seen on none =
      record { refused = refused_todo Is seen place level pointer (record { addr = a; slot = slot }) todo h; same = refl; on = on; held = tt }
  enter_fault Is sums place level pointer store (Unmapped a) todo h seen on none = out_of_todo seen place level pointer store (fate.Unmapped a) todo
      (fault_from lo hi B Is level pointer (path_left lo hi B 0 place.path) store (Unmapped a) h) on
  enter_fault Is sums place level pointer store (Crosses a) todo h seen on none = out_of_todo seen place level pointer store (fate.Crosses a) todo
      (fault_from lo hi B Is level pointer (path_left lo hi B 0 place.path) store (Crosses a) h) on
  enter_fault Is sums place level pointer store (Malformed a) todo h seen on none = out_of_todo seen place level pointer store (fate.Malformed a) todo
      (fault_from lo hi B Is level pointer (path_left lo hi B 0 place.path) store (Malformed a) h) on

  module _ (place : Where) (low : AtLevel) (none : place.todo ≡ None) (lowest : IsLowest place low) (shaped : IsShaped place) where
    -- the lowest frame stands within the path
    within : low.at < length place.path
    within = let w = lowest.within in omega (arith, shaped.long, w)

    -- the lowest frame is one of a node that was read before
    pub frame_here : (seen : List Want) → IsAlong lo hi B seen place → IsFrame lo hi B seen (low.at + 1) low.frame
    frame_here seen on = subst (λ o. IfSome o (IsFrame lo hi B seen (low.at + 1))) lowest.here (on.frames low.at)

    -- the next child of the lowest node
    pub meets_child : (seen : List Want) (store : Blocks) (b : Below) (todo : Todo) (path' : List (Option Frame)) (on : IsAlong lo hi B seen place)
        → IsNextBelow (pointers (frame_here seen on).node.block) (low.at + 1) low.frame b.frame b.todo → b.todo ≡ Some todo
        → path' ≡ set place.path low.at b.frame
        → Meets lo hi B seen (place_left lo hi B place) store (record { path = path'; todo = Some todo }) None
        (marks.Child low.frame.pointer.addr (place_of todo.level todo.pointer))
    meets_child seen store b todo path' on h some set_is =
        let f = frame_here seen on in
        let frame = low.frame in
        let next : IsNextBelow (pointers f.node.block) (low.at + 1) frame b.frame (Some todo) =
        subst (IsNextBelow (pointers f.node.block) (low.at + 1) frame b.frame) some h in
        let again = again_as lo hi B (low.at + 1) frame seen f b.frame b.todo h in
        let child = next_child (pointers f.node.block) (low.at + 1) frame b.frame todo next in
        let rest : TourProg = path_left lo hi B (low.at + 1) (drop (suc low.at) place.path) in
        let then : path_left lo hi B 0 path' ≡ children_left lo hi (low.at + 1) frame.pointer (frame.next + 1)
        (child_pointers (pointers f.node.block) frame.pointer.up) rest =
        path_set (frame_left lo hi B) (Done tt) low.at place.path path' b.frame within lowest.before set_is
        ∙ later_left lo hi B seen (low.at + 1) frame f b.frame (Some todo) rest next in
        let level : todo.level ≤ low.at = omega (arith, child.level_is) in
        record {
          past = [];
          met = ap (tried B)
              (todo_is place None none
              ∙ path_here (frame_left lo hi B) (Done tt) low.at place.path frame within lowest.before lowest.here
              ∙ next_left lo hi B seen (low.at + 1) frame f todo rest child
              ∙ ap (λ p. Act (marks.Child frame.pointer.addr (place_of todo.level todo.pointer)) (tour_from lo hi todo.level todo.pointer p)) (sym then));
          on = record {
            frames = λ k. subst (λ p. IfSome (get_or p k None) (IsFrame lo hi B (seen ++ []) (k + 1))) (sym set_is)
                (along_set lo hi B seen [] place.path low.at b.frame within on.frames
                (subst (λ (ws : List Want). IfSome b.frame (IsFrame lo hi B ws (low.at + 1))) (sym (append-nil seen)) again.frame_is) k);
            above = λ k lt. ap (λ p. get_or p k None) set_is ∙ above_fits place.path low.at b.frame (Some todo) lowest.before level k lt;
            up = subst (IsTodo lo hi) some again.up;
          };
          held = tt;
        }

    -- a node that could not be read again
    pub child_fault : (Is : UnreadBlock → Want → Type 0) (sums : SumKind) (after : Where) (store : Blocks) (f : TreeFault)
        → Rereads Is B (low.at + 1) low.frame (Err f) → Advances lo hi B Is (λ seen. Unit {0}) sums place (place_left lo hi B place) store
        (left_out place after f)
    child_fault Is sums after store f h seen on none = by f (h seen (frame_here seen on).node)
      where
        by : (f : TreeFault) → IsUnreadOf Is seen f → let a = left_out place after f in
            StepsBy lo hi B Is seen sums (place_left lo hi B place) store a.place a.leaf a.step
        by (Lost a) u = absurd u
        by (Unread a slot) u = record { refused = unread_halts Is seen (Unread a slot) (tried B (place_left lo hi B place)) u; same = refl; on = on; held = tt }
        by (Unmapped a) u = absurd u
        by (Crosses a) u = absurd u
        by (Malformed a) u = absurd u

-- where no leaf can be the one in hand, none is in hand
pub is_none_of : (leaf : Option LeafAt) → ((l : LeafAt) → leaf ≡ Some l → ⊥) → leaf ≡ None
is_none_of None h = refl
is_none_of (Some l) h = absurd (h l refl)

-- a step with a leaf in hand: its next item is met, or it has none, and the step goes on without it
module _ (scope : Scope) (Is : UnreadBlock → Want → Type 0) (B : Map) (old : Blocks) (place : Where) (l : LeafAt) (hand : IsInHand old l) where
  -- with a leaf in hand that has more items, the next of them is met
  pub hand_steps : l.next < l.end → AdvancesIn scope Is B old place (Some l) old
      (record { place = place; leaf = Some (behind_next l); step = Ok (Item l.next) })
  hand_steps lt seen on held =
      hand_meets scope.lo scope.hi B seen old place l held.block held.lent lt
      (block_is old l.loan held.block (λ (b : List ℕ). IsTrue (is_leaf b) × (l.end ≤ length (items b))) held.lent hand.good).1 on held

  -- with a leaf in hand that has no more items, a step does what it does with none
  pub hand_over : (given : Blocks) → l.end ≤ l.next → (store : Blocks) (a : Arrived) → AdvancesIn scope Is B given place None store a
      → AdvancesIn scope Is B old place (Some l) store a
  hand_over given le store a h seen on held =
      subst (λ p. StepsBy scope.lo scope.hi B Is seen scope.sums p store a.place a.leaf a.step)
      (sym (hand_none old l held.block (place_left scope.lo scope.hi B place) held.lent le)) (h seen on tt)

-- a leaf that is passed
pub held_passed : (B : Map) (seen : List Want) (store : Blocks) (leaf : Option LeafAt) → IfSome leaf (IsHeld B seen store)
    → IfSome (passed_leaf 0 leaf) (IsHeld B seen store)
held_passed B seen store None h = tt
held_passed B seen store (Some l) h = record { block = h.block; lent = h.lent; came = h.came; is = h.is; read = h.read }

-- which block was to be read
pub todo_wanted : (place : Where) (todo : Todo) (P : Want → Type 0) → place.todo ≡ Some todo → P (want_of todo.level todo.pointer)
    → IsSomeAnd (next_want place) P
todo_wanted place todo P e h = subst (λ t. IsSomeAnd (want_next t place.path) P) (sym e) h

-- where no block is to be read, the lowest node is the one that is read next
pub low_wanted : (place : Where) (low : AtLevel) (P : Want → Type 0) → place.todo ≡ None → IsLowest place low
    → P (want_of (low.at + 1) low.frame.pointer) → IsSomeAnd (next_want place) P
low_wanted place low P none lowest h =
    let e : 0 + low.at + 1 ≡ low.at + 1 = omega arith in
    subst (λ t. IsSomeAnd (want_next t place.path) P) (sym none)
    (subst (λ o. IsSomeAnd o P) (sym (frame_wanted 0 low.at place.path low.frame lowest.before lowest.here ∙ ap (λ n. Some (want_of n low.frame.pointer)) e)) h)

-- what is told of what was left out or could not be read, whatever was read
pub out_shaped : (place after : Where) (f : TreeFault) → IsShaped place → IsShaped after → IsShaped (left_out place after f).place
out_shaped place after (Lost a) s t = t
out_shaped place after (Unread a slot) s t = s
out_shaped place after (Unmapped a) s t = t
out_shaped place after (Crosses a) s t = t
out_shaped place after (Malformed a) s t = t

-- where a block was left out or refused no leaf is in hand, and where it was refused the place stays
pub out_step : (place after : Where) (f : TreeFault) → HasStep place (left_out place after f).place (left_out place after f).leaf (left_out place after f).step
out_step place after (Lost a) = (refl, refl)
out_step place after (Unread a slot) = (refl, refl, refl)
out_step place after (Unmapped a) = (refl, refl)
out_step place after (Crosses a) = (refl, refl)
out_step place after (Malformed a) = (refl, refl)

-- where a block was left out or refused, no leaf is in hand
pub out_leaf : (place after : Where) (f : TreeFault) → (left_out place after f).leaf ≡ None
out_leaf place after (Lost a) = refl
out_leaf place after (Unread a slot) = refl
out_leaf place after (Unmapped a) = refl
out_leaf place after (Crosses a) = refl
out_leaf place after (Malformed a) = refl

-- its cause
pub out_cause : (layout : Layout) (before now : Seen) (place after : Where) (f : TreeFault)
    → IsSomeAnd (next_want place) (λ want. CauseOf layout want before now f) → StepCause layout before now place (left_out place after f).step
out_cause layout before now place after (Lost a) h = h
out_cause layout before now place after (Unread a slot) h = h
out_cause layout before now place after (Unmapped a) h = h
out_cause layout before now place after (Crosses a) h = h
out_cause layout before now place after (Malformed a) h = h
