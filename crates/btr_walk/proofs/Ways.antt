-- The run of a lookup, block by block.
use Rattle.std.proofs.Common.{◌≡◌, ◌⊎◌, inl, inr, ℕ, zero, suc, ◌-◌, ◌<◌, ◌≤◌, Bool, true, false, cond, eqb, IsTrue, List, [], ◌∷◌, ◌++◌, Option, Some, None}
use Rattle.std.proofs.Common.{IsSome, Result, Ok, Err, refl, sym, ap, ◌∙◌, subst, append_assoc, arith}
use Rattle.std.specs.Option.{option_map}
use Rattle.std.proofs.lemmas.Bool.{false≢true}
use Rattle.btr_base.specs.declared.key.Key.{Key}
use Rattle.btr_node.specs.Block.{Item, level_of, items, pointers, is_leaf, is_inner}
use Rattle.btr_node.specs.Node.{node_of}
use Rattle.btr_node.specs.declared.node.Node.{Node}
use Rattle.btr_node.specs.declared.node.Node.TheVariants.{Leaf, Inner}
use Rattle.btr_node.proofs.Leaves.{level-leaf}
use Rattle.btr_node.proofs.Inners.{level-inner}
use Rattle.btr_prog.specs.Prog.{BlockMap, Prog, Mark, Wants, Run, run, first, prepend, given, exec, steps_of, wants_of}
use Rattle.btr_prog.specs.Answers.{Halt, Fault, Unread, Follows, no_part}
use Rattle.btr_prog.proofs.Follow.{follows_behind}
use Rattle.btr_read.specs.Fate as fate
use Rattle.btr_read.specs.Store.{Blocks}
use Rattle.btr_read.specs.declared.want.Want.{Want}
use Rattle.btr_walk.specs.declared.fault.TreeFault.{TreeFault}
use Rattle.btr_walk.specs.declared.fault.TreeFault.TheVariants as tree
use Rattle.btr_walk.specs.declared.block_pointer.BlockPointer.{BlockPointer}
use Rattle.btr_walk.specs.BlockPointer.{keys_of, fits, fitting, judged}
use Rattle.btr_walk.specs.Le.{TreeItem, tree_item, want_of, le_item, le_child, le_leaf, le_inner, go_down, le_at}
use Rattle.btr_walk.specs.Reading.{UnreadBlock, halt_of, Reads}
use Rattle.btr_walk.proofs.Halting.{names_last}

-- what a judged block of a level is: a leaf at level 0, an inner node else
pub record IsLeafAt (level : ℕ) (pointer : BlockPointer) (block : List ℕ) : Type 0 where
  pub zero_level : level ≡ 0
  pub good : IsTrue (is_leaf block)
  pub is : judged level pointer block ≡ Some (Leaf (items block))

pub record IsInnerAt (level : ℕ) (pointer : BlockPointer) (block : List ℕ) : Type 0 where
  pub some : 0 < level
  pub few : level ≤ 7
  pub good : IsTrue (is_inner block)
  pub is : judged level pointer block ≡ Some (Inner (pointers block))

same_level : (a b : ℕ) → eqb a b ≡ true → a ≡ b
same_level a b e = grind arith

-- a block that was judged good has the level that is due, and its node fits the pointer
judged_at : (level : ℕ) (pointer : BlockPointer) (block : List ℕ) (same : Bool) → eqb (level_of block) level ≡ same
    → IsSome (cond same (fitting pointer (node_of block)) None) → (level_of block ≡ level) × (judged level pointer block ≡ fitting pointer (node_of block))
    × IsSome (fitting pointer (node_of block))
judged_at level pointer block true e h = (same_level (level_of block) level e, ap (λ b. cond b (fitting pointer (node_of block)) None) e, h)
judged_at level pointer block false e h = absurd (false≢true h)

some_if : (b : Bool) (node : Node) → IsSome (cond b (Some node) None) → cond b (Some node) None ≡ Some node
some_if true node h = refl
some_if false node h = absurd (false≢true h)

-- what a good block is judged to be is its node
fitting_some : (pointer : BlockPointer) (block : List ℕ) (node : Node) → node_of block ≡ Some node → IsSome (fitting pointer (node_of block))
    → fitting pointer (node_of block) ≡ Some node
fitting_some pointer block node is h =
    ap (fitting pointer) is ∙ some_if (fits pointer (keys_of node)) node (subst (λ o. IsSome (fitting pointer o)) is h)

-- a good block of its level that fits its pointer is a leaf at level 0, or an inner node above
node_is : (level : ℕ) (pointer : BlockPointer) (block : List ℕ) (leaf inner : Bool) → is_leaf block ≡ leaf → is_inner block ≡ inner → level_of block ≡ level
    → judged level pointer block ≡ fitting pointer (node_of block) → IsSome (fitting pointer (node_of block)) → IsLeafAt level pointer block
    ⊎ IsInnerAt level pointer block
node_is level pointer block true inner e f same is h =
    let node : node_of block ≡ Some (Leaf (items block)) =
    ap (λ b. cond b (Some (Leaf (items block))) (cond (is_inner block) (Some (Inner (pointers block))) None)) e in
    inl (record { zero_level = sym same ∙ level-leaf block e; good = e; is = is ∙ fitting_some pointer block (Leaf (items block)) node h })
node_is level pointer block false true e f same is h =
    let node : node_of block ≡ Some (Inner (pointers block)) =
    ap (λ b. cond b (Some (Leaf (items block))) (cond (is_inner block) (Some (Inner (pointers block))) None)) e
    ∙ ap (λ b. cond b (Some (Inner (pointers block))) None) f in
    let l = level-inner block f in
    inr (record {
      some = omega (arith, l.0, same);
      few = omega (arith, l.1, same);
      good = f;
      is = is ∙ fitting_some pointer block (Inner (pointers block)) node h;
    })
node_is level pointer block false false e f same is h =
    let node : node_of block ≡ None =
    ap (λ b. cond b (Some (Leaf (items block))) (cond (is_inner block) (Some (Inner (pointers block))) None)) e
    ∙ ap (λ b. cond b (Some (Inner (pointers block))) None) f in
    absurd (false≢true (subst (λ o. IsSome (fitting pointer o)) node h))

-- a block that was judged good is a leaf at level 0, or an inner node above
pub judged_is : (level : ℕ) (pointer : BlockPointer) (block : List ℕ) → IsSome (judged level pointer block) → IsLeafAt level pointer block
    ⊎ IsInnerAt level pointer block
judged_is level pointer block h =
    let j = judged_at level pointer block (eqb (level_of block) level) refl h in
    node_is level pointer block (is_leaf block) (is_inner block) refl refl j.0 j.1 j.2

-- a block that was judged good at level 0 is a leaf
pub leaf_at : (level : ℕ) (pointer : BlockPointer) (block : List ℕ) → IsSome (judged level pointer block) → level ≡ 0 → IsLeafAt level pointer block
leaf_at level pointer block h e = elim (judged_is level pointer block h) [ inl l ↦ l | inr i ↦ absurd (omega (arith, e, i.some)) ]

-- a block that was judged good at a level above 0 is an inner node
pub inner_at : (level : ℕ) (pointer : BlockPointer) (block : List ℕ) → IsSome (judged level pointer block) → (level ≡ 0 → ⊥) → IsInnerAt level pointer block
inner_at level pointer block h ne = elim (judged_is level pointer block h) [ inl l ↦ absurd (ne l.zero_level) | inr i ↦ i ]

-- where there is no step to do, a list of steps is empty
no_elements : (xs : List ⊥) → xs ≡ []
no_elements [] = refl
no_elements (x ∷ xs) = absurd x

-- what a lookup answers: an item, none, or why it halts
abbrev pub Answer : Type 0
Answer = Result (Option TreeItem) (Halt fate.Fault UnreadBlock)

module _ (B : BlockMap Want fate.Fault) (key : Key) where
  -- the run of a lookup from a block on down
  abbrev pub at : ℕ → BlockPointer → Run Want fate.Fault ⊥ (Option TreeItem)
  at level pointer = exec B (le_at level key pointer)

  -- an answer follows the run of a lookup from a block on down, behind the wants that were seen
  abbrev pub Ends : (UnreadBlock → Want → Type 0) → ℕ → BlockPointer → List Want → Answer → Type 0
  Ends Is level pointer seen ans = Follows Is no_part seen (at level pointer) [] ans

  -- how far a way down has come: some wants are past
  pub record Way (from : ℕ) (root : BlockPointer) (level : ℕ) (pointer : BlockPointer) : Type 0 where
    pub before : List (Mark Want ⊥)
    pub is : at from root ≡ prepend before (at level pointer)

  -- what is answered from a block on the way down is answered from the root
  pub way_ends : (Is : UnreadBlock → Want → Type 0) (from level : ℕ) (root pointer : BlockPointer) (ans : Answer) → Way from root level pointer
      → ((seen : List Want) → Ends Is level pointer seen ans) → Ends Is from root [] ans
  way_ends Is from level root pointer ans way h =
      subst (λ r. Follows Is no_part [] r [] ans) (sym way.is)
      (subst (λ (done : List ⊥). Follows Is no_part [] (prepend way.before (at level pointer)) done ans) (no_elements (steps_of way.before ++ []))
      (follows_behind Is no_part [] way.before (at level pointer) [] ans (h (wants_of way.before))))

  -- a block that came
  came : (level : ℕ) (pointer : BlockPointer) (block : List ℕ) (k : List ℕ → Prog Want fate.Fault ⊥ (Option TreeItem)) → B (want_of level pointer) ≡ Ok block
      → first (Wants (want_of level pointer)) (given (B (want_of level pointer)) (λ b. exec B (k b)))
      ≡ prepend (Wants (want_of level pointer) ∷ []) (exec B (k block))
  came level pointer block k e = ap (λ x. first (Wants (want_of level pointer)) (given x (λ b. exec B (k b)))) e

  -- from a leaf on, a lookup is the leaf's want, and then what the block gives
  pub at_leaf : (pointer : BlockPointer) (block : List ℕ) (node : Option Node) → B (want_of 0 pointer) ≡ Ok block → judged 0 pointer block ≡ node → at 0 pointer
      ≡ prepend (Wants (want_of 0 pointer) ∷ []) (exec B (le_leaf key pointer node))
  at_leaf pointer block node e is = came 0 pointer block (λ b. le_leaf key pointer (judged 0 pointer b)) e
      ∙ ap (λ n. prepend (Wants (want_of 0 pointer) ∷ []) (exec B (le_leaf key pointer n))) is

  -- from an inner node on, a lookup is the node's want, and then what the block leads to
  at_inner : (n : ℕ) (pointer : BlockPointer) (block : List ℕ) (node : Option Node) → B (want_of (suc n) pointer) ≡ Ok block → judged (suc n) pointer block
      ≡ node
      → at (suc n) pointer ≡ prepend (Wants (want_of (suc n) pointer) ∷ []) (exec B (le_inner (le_at n key) key pointer node))
  at_inner n pointer block node e is = came (suc n) pointer block (λ b. le_inner (le_at n key) key pointer (judged (suc n) pointer b)) e
      ∙ ap (λ x. prepend (Wants (want_of (suc n) pointer) ∷ []) (exec B (le_inner (le_at n key) key pointer x))) is

  -- where a lookup from a block on is this run, an answer that follows the run follows the lookup
  ended : (Is : UnreadBlock → Want → Type 0) (level : ℕ) (pointer : BlockPointer) (r : Run Want fate.Fault ⊥ (Option TreeItem)) (seen : List Want)
      (ans : Answer)
      → at level pointer ≡ r → Follows Is no_part seen r [] ans → Ends Is level pointer seen ans
  ended Is level pointer r seen ans e h = subst (λ x. Follows Is no_part seen x [] ans) (sym e) h

  -- a fault of the block
  faults : (Is : UnreadBlock → Want → Type 0) (level : ℕ) (pointer : BlockPointer) (f : fate.Fault) (k : List ℕ → Prog Want fate.Fault ⊥ (Option TreeItem))
      (seen : List Want) → B (want_of level pointer) ≡ Err f → Follows Is no_part seen
      (first (Wants (want_of level pointer)) (given (B (want_of level pointer)) (λ b. exec B (k b)))) [] (Err (Fault f))
  faults Is level pointer f k seen e = subst (λ x. Follows Is no_part seen (first (Wants (want_of level pointer)) (given x (λ b. exec B (k b)))) []
      (Err (Fault f))) (sym e) (refl, refl)

  -- a block that its want doesn't come to ends a lookup with the want's fault
  faults_at : (Is : UnreadBlock → Want → Type 0) (level : ℕ) (pointer : BlockPointer) (f : fate.Fault) (seen : List Want) → B (want_of level pointer) ≡ Err f
      → Ends Is level pointer seen (Err (Fault f))
  faults_at Is zero pointer f seen e = faults Is 0 pointer f (λ b. le_leaf key pointer (judged 0 pointer b)) seen e
  faults_at Is (suc n) pointer f seen e = faults Is (suc n) pointer f (λ b. le_inner (le_at n key) key pointer (judged (suc n) pointer b)) seen e

  -- a block that isn't good at its pointer ends a lookup: it is malformed
  bad_at : (Is : UnreadBlock → Want → Type 0) (level : ℕ) (pointer : BlockPointer) (block : List ℕ) (seen : List Want) → B (want_of level pointer) ≡ Ok block
      → judged level pointer block ≡ None → Ends Is level pointer seen (Err (Fault (fate.Malformed pointer.addr)))
  bad_at Is zero pointer block seen e is = ended Is 0 pointer (run (Wants (want_of 0 pointer) ∷ []) (Err (fate.Malformed pointer.addr))) seen
      (Err (Fault (fate.Malformed pointer.addr))) (at_leaf pointer block None e is) (refl, refl)
  bad_at Is (suc n) pointer block seen e is = ended Is (suc n) pointer (run (Wants (want_of (suc n) pointer) ∷ []) (Err (fate.Malformed pointer.addr))) seen
      (Err (Fault (fate.Malformed pointer.addr))) (at_inner n pointer block None e is) (refl, refl)

  -- a block that could not be read may end a lookup
  unread_at : (Is : UnreadBlock → Want → Type 0) (level : ℕ) (pointer : BlockPointer) (u : UnreadBlock) (seen : List Want) → Is u (want_of level pointer)
      → Ends Is level pointer seen (Err (Unread u))
  unread_at Is zero pointer u seen e =
      record {
        before = Wants (want_of 0 pointer) ∷ [];
        behind = (given (B (want_of 0 pointer)) (λ b. exec B (le_leaf key pointer (judged 0 pointer b)))).marks;
        left = None;
        place = refl;
        steps = refl;
        leaves = tt;
        holds = names_last Is u seen (want_of 0 pointer) e;
      }
  unread_at Is (suc n) pointer u seen e =
      record {
        before = Wants (want_of (suc n) pointer) ∷ [];
        behind = (given (B (want_of (suc n) pointer))
            (λ b. exec B (le_inner (le_at n key) key pointer (judged (suc n) pointer b)))).marks;
        left = None;
        place = refl;
        steps = refl;
        leaves = tt;
        holds = names_last Is u seen (want_of (suc n) pointer) e;
      }

  -- a block that could not be had, or isn't good at its pointer, ends a lookup with its fault
  pub halts_at : (Is : UnreadBlock → Want → Type 0) (level : ℕ) (pointer : BlockPointer) (store : Blocks) (f : TreeFault)
      → Reads Is B level pointer store (Err f)
      → (seen : List Want) → Ends Is level pointer seen (Err (halt_of f))
  halts_at Is level pointer store (tree.Lost a) h seen = faults_at Is level pointer (fate.Lost a) seen h
  halts_at Is level pointer store (tree.Unread a slot) h seen = unread_at Is level pointer (record { addr = a; slot = slot }) seen h
  halts_at Is level pointer store (tree.Unmapped a) h seen = faults_at Is level pointer (fate.Unmapped a) seen h
  halts_at Is level pointer store (tree.Crosses a) h seen = faults_at Is level pointer (fate.Crosses a) seen h
  halts_at Is level pointer store (tree.Malformed a) h seen =
      subst (λ (x : ℕ). Ends Is level pointer seen (Err (Fault (fate.Malformed x)))) (sym h.0) (bad_at Is level pointer h.1.0 seen h.1.1 h.1.2)

  -- a leaf was reached
  leaf_zero : (Is : UnreadBlock → Want → Type 0) (pointer : BlockPointer) (block : List ℕ) (found : Option Item) (seen : List Want) → B (want_of 0 pointer)
      ≡ Ok block → judged 0 pointer block ≡ Some (Leaf (items block)) → le_item key (items block) ≡ found
      → Ends Is 0 pointer seen (Ok (option_map (tree_item pointer.addr) found))
  leaf_zero Is pointer block found seen e is f =
      ended Is 0 pointer (run (Wants (want_of 0 pointer) ∷ []) (Ok (option_map (tree_item pointer.addr) found))) seen
      (Ok (option_map (tree_item pointer.addr) found))
      (at_leaf pointer block (Some (Leaf (items block))) e is ∙ ap (λ o. run (Wants (want_of 0 pointer) ∷ []) (Ok (option_map (tree_item pointer.addr) o))) f)
      (refl, refl)

  -- a leaf ends a lookup with its last item at or below the key, or with none
  pub leaf_ends : (Is : UnreadBlock → Want → Type 0) (level : ℕ) (pointer : BlockPointer) (block : List ℕ) (found : Option Item) → IsLeafAt level pointer block
      → le_item key (items block) ≡ found → B (want_of level pointer) ≡ Ok block → (seen : List Want)
      → Ends Is level pointer seen (Ok (option_map (tree_item pointer.addr) found))
  leaf_ends Is zero pointer block found leaf f e seen = leaf_zero Is pointer block found seen e leaf.is f
  leaf_ends Is (suc n) pointer block found leaf f e seen = let l = leaf.zero_level in absurd (omega (arith, l))

  -- no child is at or below the key
  pub nothing_at : (level : ℕ) (pointer : BlockPointer) (block : List ℕ) → IsInnerAt level pointer block → le_child key (pointers block) pointer.up ≡ None
      → B (want_of level pointer) ≡ Ok block → at level pointer ≡ run (Wants (want_of level pointer) ∷ []) (Ok None)
  nothing_at zero pointer block inner f e = let l = inner.some in absurd (omega (arith, l))
  nothing_at (suc n) pointer block inner f e =
      at_inner n pointer block (Some (Inner (pointers block))) e inner.is
      ∙ ap (λ o. prepend (Wants (want_of (suc n) pointer) ∷ []) (exec B (go_down (le_at n key) o))) f

  -- a node with no child at or below the key ends a lookup with no item
  pub inner_ends : (Is : UnreadBlock → Want → Type 0) (level : ℕ) (pointer : BlockPointer) (block : List ℕ) → IsInnerAt level pointer block
      → le_child key (pointers block) pointer.up ≡ None → B (want_of level pointer) ≡ Ok block → (seen : List Want) → Ends Is level pointer seen (Ok None)
  inner_ends Is zero pointer block inner f e seen = let l = inner.some in absurd (omega (arith, l))
  inner_ends Is (suc n) pointer block inner f e seen =
      ended Is (suc n) pointer (run (Wants (want_of (suc n) pointer) ∷ []) (Ok None)) seen (Ok None) (nothing_at (suc n) pointer block inner f e) (refl, refl)

  -- one level down
  pub down_at : (level : ℕ) (pointer child : BlockPointer) (block : List ℕ) → IsInnerAt level pointer block → le_child key (pointers block) pointer.up
      ≡ Some child
      → B (want_of level pointer) ≡ Ok block → at level pointer ≡ prepend (Wants (want_of level pointer) ∷ []) (at (level - 1) child)
  down_at zero pointer child block inner f e = let l = inner.some in absurd (omega (arith, l))
  down_at (suc n) pointer child block inner f e =
      let m : n ≡ suc n - 1 = omega arith in
      at_inner n pointer block (Some (Inner (pointers block))) e inner.is
      ∙ ap (λ o. prepend (Wants (want_of (suc n) pointer) ∷ []) (exec B (go_down (le_at n key) o))) f
      ∙ ap (λ l. prepend (Wants (want_of (suc n) pointer) ∷ []) (at l child)) m

  -- the way down goes on at a node's last child at or below the key
  pub way_down : (from level : ℕ) (root pointer child : BlockPointer) (block : List ℕ) → Way from root level pointer → IsInnerAt level pointer block
      → le_child key (pointers block) pointer.up ≡ Some child → B (want_of level pointer) ≡ Ok block → Way from root (level - 1) child
  way_down from level root pointer child block way inner f e = record {
    before = way.before ++ (Wants (want_of level pointer) ∷ []);
    is = way.is ∙ (ap (prepend way.before) (down_at level pointer child block inner f e)
        ∙ ap (λ ms. run ms (at (level - 1) child).ending) (sym (append_assoc way.before (Wants (want_of level pointer) ∷ []) (at (level - 1) child).marks)));
  }
