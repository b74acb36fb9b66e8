-- The run of a tour's program.
use Rattle.std.proofs.Common.{◌≡◌, ◌∙◌, ℕ, zero, suc, ◌-◌, List, [], ◌∷◌, ◌++◌, Option, Some, None, IfSome, Result, Ok, Err, refl, sym, ap, map, filter}
use Rattle.std.proofs.Common.{flat_map, append_assoc, append-nil, arith}
use Rattle.btr_base.specs.declared.key.Key.{Key}
use Rattle.btr_node.specs.Block.{items, pointers}
use Rattle.btr_node.specs.declared.node.Node.{Node}
use Rattle.btr_node.specs.declared.node.Node.TheVariants.{Leaf, Inner}
use Rattle.btr_prog.specs.Prog.{Wants, Does, Run, first, steps_of}
use Rattle.btr_prog.specs.Trying.{Done, tried, act_all}
use Rattle.btr_read.specs.Fate as fate
use Rattle.btr_read.specs.Store.{Blocks}
use Rattle.btr_read.specs.declared.want.Want.{Want}
use Rattle.btr_walk.specs.declared.fault.TreeFault.{TreeFault}
use Rattle.btr_walk.specs.declared.fault.TreeFault.TheVariants.{Lost, Unread, Unmapped, Crosses, Malformed}
use Rattle.btr_walk.specs.declared.block_pointer.BlockPointer.{BlockPointer}
use Rattle.btr_walk.specs.BlockPointer.{judged}
use Rattle.btr_walk.specs.Le.{root_pointer, want_of}
use Rattle.btr_walk.specs.Range.{items_within}
use Rattle.btr_walk.specs.Reading.{Map, UnreadBlock, Reads}
use Rattle.btr_walk.proofs.Ways.{IsLeafAt, IsInnerAt}
use Rattle.btr_tour.specs.Law.{MarksLaw}
use Rattle.btr_tour.specs.Tour.{Mark, Block, Child, Item, Left, place_of, child_pointers, meets_keys, child_tour, node_tour, block_tour, tour_at}
use Rattle.btr_tour.specs.Program.{TourProg, children, by_node, by_block, tour_from}
use Rattle.btr_tour.specs.Place.{children_left}
use Rattle.btr_tour.specs.Steps.{reason}

module _ (lo hi : Key) (B : Map) where
  -- the marks that a program meets
  abbrev met_by : TourProg → List Mark
  met_by p = steps_of (tried B p).marks

  -- marks that a program is to meet come first, and then those that the rest meets
  act_met : (xs : List Mark) (rest : TourProg) → met_by (act_all xs rest) ≡ xs ++ met_by rest
  act_met [] rest = refl
  act_met (x ∷ xs) rest = ap (λ ms. x ∷ ms) (act_met xs rest)

  module _ (tour : BlockPointer → TourProg → TourProg) (marks : BlockPointer → List Mark)
      (met : (pointer : BlockPointer) (rest : TourProg) → met_by (tour pointer rest) ≡ marks pointer ++ met_by rest) where
    -- children meet their pointers, each before what the child's tour meets, and then comes what the rest meets
    children_met : (addr level : ℕ) (block_pointers : List BlockPointer) (rest : TourProg) → met_by (children tour addr level block_pointers rest)
        ≡ flat_map (child_tour lo hi marks addr level) block_pointers ++ met_by rest
    children_met addr level [] rest = refl
    children_met addr level (pointer ∷ block_pointers) rest =
        let later : List Mark = flat_map (child_tour lo hi marks addr level) block_pointers in
        ap (λ ms. Child addr (place_of level pointer) ∷ ms)
        (met pointer (children tour addr level block_pointers rest)
        ∙ ap (λ ms. marks pointer ++ ms) (children_met addr level block_pointers rest)
        ∙ sym (append_assoc (marks pointer) later (met_by rest)))

    -- a node meets itself and what is below it, or the fault that it is malformed, and then comes what the rest meets
    node_met : (level : ℕ) (pointer : BlockPointer) (block : List ℕ) (rest : TourProg) (node : Option Node)
        → met_by (by_node lo hi tour level pointer block rest node) ≡ node_tour lo hi marks level pointer block node ++ met_by rest
    node_met level pointer block rest None = refl
    node_met level pointer block rest (Some (Leaf items)) = ap (λ ms. Block (place_of level pointer) block ∷ ms)
        (act_met (map Item (items_within lo hi pointer.addr items)) rest)
    node_met level pointer block rest (Some (Inner ps)) = ap (λ ms. Block (place_of level pointer) block ∷ ms)
        (children_met pointer.addr (level - 1) (filter (meets_keys lo hi) (child_pointers ps pointer.up)) rest)

    -- what became of a block meets the block's tour, and then comes what the rest meets
    block_met : (level : ℕ) (pointer : BlockPointer) (rest : TourProg) (came : Result (List ℕ) fate.Fault)
        → met_by (by_block lo hi tour level pointer rest came)
        ≡ block_tour lo hi marks level pointer came ++ met_by rest
    block_met level pointer rest (Ok block) = node_met level pointer block rest (judged level pointer block)
    block_met level pointer rest (Err fault) = refl

  -- the program from a block on meets the block's tour, and then comes what the rest meets
  pub tour_met : (level : ℕ) (pointer : BlockPointer) (rest : TourProg) → met_by (tour_from lo hi level pointer rest) ≡ tour_at lo hi B level pointer
      ++ met_by rest
  tour_met zero pointer rest = block_met (λ child more. more) (λ child. []) (λ child more. refl) 0 pointer rest (B (want_of 0 pointer))
  tour_met (suc n) pointer rest = block_met (tour_from lo hi n) (tour_at lo hi B n) (tour_met n) (suc n) pointer rest (B (want_of (suc n) pointer))

  -- a block is wanted first
  pub wants_first : (level : ℕ) (pointer : BlockPointer) (rest : TourProg) → (r : Run Want fate.Fault Mark (Unit {0}))
      × (tried B (tour_from lo hi level pointer rest) ≡ first (Wants (want_of level pointer)) r)
  wants_first zero pointer rest = (tried B (by_block lo hi (λ child more. more) 0 pointer rest (B (want_of 0 pointer))), refl)
  wants_first (suc n) pointer rest = (tried B (by_block lo hi (tour_from lo hi n) (suc n) pointer rest (B (want_of (suc n) pointer))), refl)

  -- a good leaf
  pub leaf_from : (level : ℕ) (pointer : BlockPointer) (block : List ℕ) (rest : TourProg) → IsLeafAt level pointer block → B (want_of level pointer) ≡ Ok block
      → tried B (tour_from lo hi level pointer rest) ≡ first (Wants (want_of level pointer))
      (first (Does (Block (place_of level pointer) block)) (tried B (act_all (map Item (items_within lo hi pointer.addr (items block))) rest)))
  leaf_from zero pointer block rest leaf came =
      ap (λ x. first (Wants (want_of 0 pointer)) (tried B (by_block lo hi (λ child more. more) 0 pointer rest x))) came
      ∙ ap (λ x. first (Wants (want_of 0 pointer)) (tried B (by_node lo hi (λ child more. more) 0 pointer block rest x))) leaf.is
  leaf_from (suc n) pointer block rest leaf came = let l = leaf.zero_level in absurd (omega (arith, l))

  -- a good inner node
  pub inner_from : (level : ℕ) (pointer : BlockPointer) (block : List ℕ) (rest : TourProg) → IsInnerAt level pointer block → B (want_of level pointer)
      ≡ Ok block
      → tried B (tour_from lo hi level pointer rest) ≡ first (Wants (want_of level pointer))
      (first (Does (Block (place_of level pointer) block)) (tried B (children_left lo hi level pointer 0 (child_pointers (pointers block) pointer.up) rest)))
  inner_from zero pointer block rest inner came = let l = inner.some in absurd (omega (arith, l))
  inner_from (suc n) pointer block rest inner came =
      let down : n ≡ suc n - 1 = omega arith in
      ap (λ x. first (Wants (want_of (suc n) pointer)) (tried B (by_block lo hi (tour_from lo hi n) (suc n) pointer rest x))) came
      ∙ ap (λ x. first (Wants (want_of (suc n) pointer)) (tried B (by_node lo hi (tour_from lo hi n) (suc n) pointer block rest x))) inner.is
      ∙ ap (λ k. first (Wants (want_of (suc n) pointer)) (first (Does (Block (place_of (suc n) pointer) block))
      (tried B (children (tour_from lo hi k) pointer.addr (suc n - 1) (filter (meets_keys lo hi) (child_pointers (pointers block) pointer.up)) rest)))) down

  -- a block that is left out
  abbrev pub IsOut : ℕ → BlockPointer → TourProg → fate.Fault → Type 0
  IsOut level pointer rest fault =
      tried B (tour_from lo hi level pointer rest) ≡ first (Wants (want_of level pointer)) (first (Does (Left fault)) (tried B rest))

  -- a block whose want comes to a fault is left out
  out_err : (level : ℕ) (pointer : BlockPointer) (rest : TourProg) (fault : fate.Fault) → B (want_of level pointer) ≡ Err fault → IsOut level pointer rest fault
  out_err zero pointer rest fault e = ap (λ x. first (Wants (want_of 0 pointer)) (tried B (by_block lo hi (λ child more. more) 0 pointer rest x))) e
  out_err (suc n) pointer rest fault e =
      ap (λ x. first (Wants (want_of (suc n) pointer)) (tried B (by_block lo hi (tour_from lo hi n) (suc n) pointer rest x))) e

  -- a block that isn't good at its pointer is left out, as a malformed one
  out_bad : (level : ℕ) (pointer : BlockPointer) (rest : TourProg) (block : List ℕ) → B (want_of level pointer) ≡ Ok block → judged level pointer block ≡ None
      → IsOut level pointer rest (fate.Malformed pointer.addr)
  out_bad zero pointer rest block came is =
      ap (λ x. first (Wants (want_of 0 pointer)) (tried B (by_block lo hi (λ child more. more) 0 pointer rest x))) came
      ∙ ap (λ x. first (Wants (want_of 0 pointer)) (tried B (by_node lo hi (λ child more. more) 0 pointer block rest x))) is
  out_bad (suc n) pointer rest block came is =
      ap (λ x. first (Wants (want_of (suc n) pointer)) (tried B (by_block lo hi (tour_from lo hi n) (suc n) pointer rest x))) came
      ∙ ap (λ x. first (Wants (want_of (suc n) pointer)) (tried B (by_node lo hi (tour_from lo hi n) (suc n) pointer block rest x))) is

  -- a block that could not be had, or isn't good, is left out, where it isn't one that could not be read
  pub fault_from : (Is : UnreadBlock → Want → Type 0) (level : ℕ) (pointer : BlockPointer) (rest : TourProg) (store : Blocks) (f : TreeFault)
      → Reads Is B level pointer store (Err f) → IfSome (reason f) (IsOut level pointer rest)
  fault_from Is level pointer rest store (Lost a) h = out_err level pointer rest (fate.Lost a) h
  fault_from Is level pointer rest store (Unread a slot) h = tt
  fault_from Is level pointer rest store (Unmapped a) h = out_err level pointer rest (fate.Unmapped a) h
  fault_from Is level pointer rest store (Crosses a) h = out_err level pointer rest (fate.Crosses a) h
  fault_from Is level pointer rest store (Malformed a) h = out_bad level pointer rest h.1.0 h.1.1 h.1.2
      ∙ ap (λ x. first (Wants (want_of level pointer)) (first (Does (Left (fate.Malformed x))) (tried B rest))) (sym h.0)

-- the marks of a tour are the steps of the run of its program
pub marks_law : MarksLaw
marks_law B root lo hi = tour_met lo hi B root.level (root_pointer root) (Done tt) ∙ append-nil (tour_at lo hi B root.level (root_pointer root))
