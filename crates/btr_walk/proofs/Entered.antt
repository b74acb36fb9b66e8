-- What a block is that was read on the way through a range.
use Rattle.std.proofs.Common.{◌≡◌, ℕ, zero, suc, ◌-◌, ◌<◌, true, inl, inr, List, [], ◌∷◌, drop, map, Some, IfSome, Ok, refl, sym, ap, ◌∙◌, subst, arith}
use Rattle.std.specs.List.{Contains}
use Rattle.btr_base.specs.declared.key.Key.{Key}
use Rattle.btr_node.specs.Block.{Item, KeyPointer, items, pointers}
use Rattle.btr_node.specs.declared.node.Node.TheVariants.{Leaf, Inner}
use Rattle.btr_prog.specs.Prog.{Wants, first, given, exec}
use Rattle.btr_read.specs.Store.{Blocks, Lent, block_of}
use Rattle.btr_read.specs.declared.want.Want.{Want}
use Rattle.btr_walk.specs.declared.choice.Part.{Part}
use Rattle.btr_walk.specs.declared.frame.Todo.{Todo}
use Rattle.btr_walk.specs.declared.block_pointer.BlockPointer.{BlockPointer}
use Rattle.btr_walk.specs.BlockPointer.{is_below, judged}
use Rattle.btr_walk.specs.Le.{tree_item, want_of}
use Rattle.btr_walk.specs.Range.{RangeProg, emit_all, over, range_leaf, range_inner, range_at}
use Rattle.btr_walk.specs.Reading.{Map}
use Rattle.btr_walk.specs.Scans.{IsChoice, IsPart, pointers_in, part_items, todo_prog, frame_prog, IsFrame, IsTodo}
use Rattle.std.proofs.lemmas.Bool.{cases_lt}
use Rattle.btr_walk.specs.Again.{IsFirstBelow, IsAgainBelow}
use Rattle.btr_walk.specs.Frames.{frame_or}
use Rattle.btr_walk.proofs.Belows.{no_child, skip_to}
use Rattle.btr_walk.proofs.Repeated.{again_as}
use Rattle.btr_walk.proofs.Choosing.{part_is}
use Rattle.btr_walk.proofs.Ways.{IsLeafAt, IsInnerAt}
use Rattle.btr_walk.specs.declared.frame.Below.{Below}
use Rattle.btr_walk.specs.Hand.{IsHeld}

module _ (lo hi : Key) (B : Map) where
  -- a leaf
  leaf_zero : (pointer : BlockPointer) (block : List ℕ) (part : Part) → judged 0 pointer block ≡ Some (Leaf (items block)) → IsPart lo hi (items block) part
      → B (want_of 0 pointer) ≡ Ok block → (rest : RangeProg) → exec B (range_at lo hi 0 pointer rest)
      ≡ first (Wants (want_of 0 pointer)) (exec B (emit_all (part_items pointer.addr block part.next part.end) rest))
  leaf_zero pointer block part is p e rest =
      ap (λ x. first (Wants (want_of 0 pointer)) (given x (λ b. exec B (range_leaf lo hi pointer rest (judged 0 pointer b))))) e
      ∙ ap (λ x. first (Wants (want_of 0 pointer)) (exec B (range_leaf lo hi pointer rest x))) is
      ∙ ap (λ (l : List Item). first (Wants (want_of 0 pointer)) (exec B (emit_all (map (tree_item pointer.addr) l) rest)))
      (part_is lo hi (items block) part.next part.end p.before p.behind p.low p.high)

  -- a leaf at its pointer gives, behind its want, its items from lo to hi, and then the rest
  pub enter_leaf : (level : ℕ) (pointer : BlockPointer) (block : List ℕ) (part : Part) → IsLeafAt level pointer block → IsPart lo hi (items block) part
      → B (want_of level pointer) ≡ Ok block → (rest : RangeProg) → exec B (range_at lo hi level pointer rest)
      ≡ first (Wants (want_of level pointer)) (exec B (emit_all (part_items pointer.addr block part.next part.end) rest))
  enter_leaf zero pointer block part leaf p e rest = leaf_zero pointer block part leaf.is p e rest
  enter_leaf (suc n) pointer block part leaf p e rest = let l = leaf.zero_level in absurd (omega (arith, l))

  -- a leaf that is in hand
  pub held_leaf : (level : ℕ) (pointer : BlockPointer) (block : List ℕ) (store : Blocks) (next end : ℕ) (loan : Lent) (seen : List Want)
      → IsLeafAt level pointer block
      → block_of store loan ≡ Some block → B (want_of level pointer) ≡ Ok block → Contains seen (want_of level pointer)
      → IsHeld B seen store (record { pointer = pointer; next = next; end = end; loan = loan })
  held_leaf level pointer block store next end loan seen leaf lent e c = record {
    block = block;
    lent = lent;
    came = subst (λ (n : ℕ). B (want_of n pointer) ≡ Ok block) leaf.zero_level e;
    is = subst (λ (n : ℕ). judged n pointer block ≡ Some (Leaf (items block))) leaf.zero_level leaf.is;
    read = subst (λ (n : ℕ). Contains seen (want_of n pointer)) leaf.zero_level c;
  }

  -- an inner node
  enter_at : (n : ℕ) (pointer : BlockPointer) (block : List ℕ) → judged (suc n) pointer block ≡ Some (Inner (pointers block)) → B (want_of (suc n) pointer)
      ≡ Ok block → (rest : RangeProg) → exec B (range_at lo hi (suc n) pointer rest)
      ≡ first (Wants (want_of (suc n) pointer)) (exec B (over lo hi (range_at lo hi n) (pointers block) pointer.up rest))
  enter_at n pointer block is e rest =
      ap (λ x. first (Wants (want_of (suc n) pointer)) (given x (λ b. exec B (range_inner lo hi (range_at lo hi n) pointer rest (judged (suc n) pointer b))))) e
      ∙ ap (λ x. first (Wants (want_of (suc n) pointer)) (exec B (range_inner lo hi (range_at lo hi n) pointer rest x))) is

  -- an inner node at its pointer gives, behind its want, what those of its children have that meet the keys, and then the rest
  enter_over : (level : ℕ) (pointer : BlockPointer) (block : List ℕ) → IsInnerAt level pointer block → B (want_of level pointer) ≡ Ok block → (rest : RangeProg)
      → exec B (range_at lo hi level pointer rest)
      ≡ first (Wants (want_of level pointer)) (exec B (over lo hi (range_at lo hi (level - 1)) (pointers block) pointer.up rest))
  enter_over zero pointer block inner e rest = let some = inner.some in absurd (omega (arith, some))
  enter_over (suc n) pointer block inner e rest =
      let m : n ≡ suc n - 1 = omega arith in
      enter_at n pointer block inner.is e rest
      ∙ ap (λ (x : ℕ). first (Wants (want_of (suc n) pointer)) (exec B (over lo hi (range_at lo hi x) (pointers block) pointer.up rest))) m

  -- the children that were chosen, and the first of them
  module _ (todo : Todo) (block : List ℕ) (part : Part) (b : Below) (inner : IsInnerAt todo.level todo.pointer block)
      (c : IsChoice lo hi (pointers block) part) (first_is : IsFirstBelow (pointers block) todo part b) (e : B (want_of todo.level todo.pointer) ≡ Ok block)
      (up : is_below todo.pointer.up lo ≡ true) where
    -- the frame of the children that were chosen, where there are some
    abbrev chosen : (seen : List Want) → Contains seen (want_of todo.level todo.pointer) → part.next < part.end
        → IsFrame lo hi B seen todo.level (record { pointer = todo.pointer; next = part.next; end = part.end })
    chosen seen read lt = record {
      node = record { block = block; came = e; is = inner.is; read = read; more = lt; within = c.within };
      up = up;
      behind = c.behind;
      low = c.low;
      high = c.high;
    }

    -- what is left of the children that were chosen is the first of them, and then the others
    again : (seen : List Want) → Contains seen (want_of todo.level todo.pointer) → part.next < part.end
        → IsAgainBelow lo hi B todo.level (record { pointer = todo.pointer; next = part.next; end = part.end }) seen b
    again seen read lt = again_as lo hi B todo.level (record { pointer = todo.pointer; next = part.next; end = part.end }) seen
        (chosen seen read lt) b.frame b.todo (first_is.some lt)

    -- an inner node gives, behind its want, the first child that was chosen, then the others, and then the rest
    pub enter_inner : (rest : RangeProg) → exec B (range_at lo hi todo.level todo.pointer rest)
        ≡ first (Wants (want_of todo.level todo.pointer)) (exec B (todo_prog lo hi b.todo (frame_or (frame_prog lo hi B) todo.level b.frame rest)))
    enter_inner rest =
        enter_over todo.level todo.pointer block inner e rest
        ∙ ap (λ p. first (Wants (want_of todo.level todo.pointer)) (exec B p)) (elim (cases_lt part.next part.end) [
          | inl lt ↦ skip_to lo hi (pointers block) todo.pointer.up up (range_at lo hi (todo.level - 1)) rest part.next c.there c.before
              ∙ ap (λ (ps : List KeyPointer). over lo hi (range_at lo hi (todo.level - 1)) (drop part.next ps) todo.pointer.up rest) (sym (ap pointers_in e))
              ∙ (again (want_of todo.level todo.pointer ∷ []) (0, omega arith, refl) lt).program rest
          | inr le ↦ no_child lo hi (pointers block) todo.pointer.up up (range_at lo hi (todo.level - 1)) rest part c le
              ∙ ap (λ (x : Below). todo_prog lo hi x.todo (frame_or (frame_prog lo hi B) todo.level x.frame rest)) (sym (first_is.none le))
        ])

    -- the frame that is left of an inner node has those of its children that meet the keys
    pub enter_frame : (seen : List Want) → Contains seen (want_of todo.level todo.pointer) → IfSome b.frame (IsFrame lo hi B seen todo.level)
    enter_frame seen read = elim (cases_lt part.next part.end) [
      | inl lt ↦ (again seen read lt).frame_is
      | inr le ↦ subst (λ (x : Below). IfSome x.frame (IsFrame lo hi B seen todo.level)) (sym (first_is.none le)) tt
    ]

    -- the child that is to be read next ends behind lo
    pub enter_todo : IsTodo lo hi b.todo
    enter_todo = elim (cases_lt part.next part.end) [
      | inl lt ↦ (again (want_of todo.level todo.pointer ∷ []) (0, omega arith, refl) lt).up
      | inr le ↦ subst (λ (x : Below). IsTodo lo hi x.todo) (sym (first_is.none le)) tt
    ]
