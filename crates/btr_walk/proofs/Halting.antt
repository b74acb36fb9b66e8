-- A block that could not be had ends what wanted it.
use Rattle.std.proofs.Common.{◌≡◌, inl, inr, ℕ, zero, suc, List, [], ◌∷◌, ◌++◌, Some, None, Ok, Err, refl, sym, ap, ◌∙◌, subst, arith}
use Rattle.std.specs.List.{Contains}
use Rattle.btr_prog.specs.Prog.{Prog, Need, Wants, Run, run, first, given, exec}
use Rattle.btr_prog.specs.Answers.{Fault, Unread, Names, Follows, no_part}
use Rattle.btr_prog.proofs.Follow.{unread_here}
use Rattle.btr_node.specs.declared.node.Node.{Node}
use Rattle.btr_read.specs.Fate as fate
use Rattle.btr_read.specs.Store.{Blocks}
use Rattle.btr_read.specs.declared.want.Want.{Want}
use Rattle.btr_walk.specs.declared.fault.TreeFault.{TreeFault}
use Rattle.btr_walk.specs.declared.fault.TreeFault.TheVariants as tree
use Rattle.btr_walk.specs.declared.block_pointer.BlockPointer.{BlockPointer}
use Rattle.btr_walk.specs.BlockPointer.{judged}
use Rattle.btr_walk.specs.Le.{want_of}
use Rattle.btr_walk.specs.Reading.{Map, UnreadBlock, Reads, IsUnreadOf, halt_of}

-- a block that could not be read is one of the wants that were seen, where it is the last of them
pub names_last : (Is : UnreadBlock → Want → Type 0) (u : UnreadBlock) (seen : List Want) (w : Want) → Is u w → Names Is u (seen ++ (w ∷ []))
names_last Is u [] w e = inl e
names_last Is u (v ∷ seen) w e = inr (names_last Is u seen w e)

-- a block that could not be read is one of the wants that were seen, where it is one of them
pub named : (Is : UnreadBlock → Want → Type 0) (u : UnreadBlock) (seen : List Want) (w : Want) → Is u w → Contains seen w → Names Is u seen
named Is u [] w e c = absurd (omega (arith, c.1))
named Is u (v ∷ seen) w e (zero, lt, at) = inl (subst (Is u) (sym at) e)
named Is u (v ∷ seen) w e (suc k, lt, at) = inr (named Is u seen w e (k, omega (arith, lt), at))

module _ {S A : Type 0} (Is : UnreadBlock → Want → Type 0) (B : Map) where
  -- a want that comes to a fault ends its program with it
  faults : (w : Want) (f : fate.Fault) (k : List ℕ → Prog Want fate.Fault S A) (seen : List Want) → B w ≡ Err f
      → Follows Is no_part seen (exec B (Need w k)) [] (Err (Fault f))
  faults w f k seen e = subst (λ x. Follows Is no_part seen (first (Wants w) (given x (λ b. exec B (k b)))) [] (Err (Fault f))) (sym e) (refl, refl)

  -- a want whose block leads to a fault ends its program with it
  bad : (w : Want) (f : fate.Fault) (block : List ℕ) (k : List ℕ → Prog Want fate.Fault S A) (seen : List Want) → B w ≡ Ok block → exec B (k block)
      ≡ run [] (Err f) → Follows Is no_part seen (exec B (Need w k)) [] (Err (Fault f))
  bad w f block k seen e is = subst (λ x. Follows Is no_part seen (first (Wants w) (given x (λ b. exec B (k b)))) [] (Err (Fault f))) (sym e)
      (subst (λ x. Follows Is no_part seen (first (Wants w) x) [] (Err (Fault f))) (sym is) (refl, refl))

  -- a want that could not be read may end its program
  unread : (w : Want) (u : UnreadBlock) (k : List ℕ → Prog Want fate.Fault S A) (seen : List Want) → Is u w
      → Follows Is no_part seen (exec B (Need w k)) [] (Err (Unread u))
  unread w u k seen e =
      record {
        before = Wants w ∷ [];
        behind = (given (B w) (λ b. exec B (k b))).marks;
        left = None;
        place = refl;
        steps = refl;
        leaves = tt;
        holds = names_last Is u seen w e;
      }

  -- a block of a level at a pointer that could not be had, or does not fit, ends what wants it
  pub need_halts : (level : ℕ) (pointer : BlockPointer) (store : Blocks) (f : TreeFault) (k : List ℕ → Prog Want fate.Fault S A) (seen : List Want)
      → ((block : List ℕ) → judged level pointer block ≡ None → exec B (k block) ≡ run [] (Err (fate.Malformed pointer.addr)))
      → Reads Is B level pointer store (Err f) → Follows Is no_part seen (exec B (Need (want_of level pointer) k)) [] (Err (halt_of f))
  need_halts level pointer store (tree.Lost a) k seen stops h = faults (want_of level pointer) (fate.Lost a) k seen h
  need_halts level pointer store (tree.Unread a slot) k seen stops h = unread (want_of level pointer) (record { addr = a; slot = slot }) k seen h
  need_halts level pointer store (tree.Unmapped a) k seen stops h = faults (want_of level pointer) (fate.Unmapped a) k seen h
  need_halts level pointer store (tree.Crosses a) k seen stops h = faults (want_of level pointer) (fate.Crosses a) k seen h
  need_halts level pointer store (tree.Malformed a) k seen stops h =
      subst (λ (x : ℕ). Follows Is no_part seen (exec B (Need (want_of level pointer) k)) [] (Err (Fault (fate.Malformed x)))) (sym h.0)
      (bad (want_of level pointer) (fate.Malformed pointer.addr) h.1.0 k seen h.1.1 (stops h.1.0 h.1.2))

-- a block that was read before and now could not be read may end anything
pub unread_halts : {S A : Type 0} (Is : UnreadBlock → Want → Type 0) (seen : List Want) (f : TreeFault) (r : Run Want fate.Fault S A)
    → IsUnreadOf Is seen f → Follows Is no_part seen r [] (Err (halt_of f))
unread_halts Is seen (tree.Lost a) r h = absurd h
unread_halts Is seen (tree.Unread a slot) r h = unread_here Is no_part seen (record { addr = a; slot = slot }) r h
unread_halts Is seen (tree.Unmapped a) r h = absurd h
unread_halts Is seen (tree.Crosses a) r h = absurd h
unread_halts Is seen (tree.Malformed a) r h = absurd h

-- what a want came to is one block
pub same_block : (B : Map) (w : Want) (a b : List ℕ) → B w ≡ Ok a → B w ≡ Ok b → a ≡ b
same_block B w a b e f = let g : Ok a ≡ Ok b = sym e ∙ f in cc

-- a good block that was read before is there again, or could not be read
pub read_still : (Is : UnreadBlock → Want → Type 0) (B : Map) (seen : List Want) (level : ℕ) (pointer : BlockPointer) (store : Blocks) (f : TreeFault)
    (block : List ℕ)
    (node : Node) → B (want_of level pointer) ≡ Ok block → judged level pointer block ≡ Some node → Contains seen (want_of level pointer)
    → Reads Is B level pointer store (Err f) → IsUnreadOf Is seen f
read_still Is B seen level pointer store (tree.Lost a) block node came is read h = let g : Ok block ≡ Err (fate.Lost a) = sym came ∙ h in cc
read_still Is B seen level pointer store (tree.Unread a slot) block node came is read h =
    named Is (record { addr = a; slot = slot }) seen (want_of level pointer) h read
read_still Is B seen level pointer store (tree.Unmapped a) block node came is read h = let g : Ok block ≡ Err (fate.Unmapped a) = sym came ∙ h in cc
read_still Is B seen level pointer store (tree.Crosses a) block node came is read h = let g : Ok block ≡ Err (fate.Crosses a) = sym came ∙ h in cc
read_still Is B seen level pointer store (tree.Malformed a) block node came is read h =
    let same : h.1.0 ≡ block = same_block B (want_of level pointer) h.1.0 block h.1.1 came in
    let x : None ≡ Some node = sym h.1.2 ∙ ap (λ (b : List ℕ). judged level pointer b) same ∙ is in cc
