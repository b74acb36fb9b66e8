-- A walk over the blocks of a tree.
use Rattle.std.proofs.Common.{◌≡◌, ℕ, zero, suc, ◌+◌, ◌-◌, ◌<◌, List, [], ◌∷◌, ◌++◌, length, get_or, set, drop, Option, Some, None, IfSome}
use Rattle.std.proofs.Common.{Ok, Err, refl, sym, ap, ◌∙◌, subst, arith}
use Rattle.std.proofs.lemmas.List.{drop_all}
use Rattle.btr_node.specs.Block.{KeyPointer, items, pointers}
use Rattle.btr_node.specs.declared.node.Node.TheVariants.{Leaf, Inner}
use Rattle.btr_prog.specs.Prog.{Return, Wants, Does, first, given, exec}
use Rattle.btr_prog.specs.Answers.{Follows, no_part}
use Rattle.btr_read.specs.Store.{Blocks}
use Rattle.btr_read.specs.declared.want.Want.{Want}
use Rattle.btr_walk.specs.declared.ahead.Ahead.{Ahead}
use Rattle.btr_walk.specs.declared.fault.TreeFault.{TreeFault}
use Rattle.btr_walk.specs.declared.frame.Frame.{Frame}
use Rattle.btr_walk.specs.declared.frame.Todo.{Todo}
use Rattle.btr_walk.specs.declared.going.Where.{Where}
use Rattle.btr_walk.specs.declared.place.RootPlace.{RootPlace}
use Rattle.btr_walk.specs.declared.block_pointer.BlockPointer.{BlockPointer}
use Rattle.btr_walk.specs.BlockPointer.{judged}
use Rattle.btr_walk.specs.Le.{root_pointer, below, up_of, want_of}
use Rattle.btr_walk.specs.Again.{IsNextBelow, Rereads}
use Rattle.btr_walk.specs.Scans.{pointers_in}
use Rattle.btr_walk.specs.Reading.{Map, UnreadBlock, Reads, halt_of}
use Rattle.btr_walk.specs.Blocks.{TreeBlock, BlocksProg, tree_block, each, blocks_leaf, blocks_inner, blocks_at, blocks}
use Rattle.btr_walk.specs.Preorder.{frame_blocks, todo_blocks, path_blocks, place_blocks, IsAmong, place_of, Enters, GivesBlock, IsWholeFrame}
use Rattle.btr_walk.proofs.Belows.{drop_at}
use Rattle.btr_walk.specs.Frames.{frame_or}
use Rattle.btr_walk.proofs.Frames.{behind, frames_set, last_read, node_more, path_bare, path_here, path_none, path_set}
use Rattle.btr_walk.proofs.Halting.{need_halts, unread_halts}
use Rattle.btr_walk.proofs.Ranking.{above_fits, low_todo}
use Rattle.btr_walk.proofs.Ways.{IsLeafAt, IsInnerAt}
use Rattle.btr_walk.specs.declared.frame.Below.{Below}

-- a node with all its children
abbrev pub whole_node : BlockPointer → List ℕ → Frame
whole_node pointer block = record { pointer = pointer; next = 0; end = length (pointers block) }

module _ (B : Map) where
  -- what comes behind the frame at a place
  abbrev rest_behind : ℕ → List (Option Frame) → BlocksProg
  rest_behind = behind (frame_blocks B) (Return tt)

  -- a place with no block to be read and no node left has nothing more to give
  pub at_end : (place : Where) → place.todo ≡ None → ((k : ℕ) → get_or place.path k None ≡ None) → place_blocks B place ≡ Return tt
  at_end place none clear = ap (λ t. todo_blocks t (path_blocks B 0 place.path)) none ∙ path_none (frame_blocks B) (Return tt) 0 place.path clear

  -- the beginning
  pub begun : (root : RootPlace) (place : Where) → place.todo ≡ Some (record { level = root.level; pointer = root_pointer root })
      → ((k : ℕ) → get_or place.path k None ≡ None) → place_blocks B place ≡ blocks root
  begun root place is clear = ap (λ t. todo_blocks t (path_blocks B 0 place.path)) is
      ∙ ap (blocks_at root.level (root_pointer root)) (path_none (frame_blocks B) (Return tt) 0 place.path clear)

  -- a place with no node left hangs on nothing that was read before
  pub among_none : (place : Where) → ((k : ℕ) → get_or place.path k None ≡ None) → IsAmong B [] place
  among_none place clear = record {
    frames = λ k. subst (λ x. IfSome x (IsWholeFrame B [] (k + 1))) (sym (clear k)) tt;
    above = free place.todo;
  }
    where
      free : (t : Option Todo) → IfSome t (λ t. (k : ℕ) → k < t.level → get_or place.path k None ≡ None)
      free None = tt
      free (Some t) = λ k lt. clear k

  -- the next child of a node, and then the others
  first_of_each : (level : ℕ) (frame : Frame) (ps : List KeyPointer) (todo : Todo) (d : KeyPointer) (rest : BlocksProg)
      → pointers_in (B (want_of level frame.pointer)) ≡ ps → frame.next < length ps → todo.level ≡ level - 1 → todo.pointer
      ≡ below (get_or ps frame.next d) (up_of (drop (frame.next + 1) ps) frame.pointer.up)
      → frame_blocks B level frame rest ≡ blocks_at todo.level todo.pointer (each (blocks_at (level - 1)) (drop (frame.next + 1) ps) frame.pointer.up rest)
  first_of_each level frame ps todo d rest in_map there l s =
      let more : BlocksProg = each (blocks_at (level - 1)) (drop (frame.next + 1) ps) frame.pointer.up rest in
      ap (λ (x : List KeyPointer). each (blocks_at (level - 1)) (drop frame.next x) frame.pointer.up rest) in_map
      ∙ ap (λ (x : List KeyPointer). each (blocks_at (level - 1)) x frame.pointer.up rest) (drop_at ps frame.next d there)
      ∙ ap (λ x. blocks_at (level - 1) x more) (sym s)
      ∙ ap (λ x. blocks_at x todo.pointer more) (sym l)

  -- what is left of a node is its next child, and then the node where more are to come
  node_next : (level : ℕ) (frame : Frame) (ps : List KeyPointer) (o : Option Frame) (t : Option Todo) (d : KeyPointer) (rest : BlocksProg)
      → pointers_in (B (want_of level frame.pointer)) ≡ ps → frame.end ≡ length ps → IsNextBelow ps level frame o t → frame_blocks B level frame rest
      ≡ todo_blocks t (frame_or (frame_blocks B) level o rest)
  node_next level frame ps None None d rest in_map all h = absurd h
  node_next level frame ps (Some f) None d rest in_map all h = absurd h
  node_next level frame ps None (Some todo) d rest in_map all h =
      first_of_each level frame ps todo d rest in_map h.0.there h.0.level_is (h.0.pointer_is d)
      ∙ ap (λ (x : List KeyPointer). blocks_at todo.level todo.pointer (each (blocks_at (level - 1)) x frame.pointer.up rest))
      (drop_all (frame.next + 1) ps (omega (arith, all, h.1)))
  node_next level frame ps (Some f) (Some todo) d rest in_map all h =
      first_of_each level frame ps todo d rest in_map h.0.there h.0.level_is (h.0.pointer_is d)
      ∙ ap (λ (x : List KeyPointer). blocks_at todo.level todo.pointer (each (blocks_at (level - 1)) (drop (frame.next + 1) x) frame.pointer.up rest))
      (sym in_map)
      ∙ ap (λ x. blocks_at todo.level todo.pointer (frame_blocks B level x rest)) (sym h.2)

  -- the node that is left behind its next child has all others still to come
  nodes_left : (level : ℕ) (frame : Frame) (seen : List Want) (f : IsWholeFrame B seen level frame) (o : Option Frame) (t : Option Todo)
      → IsNextBelow (pointers f.node.block) level frame o t → IfSome o (IsWholeFrame B seen level)
  nodes_left level frame seen f None t h = tt
  nodes_left level frame seen f (Some g) None h = absurd h
  nodes_left level frame seen f (Some g) (Some todo) h = subst (IsWholeFrame B seen level) (sym h.2) (record {
    node = record { block = f.node.block; came = f.node.came; is = f.node.is; read = f.node.read; more = h.1; within = f.node.within };
    all = f.all;
  })

  -- the next child of a node lies one level below it
  todo_level : (ps : List KeyPointer) (level : ℕ) (frame : Frame) (o : Option Frame) (t : Option Todo) → IsNextBelow ps level frame o t
      → IfSome t (λ x. x.level ≡ level - 1)
  todo_level ps level frame o None h = tt
  todo_level ps level frame None (Some t) h = h.0.level_is
  todo_level ps level frame (Some f) (Some t) h = h.0.level_is

  -- a node stays one that was read where more was read
  seen_more : (seen more : List Want) (level : ℕ) (frame : Frame) → IsWholeFrame B seen level frame → IsWholeFrame B (seen ++ more) level frame
  seen_more seen more level frame f = record { node = node_more B seen more level frame f.node; all = f.all }

  module _ (place : Where) (i : ℕ) (frame : Frame) (none : place.todo ≡ None) (here : get_or place.path i None ≡ Some frame) where
    -- the node at this place of the path was read, and all its children from the next one on are still to come
    node_at : (seen : List Want) → IsAmong B seen place → IsWholeFrame B seen (i + 1) frame
    node_at seen on = subst (λ o. IfSome o (IsWholeFrame B seen (i + 1))) here (on.frames i)

    -- the next child of the lowest node
    pub ahead_again : (Is : UnreadBlock → Want → Type 0) (b : Below) (todo : Todo) (path' : List (Option Frame)) (seen : List Want)
        → length place.path ≡ 7 → i < 7 → ((k : ℕ) → k < i → get_or place.path k None ≡ None) → path' ≡ set place.path i b.frame → b.todo ≡ Some todo
        → IsAmong B seen place → Rereads Is B (i + 1) frame (Ok b)
        → (place_blocks B place ≡ place_blocks B (record { path = path'; todo = Some todo })) × IsAmong B seen (record { path = path'; todo = Some todo })
    ahead_again Is b todo path' seen long lt clear set_is is on h =
        let within : i < length place.path = omega (arith, long, lt) in
        let f = node_at seen on in
        let n = h seen f.node in
        let d : KeyPointer = record { key = record { objectid = 0; kind = 0; offset = 0 }; addr = 0; generation = 0 } in (
          ap (λ t. todo_blocks t (path_blocks B 0 place.path)) none
              ∙ path_here (frame_blocks B) (Return tt) i place.path frame within clear here
              ∙ node_next (i + 1) frame (pointers f.node.block) b.frame b.todo d (rest_behind i place.path) (ap pointers_in f.node.came) f.all n
              ∙ ap (todo_blocks b.todo) (sym (path_set (frame_blocks B) (Return tt) i place.path path' b.frame within clear set_is))
              ∙ ap (λ t. todo_blocks t (path_blocks B 0 path')) is,
          subst (λ t. IsAmong B seen (record { path = path'; todo = t })) is
              (subst (λ p. IsAmong B seen (record { path = p; todo = b.todo })) (sym set_is) (record {
                frames = frames_set (IsWholeFrame B seen) (IsWholeFrame B seen) place.path i b.frame within (λ level x y. y) on.frames
                    (nodes_left (i + 1) frame seen f b.frame b.todo n);
                above = above_fits place.path i b.frame b.todo clear
                    (low_todo b.todo (i + 1) i (omega arith) (todo_level (pointers f.node.block) (i + 1) frame b.frame b.todo n));
              })),
        )

    -- the lowest node could not be read again
    pub ahead_halts : (Is : UnreadBlock → Want → Type 0) (f : TreeFault) (seen : List Want) → IsAmong B seen place
        → Rereads Is B (i + 1) frame (Err f) → Follows Is no_part seen (exec B (place_blocks B place)) [] (Err (halt_of f))
    ahead_halts Is f seen on h = let n = node_at seen on in unread_halts Is seen f (exec B (place_blocks B place)) (h seen n.node)

  -- a leaf that was read
  leaf_zero : (pointer : BlockPointer) (block : List ℕ) (rest : BlocksProg) → judged 0 pointer block ≡ Some (Leaf (items block)) → B (want_of 0 pointer)
      ≡ Ok block
      → exec B (blocks_at 0 pointer rest) ≡ first (Wants (want_of 0 pointer)) (first (Does (tree_block 0 pointer block)) (exec B rest))
  leaf_zero pointer block rest is e =
      ap (λ x. first (Wants (want_of 0 pointer)) (given x (λ b. exec B (blocks_leaf pointer b rest (judged 0 pointer b))))) e
      ∙ ap (λ x. first (Wants (want_of 0 pointer)) (exec B (blocks_leaf pointer block rest x))) is

  -- a leaf gives its want and its block, and then the rest
  leaf_read : (level : ℕ) (pointer : BlockPointer) (block : List ℕ) (rest : BlocksProg) → IsLeafAt level pointer block → B (want_of level pointer) ≡ Ok block
      → exec B (blocks_at level pointer rest) ≡ first (Wants (want_of level pointer)) (first (Does (tree_block level pointer block)) (exec B rest))
  leaf_read zero pointer block rest leaf e = leaf_zero pointer block rest leaf.is e
  leaf_read (suc n) pointer block rest leaf e = let l = leaf.zero_level in absurd (omega (arith, l))

  -- a node that was read
  node_at_level : (n : ℕ) (pointer : BlockPointer) (block : List ℕ) (rest : BlocksProg) → judged (suc n) pointer block ≡ Some (Inner (pointers block))
      → B (want_of (suc n) pointer) ≡ Ok block → exec B (blocks_at (suc n) pointer rest)
      ≡ first (Wants (want_of (suc n) pointer)) (first (Does (tree_block (suc n) pointer block)) (exec B (each (blocks_at n) (pointers block) pointer.up rest)))
  node_at_level n pointer block rest is e =
      ap (λ x. first (Wants (want_of (suc n) pointer)) (given x (λ b. exec B (blocks_inner (blocks_at n) (suc n) pointer b rest (judged (suc n) pointer b))))) e
      ∙ ap (λ x. first (Wants (want_of (suc n) pointer)) (exec B (blocks_inner (blocks_at n) (suc n) pointer block rest x))) is

  -- a node gives its want and its block, then all its children, and then the rest
  node_read : (level : ℕ) (pointer : BlockPointer) (block : List ℕ) (rest : BlocksProg) → 0 < level → judged level pointer block ≡ Some (Inner (pointers block))
      → B (want_of level pointer) ≡ Ok block → exec B (blocks_at level pointer rest)
      ≡ first (Wants (want_of level pointer)) (first (Does (tree_block level pointer block)) (exec B (frame_blocks B level (whole_node pointer block) rest)))
  node_read zero pointer block rest some is e = absurd (omega (arith, some))
  node_read (suc n) pointer block rest some is e =
      let m : n ≡ suc n - 1 = omega arith in
      node_at_level n pointer block rest is e
      ∙ ap (λ x. first (Wants (want_of (suc n) pointer)) (first (Does (tree_block (suc n) pointer block))
      (exec B (each (blocks_at x) (pointers block) pointer.up rest)))) m
      ∙ ap (λ (x : List KeyPointer). first (Wants (want_of (suc n) pointer))
      (first (Does (tree_block (suc n) pointer block)) (exec B (each (blocks_at (suc n - 1)) x pointer.up rest)))) (sym (ap pointers_in e))

  -- where the block that was to be read is a leaf, it is given, and nothing comes below it
  pub enters_leaf : (ahead : Ahead) (block : List ℕ) (seen : List Want) → IsLeafAt ahead.todo.level ahead.todo.pointer block
      → B (want_of ahead.todo.level ahead.todo.pointer) ≡ Ok block → IsAmong B seen (place_of ahead)
      → Enters B seen (place_of ahead) (record { path = ahead.path; todo = None }) (want_of ahead.todo.level ahead.todo.pointer)
      (tree_block ahead.todo.level ahead.todo.pointer block)
  enters_leaf ahead block seen leaf e on =
      let w : Want = want_of ahead.todo.level ahead.todo.pointer in
      record {
        is = leaf_read ahead.todo.level ahead.todo.pointer block (path_blocks B 0 ahead.path) leaf e;
        on = record { frames = λ k. more (k + 1) (get_or ahead.path k None) (on.frames k); above = tt };
      }
    where
      more : (level : ℕ) (o : Option Frame) → IfSome o (IsWholeFrame B seen level)
          → IfSome o (IsWholeFrame B (seen ++ (want_of ahead.todo.level ahead.todo.pointer ∷ [])) level)
      more level None h = tt
      more level (Some f) h = seen_more seen (want_of ahead.todo.level ahead.todo.pointer ∷ []) level f h

  -- where the block that was to be read is a node, it is given, and its first child comes next, and then the others
  pub enters_node : (ahead : Ahead) (block : List ℕ) (seen : List Want) (b : Below) (path' : List (Option Frame)) → length ahead.path ≡ 7
      → IsInnerAt ahead.todo.level ahead.todo.pointer block → 0 < length (pointers block) → path' ≡ set ahead.path (ahead.todo.level - 1) b.frame
      → IsNextBelow (pointers block) ahead.todo.level (whole_node ahead.todo.pointer block) b.frame b.todo → B (want_of ahead.todo.level ahead.todo.pointer)
      ≡ Ok block → IsAmong B seen (place_of ahead)
      → Enters B seen (place_of ahead) (record { path = path'; todo = b.todo }) (want_of ahead.todo.level ahead.todo.pointer)
      (tree_block ahead.todo.level ahead.todo.pointer block)
  enters_node ahead block seen b path' long inner more set_is n e on =
      let level : ℕ = ahead.todo.level in
      let pointer : BlockPointer = ahead.todo.pointer in
      let w : Want = want_of level pointer in
      let i : ℕ = level - 1 in
      let some = inner.some in
      let few = inner.few in
      let within : i < length ahead.path = omega (arith, long, some, few) in
      let up : i + 1 ≡ level = omega (arith, some) in
      let clear : (k : ℕ) → k < i → get_or ahead.path k None ≡ None = λ k lt. on.above k (omega (arith, lt)) in
      let d : KeyPointer = record { key = record { objectid = 0; kind = 0; offset = 0 }; addr = 0; generation = 0 } in
      let old : path_blocks B 0 ahead.path ≡ rest_behind i ahead.path =
      path_bare (frame_blocks B) (Return tt) i ahead.path within (λ k lt. on.above k (omega (arith, lt, up))) in
      let new : path_blocks B 0 path' ≡ frame_or (frame_blocks B) level b.frame (rest_behind i ahead.path) =
      path_set (frame_blocks B) (Return tt) i ahead.path path' b.frame within clear set_is
      ∙ ap (λ x. frame_or (frame_blocks B) x b.frame (rest_behind i ahead.path)) up in
      let f : IsWholeFrame B (seen ++ (w ∷ [])) level (whole_node pointer block) =
      record { node = record { block = block; came = e; is = inner.is; read = last_read seen w; more = more; within = omega arith }; all = refl } in
      record {
        is = ap (λ x. exec B (blocks_at level pointer x)) old
            ∙ node_read level pointer block (rest_behind i ahead.path) some inner.is e
            ∙ ap (λ x. first (Wants w) (first (Does (tree_block level pointer block)) (exec B x)))
            (node_next level (whole_node pointer block) (pointers block) b.frame b.todo d (rest_behind i ahead.path) (ap pointers_in e) refl n
            ∙ ap (todo_blocks b.todo) (sym new));
        on = subst (λ x. IsAmong B (seen ++ (w ∷ [])) (record { path = x; todo = b.todo })) (sym set_is) (record {
          frames = frames_set (IsWholeFrame B seen) (IsWholeFrame B (seen ++ (w ∷ []))) ahead.path i b.frame within (λ l f h. seen_more seen (w ∷ []) l f h)
              on.frames (subst (λ (x : ℕ). IfSome b.frame (IsWholeFrame B (seen ++ (w ∷ [])) x)) (sym up)
              (nodes_left level (whole_node pointer block) (seen ++ (w ∷ [])) f b.frame b.todo n));
          above = above_fits ahead.path i b.frame b.todo clear
              (low_todo b.todo level i refl (todo_level (pointers block) level (whole_node pointer block) b.frame b.todo n));
        });
      }

  -- a block that could not be had
  pub blocks_halt : (Is : UnreadBlock → Want → Type 0) (level : ℕ) (pointer : BlockPointer) (store : Blocks) (f : TreeFault) (rest : BlocksProg)
      (seen : List Want) → Reads Is B level pointer store (Err f) → Follows Is no_part seen (exec B (blocks_at level pointer rest)) [] (Err (halt_of f))
  blocks_halt Is zero pointer store f rest seen h = need_halts Is B 0 pointer store f (λ block. blocks_leaf pointer block rest (judged 0 pointer block)) seen
      (λ block bad. ap (λ x. exec B (blocks_leaf pointer block rest x)) bad) h
  blocks_halt Is (suc n) pointer store f rest seen h = need_halts Is B (suc n) pointer store f
      (λ block. blocks_inner (blocks_at n) (suc n) pointer block rest (judged (suc n) pointer block)) seen
      (λ block bad. ap (λ x. exec B (blocks_inner (blocks_at n) (suc n) pointer block rest x)) bad) h

  -- what is read next, and its block
  pub gives_entered : (seen : List Want) (from at to : Where) (w : Want) (met : TreeBlock) → place_blocks B from ≡ place_blocks B at
      → Enters B seen at to w met → GivesBlock B seen from to met
  gives_entered seen from at to w met e h = record { past = w ∷ []; is = ap (exec B) e ∙ h.is; on = h.on }
