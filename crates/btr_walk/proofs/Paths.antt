-- How a scan goes on from place to place.
use Rattle.std.proofs.Common.{◌≡◌, ℕ, zero, suc, ◌+◌, ◌-◌, ◌<◌, ◌≤◌, List, [], ◌∷◌, ◌++◌, length, get_or, set, Option, Some, None}
use Rattle.std.proofs.Common.{IfSome, IsSomeAnd, Result, Ok, Err, refl, sym, ap, ◌∙◌, subst, arith}
use Rattle.btr_base.specs.declared.key.Key.{Key}
use Rattle.btr_prog.specs.Prog.{Return, Wants, first, exec}
use Rattle.btr_prog.specs.Answers.{Follows, no_part}
use Rattle.btr_read.specs.Store.{Blocks, block_of}
use Rattle.btr_read.specs.declared.want.Want.{Want}
use Rattle.btr_walk.specs.declared.entering.Entered.TheVariants as entered
use Rattle.btr_walk.specs.declared.fault.TreeFault.{TreeFault}
use Rattle.btr_walk.specs.declared.frame.Frame.{Frame}
use Rattle.btr_walk.specs.declared.frame.Todo.{Todo}
use Rattle.btr_walk.specs.declared.going.Gone.TheVariants.{Leaf, Between, End}
use Rattle.btr_walk.specs.declared.going.Where.{Where}
use Rattle.btr_walk.specs.declared.place.RootPlace.{RootPlace}
use Rattle.btr_walk.specs.declared.block_pointer.BlockPointer.{BlockPointer}
use Rattle.btr_walk.specs.BlockPointer.{judged}
use Rattle.btr_walk.specs.Le.{root_pointer, want_of}
use Rattle.btr_walk.specs.Range.{RangeProg, emit_all, range_leaf, range_inner, range_at}
use Rattle.btr_walk.specs.Reading.{Map, UnreadBlock, Reads, halt_of}
use Rattle.btr_walk.specs.Scans.{part_items, todo_prog, frame_prog, IsFrame}
use Rattle.btr_walk.specs.Entering.{IsEntered}
use Rattle.btr_walk.specs.Again.{Rereads}
use Rattle.btr_walk.specs.Frames.{frame_or}
use Rattle.btr_walk.proofs.Frames.{behind, frames_set, last_read, path_bare, path_here, path_none, path_set}
use Rattle.btr_walk.proofs.Halting.{need_halts, unread_halts}
use Rattle.btr_walk.proofs.Repeated.{again_as}
use Rattle.btr_walk.proofs.Ranking.{above_fits, low_todo}
use Rattle.btr_walk.proofs.Staying.{frame_more}
use Rattle.btr_walk.specs.Going.{path_prog, place_prog, IsAlong, GoesOnHolding, IsGone}
use Rattle.btr_walk.specs.declared.frame.Below.{Below}
use Rattle.btr_walk.specs.declared.leaf_at.LeafAt.{LeafAt}

module _ (lo hi : Key) (B : Map) where
  -- what comes behind the frame at a place
  abbrev rest_behind : ℕ → List (Option Frame) → RangeProg
  rest_behind = behind (frame_prog lo hi B) (Return tt)

  -- the root is to be read
  pub along_root : (path : List (Option Frame)) → ((k : ℕ) → get_or path k None ≡ None) → (root : RootPlace) → (seen : List Want)
      → IsAlong lo hi B seen (record { path = path; todo = Some (record { level = root.level; pointer = root_pointer root }) })
  along_root path clear root seen = record {
    frames = λ k. subst (λ x. IfSome x (IsFrame lo hi B seen (k + 1))) (sym (clear k)) tt;
    above = λ k lt. clear k;
    up = refl;
  }

  -- a block that was to be read is a leaf
  pub gone_leaf : (Is : UnreadBlock → Want → Type 0) (path : List (Option Frame)) (todo : Todo) (store : Blocks) (l : LeafAt)
      → IsEntered lo hi Is B todo store (Ok (entered.Leaf l)) → IsGone lo hi Is B (record { path = path; todo = Some todo })
      (record { path = path; todo = None }) store (Ok (Leaf l))
  gone_leaf Is path todo store l h seen on = some_more (block_of store l.loan) h.0
    where
      some_more : (o : Option (List ℕ)) → IsSomeAnd o (λ block. (rest : RangeProg)
          → exec B (range_at lo hi todo.level todo.pointer rest) ≡ first (Wants (want_of todo.level todo.pointer))
          (exec B (emit_all (part_items l.pointer.addr block l.next l.end) rest)))
          → IsSomeAnd o (λ block. GoesOnHolding lo hi B seen (record { path = path; todo = Some todo })
          (emit_all (part_items l.pointer.addr block l.next l.end) (place_prog lo hi B (record { path = path; todo = None })))
          (record { path = path; todo = None }) store l)
      some_more None g = absurd g
      some_more (Some block) g = record {
        comes = record {
          past = want_of todo.level todo.pointer ∷ [];
          is = g (path_prog lo hi B 0 path);
          on = record {
            frames = λ k. frame_more lo hi B seen (want_of todo.level todo.pointer ∷ []) (k + 1) (get_or path k None) (on.frames k);
            above = tt;
            up = tt;
          };
        };
        held = h.1 (seen ++ (want_of todo.level todo.pointer ∷ [])) (last_read seen (want_of todo.level todo.pointer));
      }

  -- a block that was to be read is an inner node
  pub gone_inner : (Is : UnreadBlock → Want → Type 0) (path : List (Option Frame)) (todo : Todo) (store : Blocks) (b : Below) (path' : List (Option Frame))
      → length path ≡ 7 → 0 < todo.level → todo.level ≤ 7 → path' ≡ set path (todo.level - 1) b.frame
      → IsEntered lo hi Is B todo store (Ok (entered.Inner b)) → IsGone lo hi Is B (record { path = path; todo = Some todo })
      (record { path = path'; todo = b.todo }) store (Ok Between)
  gone_inner Is path todo store b path' long some few set_is h seen on =
      let i : ℕ = todo.level - 1 in
      let w : Want = want_of todo.level todo.pointer in
      let within : i < length path = omega (arith, long, some, few) in
      let level : i + 1 ≡ todo.level = omega (arith, some) in
      let clear : (k : ℕ) → k < i → get_or path k None ≡ None = λ k lt. on.above k (omega (arith, lt)) in
      let e = h on.up in
      let new : path_prog lo hi B 0 path' ≡ frame_or (frame_prog lo hi B) todo.level b.frame (rest_behind i path) =
      path_set (frame_prog lo hi B) (Return tt) i path path' b.frame within clear set_is
      ∙ ap (λ x. frame_or (frame_prog lo hi B) x b.frame (rest_behind i path)) level in
      let old : path_prog lo hi B 0 path ≡ rest_behind i path =
      path_bare (frame_prog lo hi B) (Return tt) i path within (λ k lt. on.above k (omega (arith, lt, level))) in
      record {
        past = w ∷ [];
        is = ap (λ x. exec B (range_at lo hi todo.level todo.pointer x)) old
            ∙ (e.0 (rest_behind i path) ∙ ap (λ x. first (Wants w) (exec B (todo_prog lo hi b.todo x))) (sym new));
        on = subst (λ x. IsAlong lo hi B (seen ++ (w ∷ [])) (record { path = x; todo = b.todo })) (sym set_is) (record {
          frames = frames_set (IsFrame lo hi B seen) (IsFrame lo hi B (seen ++ (w ∷ []))) path i b.frame within
              (λ l f h. frame_more lo hi B seen (w ∷ []) l (Some f) h) on.frames
              (subst (λ (x : ℕ). IfSome b.frame (IsFrame lo hi B (seen ++ (w ∷ [])) x)) (sym level) (e.1 (seen ++ (w ∷ [])) (last_read seen w)));
          above = above_fits path i b.frame b.todo clear (low_todo b.todo todo.level i refl e.3);
          up = e.2;
        });
      }

  -- no block is to be read, and no node has more
  pub gone_end : (Is : UnreadBlock → Want → Type 0) (path : List (Option Frame)) (after : Where) (store : Blocks) → ((k : ℕ) → get_or path k None ≡ None)
      → IsGone lo hi Is B (record { path = path; todo = None }) after store (Ok End)
  gone_end Is path after store h seen on =
      subst (λ p. Follows Is no_part seen (exec B p) [] (Ok tt)) (sym (path_none (frame_prog lo hi B) (Return tt) 0 path h)) (refl, refl)

  -- a node is read again
  pub gone_again : (Is : UnreadBlock → Want → Type 0) (path : List (Option Frame)) (i level : ℕ) (frame : Frame) (store : Blocks) (b : Below)
      (path' : List (Option Frame)) → length path ≡ 7 → i < 7 → level ≡ i + 1 → ((k : ℕ) → k < i → get_or path k None ≡ None)
      → get_or path i None ≡ Some frame → path' ≡ set path i b.frame → Rereads Is B level frame (Ok b)
      → IsGone lo hi Is B (record { path = path; todo = None }) (record { path = path'; todo = b.todo }) store (Ok Between)
  gone_again Is path i level frame store b path' long lt level_is clear here set_is h seen on =
      let within : i < length path = omega (arith, long, lt) in
      let f : IsFrame lo hi B seen level frame =
      subst (λ (x : ℕ). IsFrame lo hi B seen x frame) (sym level_is) (subst (λ o. IfSome o (IsFrame lo hi B seen (i + 1))) here (on.frames i)) in
      let a = again_as lo hi B level frame seen f b.frame b.todo (h seen f.node) in
      let old : path_prog lo hi B 0 path ≡ frame_prog lo hi B level frame (rest_behind i path) =
      path_here (frame_prog lo hi B) (Return tt) i path frame within clear here
      ∙ ap (λ x. frame_prog lo hi B x frame (rest_behind i path)) (sym level_is) in
      let new : path_prog lo hi B 0 path' ≡ frame_or (frame_prog lo hi B) level b.frame (rest_behind i path) =
      path_set (frame_prog lo hi B) (Return tt) i path path' b.frame within clear set_is
      ∙ ap (λ x. frame_or (frame_prog lo hi B) x b.frame (rest_behind i path)) (sym level_is) in
      record {
        past = [];
        is = ap (exec B) (old ∙ a.program (rest_behind i path) ∙ ap (todo_prog lo hi b.todo) (sym new));
        on = subst (λ x. IsAlong lo hi B (seen ++ []) (record { path = x; todo = b.todo })) (sym set_is) (record {
          frames = frames_set (IsFrame lo hi B seen) (IsFrame lo hi B (seen ++ [])) path i b.frame within
              (λ l f h. frame_more lo hi B seen [] l (Some f) h) on.frames
              (frame_more lo hi B seen [] (i + 1) b.frame (subst (λ (x : ℕ). IfSome b.frame (IsFrame lo hi B seen x)) level_is a.frame_is));
          above = above_fits path i b.frame b.todo clear (low_todo b.todo level i (omega (arith, level_is)) a.level_is);
          up = a.up;
        });
      }

  -- a block that could not be had
  todo_halts : (Is : UnreadBlock → Want → Type 0) (level : ℕ) (pointer : BlockPointer) (store : Blocks) (f : TreeFault) (rest : RangeProg) (seen : List Want)
      → Reads Is B level pointer store (Err f) → Follows Is no_part seen (exec B (range_at lo hi level pointer rest)) [] (Err (halt_of f))
  todo_halts Is zero pointer store f rest seen h = need_halts Is B 0 pointer store f (λ block. range_leaf lo hi pointer rest (judged 0 pointer block)) seen
      (λ block bad. ap (λ x. exec B (range_leaf lo hi pointer rest x)) bad) h
  todo_halts Is (suc n) pointer store f rest seen h = need_halts Is B (suc n) pointer store f
      (λ block. range_inner lo hi (range_at lo hi n) pointer rest (judged (suc n) pointer block)) seen
      (λ block bad. ap (λ x. exec B (range_inner lo hi (range_at lo hi n) pointer rest x)) bad) h

  -- where the block that is to be read could not be had, or isn't good, the scan halts with its fault
  pub gone_err : (Is : UnreadBlock → Want → Type 0) (path : List (Option Frame)) (todo : Todo) (after : Where) (store store' : Blocks) (f : TreeFault)
      → IsEntered lo hi Is B todo store (Err f) → IsGone lo hi Is B (record { path = path; todo = Some todo }) after store' (Err f)
  gone_err Is path todo after store store' f h seen on = todo_halts Is todo.level todo.pointer store f (path_prog lo hi B 0 path) seen h

  -- where a node could not be read again, the scan halts with its fault
  pub again_halts : (Is : UnreadBlock → Want → Type 0) (path : List (Option Frame)) (after : Where) (i level : ℕ) (frame : Frame) (store : Blocks)
      (f : TreeFault) → level ≡ i + 1 → get_or path i None ≡ Some frame → Rereads Is B level frame (Err f)
      → IsGone lo hi Is B (record { path = path; todo = None }) after store (Err f)
  again_halts Is path after i level frame store f level_is here h seen on =
      let x : IsFrame lo hi B seen level frame =
      subst (λ (x : ℕ). IsFrame lo hi B seen x frame) (sym level_is) (subst (λ o. IfSome o (IsFrame lo hi B seen (i + 1))) here (on.frames i)) in
      unread_halts Is seen f (exec B (path_prog lo hi B 0 path)) (h seen x.node)

-- the place by its parts
pub at_place : (lo hi : Key) (Is : UnreadBlock → Want → Type 0) (B : Map) (place after : Where) (todo : Option Todo) (store : Blocks)
    (result : Result _ TreeFault) → place.todo ≡ todo → IsGone lo hi Is B (record { path = place.path; todo = todo }) after store result
    → IsGone lo hi Is B place after store result
at_place lo hi Is B place after todo store result e h = subst (λ t. IsGone lo hi Is B (record { path = place.path; todo = t }) after store result) (sym e) h
