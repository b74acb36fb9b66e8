-- What is left of the nodes on the way to where a tour is.
use Rattle.std.proofs.Common.{◌≡◌, ◌∙◌, ℕ, zero, suc, ◌+◌, ◌-◌, ◌<◌, true, List, [], ◌∷◌, ◌++◌, length, get_or, set, Option, Some, None, IfSome, Ok}
use Rattle.std.proofs.Common.{sym, ap, subst, arith}
use Rattle.std.specs.List.{Contains}
use Rattle.btr_base.specs.declared.key.Key.{Key}
use Rattle.btr_node.specs.Block.{pointers}
use Rattle.btr_node.specs.declared.node.Node.TheVariants.{Inner}
use Rattle.btr_prog.specs.Trying.{Act}
use Rattle.btr_read.specs.declared.want.Want.{Want}
use Rattle.btr_walk.specs.Again.{IsChild, IsNextBelow}
use Rattle.btr_walk.specs.Frames.{frame_or}
use Rattle.btr_walk.specs.Going.{IsAlong}
use Rattle.btr_walk.specs.Le.{want_of}
use Rattle.btr_walk.specs.Reading.{Map}
use Rattle.btr_walk.specs.Scans.{pointers_in, FramesPart, IsChoice, IsFrame}
use Rattle.btr_walk.specs.BlockPointer.{is_below, judged}
use Rattle.btr_walk.specs.declared.choice.Part.{Part}
use Rattle.btr_walk.specs.declared.frame.Frame.{Frame}
use Rattle.btr_walk.specs.declared.frame.Todo.{Todo}
use Rattle.btr_walk.specs.declared.going.Where.{Where}
use Rattle.btr_walk.specs.declared.block_pointer.BlockPointer.{BlockPointer}
use Rattle.btr_walk.proofs.Frames.{frames_set}
use Rattle.btr_walk.proofs.Staying.{frame_more}
use Rattle.btr_tour.specs.Tour as marks
use Rattle.btr_tour.specs.Tour.{child_pointers, meets_keys, place_of}
use Rattle.btr_tour.specs.Program.{TourProg, children, tour_from}
use Rattle.btr_tour.specs.Place.{frame_want, children_left, frame_left}
use Rattle.btr_tour.proofs.Seeking.{all_from, none_from, here_meets, filter_at, length-block_pointers, child_pointer_at, some_pointer, some_block_pointer}

module _ (lo hi : Key) (B : Map) where
  -- a node whose children were chosen
  module _ (level : ℕ) (pointer : BlockPointer) (block : List ℕ) (part : Part) (came : B (want_of level pointer) ≡ Ok block)
      (c : IsChoice lo hi (pointers block) part) where
    -- what is left of the children that were chosen is all those whose keys meet the range, and then the rest
    pub chosen_left : (o : Option Frame) (rest : TourProg) → FramesPart pointer part o → frame_or (frame_left lo hi B) level o rest
        ≡ children_left lo hi level pointer 0 (child_pointers (pointers block) pointer.up) rest
    chosen_left None rest le = sym (ap (λ block_pointers. children (tour_from lo hi (level - 1)) pointer.addr (level - 1) block_pointers rest)
        (all_from lo hi (pointers block) pointer.up part c ∙ none_from lo hi (pointers block) pointer.up part.end part.next le c.high))
    chosen_left (Some f) rest h =
        ap (λ x. frame_left lo hi B level x rest) h.1
        ∙ ap (λ x. children_left lo hi level pointer part.next (child_pointers (pointers_in x) pointer.up) rest) came
        ∙ ap (λ block_pointers. children (tour_from lo hi (level - 1)) pointer.addr (level - 1) block_pointers rest)
        (sym (all_from lo hi (pointers block) pointer.up part c))

    -- the frame of the children that were chosen is one of a node that was read
    pub chosen_frame : (seen : List Want) (o : Option Frame) → judged level pointer block ≡ Some (Inner (pointers block)) → is_below pointer.up lo ≡ true
        → Contains seen (want_of level pointer) → FramesPart pointer part o → IfSome o (IsFrame lo hi B seen level)
    chosen_frame seen None is up read h = tt
    chosen_frame seen (Some f) is up read h = subst (IsFrame lo hi B seen level) (sym h.1) (record {
      node = record { block = block; came = came; is = is; read = read; more = h.0; within = c.within };
      up = up;
      behind = c.behind;
      low = c.low;
      high = c.high;
    })

  -- a node of which children are to come
  module _ (seen : List Want) (level : ℕ) (frame : Frame) (f : IsFrame lo hi B seen level frame) where
    -- the pointers of the node's children
    abbrev block_pointers : List BlockPointer
    block_pointers = child_pointers (pointers f.node.block) frame.pointer.up

    -- its next child comes first
    pub next_left : (todo : Todo) (rest : TourProg) → IsChild (pointers f.node.block) level frame todo → frame_left lo hi B level frame rest
        ≡ Act (marks.Child frame.pointer.addr (place_of todo.level todo.pointer)) (tour_from lo hi todo.level todo.pointer
        (children_left lo hi level frame.pointer (frame.next + 1) block_pointers rest))
    next_left todo rest c =
        let then : TourProg = children_left lo hi level frame.pointer (frame.next + 1) block_pointers rest in
        let there : frame.next < length block_pointers = let t = c.there in omega (arith, t, length-block_pointers (pointers f.node.block) frame.pointer.up) in
        let meets =
        here_meets lo hi (pointers f.node.block) frame.pointer.up frame.next frame.end some_block_pointer f.up f.node.more f.node.within f.behind f.low in
        let pointer_is : get_or block_pointers frame.next some_block_pointer ≡ todo.pointer =
        child_pointer_at (pointers f.node.block) frame.pointer.up frame.next some_pointer some_block_pointer c.there ∙ sym (c.pointer_is some_pointer) in
        ap (λ x. children_left lo hi level frame.pointer frame.next (child_pointers (pointers_in x) frame.pointer.up) rest) f.node.came
        ∙ ap (λ l. children (tour_from lo hi (level - 1)) frame.pointer.addr (level - 1) l rest)
        (filter_at (meets_keys lo hi) block_pointers frame.next some_block_pointer there meets)
        ∙ ap (λ s. Act (marks.Child frame.pointer.addr (place_of (level - 1) s)) (tour_from lo hi (level - 1) s then)) pointer_is
        ∙ ap (λ l. Act (marks.Child frame.pointer.addr (place_of l todo.pointer)) (tour_from lo hi l todo.pointer then)) (sym c.level_is)

    -- and then those behind it
    pub later_left : (o : Option Frame) (t : Option Todo) (rest : TourProg) → IsNextBelow (pointers f.node.block) level frame o t
        → frame_or (frame_left lo hi B) level o rest ≡ children_left lo hi level frame.pointer (frame.next + 1) block_pointers rest
    later_left None None rest h = absurd h
    later_left (Some g) None rest h = absurd h
    later_left None (Some todo) rest h = sym (ap (λ l. children (tour_from lo hi (level - 1)) frame.pointer.addr (level - 1) l rest)
        (none_from lo hi (pointers f.node.block) frame.pointer.up frame.end (frame.next + 1) h.1 f.high))
    later_left (Some g) (Some todo) rest h =
        ap (λ x. frame_left lo hi B level x rest) h.2
        ∙ ap (λ x. children_left lo hi level frame.pointer (frame.next + 1) (child_pointers (pointers_in x) frame.pointer.up) rest) f.node.came

  -- the frames of a path where more was read, and one was changed
  pub along_set : (seen more : List Want) (fs : List (Option Frame)) (i : ℕ) (o : Option Frame) → i < length fs
      → ((k : ℕ) → IfSome (get_or fs k None) (IsFrame lo hi B seen (k + 1))) → IfSome o (IsFrame lo hi B (seen ++ more) (i + 1)) → (k : ℕ)
      → IfSome (get_or (set fs i o) k None) (IsFrame lo hi B (seen ++ more) (k + 1))
  along_set seen more fs i o lt h g k =
      frames_set (IsFrame lo hi B seen) (IsFrame lo hi B (seen ++ more)) fs i o lt (λ level f x. frame_more lo hi B seen more level (Some f) x) h g k

  -- more was read, and nothing is to be read next
  pub along_more : (seen more : List Want) (place after : Where) → after.path ≡ place.path → after.todo ≡ None → IsAlong lo hi B seen place
      → IsAlong lo hi B (seen ++ more) after
  along_more seen more place after same none on = record {
    frames = λ k. subst (λ fs. IfSome (get_or fs k None) (IsFrame lo hi B (seen ++ more) (k + 1))) (sym same)
        (frame_more lo hi B seen more (k + 1) (get_or place.path k None) (on.frames k));
    above = subst (λ o. IfSome o (λ (t : Todo). (k : ℕ) → k < t.level → get_or after.path k None ≡ None)) (sym none) tt;
    up = subst (λ o. IfSome o (λ (t : Todo). is_below t.pointer.up lo ≡ true)) (sym none) tt;
  }

-- the lowest frame is read again next
pub frame_wanted : (m i : ℕ) (fs : List (Option Frame)) (frame : Frame) → ((k : ℕ) → k < i → get_or fs k None ≡ None) → get_or fs i None ≡ Some frame
    → frame_want m fs ≡ Some (want_of (m + i + 1) frame.pointer)
frame_wanted m i [] frame clear here = let e : None ≡ Some frame = here in cc
frame_wanted m zero (o ∷ fs) frame clear here =
    let e : m + 1 ≡ m + 0 + 1 = omega arith in
    ap (λ x. frame_want m (x ∷ fs)) here ∙ ap (λ n. Some (want_of n frame.pointer)) e
frame_wanted m (suc i) (o ∷ fs) frame clear here =
    let e : (m + 1) + i + 1 ≡ m + suc i + 1 = omega arith in
    ap (λ x. frame_want m (x ∷ fs)) (clear 0 (omega arith))
    ∙ frame_wanted (m + 1) i fs frame (λ k lt. clear (suc k) (omega (arith, lt))) here
    ∙ ap (λ n. Some (want_of n frame.pointer)) e
