-- A node that is read again.
use Rattle.std.proofs.Common.{◌≡◌, ℕ, ◌+◌, ◌-◌, ◌<◌, ◌≤◌, true, List, drop, Option, Some, None, refl, sym, ap, ◌∙◌, subst, arith}
use Rattle.btr_base.specs.declared.key.Key.{Key}
use Rattle.btr_base.specs.Key.{key_number}
use Rattle.btr_node.specs.Block.{KeyPointer, pointers}
use Rattle.btr_read.specs.declared.want.Want.{Want}
use Rattle.btr_walk.specs.declared.frame.Frame.{Frame}
use Rattle.btr_walk.specs.declared.frame.Todo.{Todo}
use Rattle.btr_walk.specs.declared.block_pointer.BlockPointer.{BlockPointer}
use Rattle.btr_walk.specs.BlockPointer.{is_below}
use Rattle.btr_walk.specs.Le.{want_of}
use Rattle.btr_walk.specs.Range.{RangeProg, over, range_at}
use Rattle.btr_walk.specs.Scans.{pointers_in, frame_prog, IsFrame}
use Rattle.btr_walk.specs.Again.{later, IsChild, IsNextBelow, IsAgainBelow}
use Rattle.btr_walk.specs.Reading.{Map}
use Rattle.btr_walk.proofs.Choosing.{over_none, bound_behind}
use Rattle.btr_walk.proofs.Belows.{all_later, all_at, over_at}

module _ (lo hi : Key) (B : Map) (level : ℕ) (frame : Frame) (seen : List Want) (f : IsFrame lo hi B seen level frame) where
  -- the pointers of the frame's node are those that the block map gives
  in_map : pointers_in (B (want_of level frame.pointer)) ≡ pointers f.node.block
  in_map = ap pointers_in f.node.came

  -- the next child of a frame ends behind lo
  child_up : (todo : Todo) → IsChild (pointers f.node.block) level frame todo → is_below todo.pointer.up lo ≡ true
  child_up todo c = ap (λ (s : BlockPointer). is_below s.up lo) (c.pointer_is (record { key = lo; addr = 0; generation = 0 }))
      ∙ bound_behind lo (drop (frame.next + 1) (pointers f.node.block)) frame.pointer.up f.up f.behind

  -- what is left of a frame is its next child, and then those behind it that meet the keys
  child_prog : (todo : Todo) → IsChild (pointers f.node.block) level frame todo → (rest : RangeProg) → frame_prog lo hi B level frame rest
      ≡ range_at lo hi todo.level todo.pointer (over lo hi (range_at lo hi (level - 1)) (drop (frame.next + 1) (pointers f.node.block)) frame.pointer.up rest)
  child_prog todo c rest =
      let d : KeyPointer = record { key = lo; addr = 0; generation = 0 } in
      ap (λ (l : List KeyPointer). over lo hi (range_at lo hi (level - 1)) (drop frame.next l) frame.pointer.up rest) in_map
      ∙ over_at lo hi (pointers f.node.block) frame.pointer.up f.up (range_at lo hi (level - 1)) rest frame.next d c.there f.behind
      (all_at (λ (p : KeyPointer). key_number p.key ≤ key_number hi) (pointers f.node.block) frame.end frame.next d f.node.more c.there f.low)
      ∙ ap (λ s. range_at lo hi (level - 1) s (over lo hi (range_at lo hi (level - 1)) (drop (frame.next + 1) (pointers f.node.block)) frame.pointer.up rest))
      (sym (c.pointer_is d))
      ∙ ap (λ l. range_at lo hi l todo.pointer (over lo hi (range_at lo hi (level - 1)) (drop (frame.next + 1) (pointers f.node.block)) frame.pointer.up rest))
      (sym c.level_is)

  -- behind its next child a frame that has more to come is one of a node that was read
  later_frame : frame.next + 1 < frame.end → IsFrame lo hi B seen level (later frame)
  later_frame more = record {
    node = record { block = f.node.block; came = f.node.came; is = f.node.is; read = f.node.read; more = more; within = f.node.within };
    up = f.up;
    behind = all_later (λ (p : KeyPointer). key_number lo < key_number p.key) (frame.next + 1) (frame.next + 1 + 1) (pointers f.node.block)
        (omega arith) f.behind;
    low = f.low;
    high = f.high;
  }

  -- what is left of a frame is its next child, and then the frame behind it
  pub again_as : (o : Option Frame) (t : Option Todo) → IsNextBelow (pointers f.node.block) level frame o t
      → IsAgainBelow lo hi B level frame seen (record { frame = o; todo = t })
  again_as None None h = absurd h
  again_as (Some g) None h = absurd h
  again_as None (Some todo) h = record {
    program = λ rest. child_prog todo h.0 rest ∙ ap (range_at lo hi todo.level todo.pointer)
        (over_none lo hi (range_at lo hi (level - 1)) (drop (frame.next + 1) (pointers f.node.block)) frame.pointer.up rest
        (all_later (λ (p : KeyPointer). key_number hi < key_number p.key) frame.end (frame.next + 1) (pointers f.node.block) h.1 f.high));
    frame_is = tt;
    up = child_up todo h.0;
    some = refl;
    level_is = h.0.level_is;
  }
  again_as (Some g) (Some todo) h = record {
    program = λ rest.
        child_prog todo h.0 rest
        ∙ ap (λ (l : List KeyPointer). range_at lo hi todo.level todo.pointer
        (over lo hi (range_at lo hi (level - 1)) (drop (frame.next + 1) l) frame.pointer.up rest)) (sym in_map)
        ∙ ap (λ x. range_at lo hi todo.level todo.pointer (frame_prog lo hi B level x rest)) (sym h.2);
    frame_is = subst (IsFrame lo hi B seen level) (sym h.2) (later_frame h.1);
    up = child_up todo h.0;
    some = refl;
    level_is = h.0.level_is;
  }
