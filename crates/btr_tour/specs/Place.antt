-- What a tour has still to meet.
use Rattle.std.specs.Prelude.{ℕ, ◌+◌, ◌-◌, List, [], ◌∷◌, map, filter, drop, Option, Some, None}
use Rattle.btr_base.specs.declared.key.Key.{Key}
use Rattle.btr_prog.specs.Trying.{Done, act_all}
use Rattle.btr_read.specs.Store.{Blocks, block_of}
use Rattle.btr_read.specs.declared.want.Want.{Want}
use Rattle.btr_walk.specs.Advancing.{hand_items}
use Rattle.btr_walk.specs.Frames.{path_of}
use Rattle.btr_walk.specs.Le.{want_of}
use Rattle.btr_walk.specs.Reading.{Map}
use Rattle.btr_walk.specs.Scans.{pointers_in}
use Rattle.btr_walk.specs.declared.frame.Frame.{Frame}
use Rattle.btr_walk.specs.declared.frame.Todo.{Todo}
use Rattle.btr_walk.specs.declared.going.Where.{Where}
use Rattle.btr_walk.specs.declared.leaf_at.LeafAt.{LeafAt}
use Rattle.btr_walk.specs.declared.block_pointer.BlockPointer.{BlockPointer}
use Rattle.btr_tour.specs.Tour.{Item, child_pointers, meets_keys}
use Rattle.btr_tour.specs.Program.{TourProg, children, tour_from}

-- the want of the lowest node of a path of which children are still to come, from a level on
abbrev pub frame_want : ℕ → List (Option Frame) → Option Want
frame_want n [] = None
frame_want n (None ∷ frames) = frame_want (n + 1) frames
frame_want n (Some frame ∷ frames) = Some (want_of (n + 1) frame.pointer)

-- the want of the block that is to be read, or else of that node, which is then read again
abbrev pub want_next : Option Todo → List (Option Frame) → Option Want
want_next None path = frame_want 0 path
want_next (Some todo) path = Some (want_of todo.level todo.pointer)

-- the want of the block that a tour at this place reads next
abbrev pub next_want : Where → Option Want
next_want place = want_next place.todo place.path

-- the items of a leaf in hand that are still to come, and then the rest
abbrev pub leaf_left : Blocks → Option LeafAt → TourProg → TourProg
leaf_left store None rest = rest
leaf_left store (Some l) rest = act_all (map Item (hand_items (block_of store l.loan) l)) rest

module _ (lo hi : Key) where
  -- the children of a node of a level, those from child `from` on, and then the rest
  abbrev pub children_left : ℕ → BlockPointer → ℕ → List BlockPointer → TourProg → TourProg
  children_left level pointer from block_pointers rest =
      children (tour_from lo hi (level - 1)) pointer.addr (level - 1) (filter (meets_keys lo hi) (drop from block_pointers)) rest

  module _ (B : Map) where
    -- the children of a frame that are still to come, and then the rest
    abbrev pub frame_left : ℕ → Frame → TourProg → TourProg
    frame_left level frame rest =
        children_left level frame.pointer frame.next (child_pointers (pointers_in (B (want_of level frame.pointer))) frame.pointer.up) rest

    -- the children of the frames of a path, those of the lowest level first
    abbrev pub path_left : ℕ → List (Option Frame) → TourProg
    path_left = path_of frame_left (Done tt)

    -- the block that is to be read, with all that is below it, and then the rest
    abbrev pub todo_left : Option Todo → TourProg → TourProg
    todo_left None rest = rest
    todo_left (Some todo) rest = tour_from lo hi todo.level todo.pointer rest

    -- all that a place has still to meet
    abbrev pub place_left : Where → TourProg
    place_left place = todo_left place.todo (path_left 0 place.path)
