-- What comes of a node that is read again.
use Rattle.std.specs.Prelude.{◌≡◌, ℕ, ◌+◌, ◌-◌, ◌<◌, ◌≤◌, List, length, drop, slice_index_or, Option, Some, None, IfSome, IsSome, Result, Ok, Err}
use Rattle.btr_base.specs.declared.key.Key.{Key}
use Rattle.btr_node.specs.Block.{KeyPointer, pointers}
use Rattle.btr_read.specs.declared.want.Want.{Want}
use Rattle.btr_walk.specs.declared.fault.TreeFault.{TreeFault}
use Rattle.btr_walk.specs.declared.frame.Frame.{Frame}
use Rattle.btr_walk.specs.declared.frame.Todo.{Todo}
use Rattle.btr_walk.specs.Le.{below, up_of}
use Rattle.btr_walk.specs.Reading.{Map, UnreadBlock, IsUnreadOf}
use Rattle.btr_walk.specs.Range.{RangeProg}
use Rattle.btr_walk.specs.Scans.{todo_prog, frame_prog, IsFrame, IsTodo}
use Rattle.btr_walk.specs.declared.frame.Below.{Below}
use Rattle.btr_walk.specs.Frames.{IsNode, frame_or}
use Rattle.btr_walk.specs.declared.choice.Part.{Part}

-- the frame behind its next child
abbrev pub later : Frame → Frame
later frame = record { pointer = frame.pointer; next = frame.next + 1; end = frame.end }

-- the next child of a frame
pub record IsChild (ps : List KeyPointer) (level : ℕ) (frame : Frame) (todo : Todo) : Type 0 where
  pub there : frame.next < length ps
  pub level_is : todo.level ≡ level - 1
  pub pointer_is : (d : KeyPointer) → todo.pointer ≡ below (slice_index_or ps frame.next d) (up_of (drop (frame.next + 1) ps) frame.pointer.up)

-- a node has the next child of a frame, and a frame is left where more children are to come
abbrev pub IsNextBelow : List KeyPointer → ℕ → Frame → Option Frame → Option Todo → Type 0
IsNextBelow ps level frame None None = ⊥
IsNextBelow ps level frame None (Some todo) = IsChild ps level frame todo × (frame.end ≤ frame.next + 1)
IsNextBelow ps level frame (Some f) None = ⊥
IsNextBelow ps level frame (Some f) (Some todo) = IsChild ps level frame todo × (frame.next + 1 < frame.end) × (f ≡ later frame)

-- a node that is read again has the next child of its frame, or has no child there
abbrev pub IsNext : List KeyPointer → ℕ → Frame → Option Below → Type 0
IsNext ps level frame None = length ps ≤ frame.next
IsNext ps level frame (Some b) = IsNextBelow ps level frame b.frame b.todo

-- the first child of a part of a node with these pointers, and the node where more are to come; nothing where the part is empty
pub record IsFirstBelow (ps : List KeyPointer) (todo : Todo) (part : Part) (b : Below) : Type 0 where
  pub none : part.end ≤ part.next → b ≡ record { frame = None; todo = None }
  pub some : part.next < part.end → IsNextBelow ps todo.level (record { pointer = todo.pointer; next = part.next; end = part.end }) b.frame b.todo

-- a node that was read before has its next child still, or it could not be read
abbrev pub Rereads : (UnreadBlock → Want → Type 0) → Map → ℕ → Frame → Result Below TreeFault → Type 0
Rereads Is B level frame (Ok b) = (seen : List Want) (node : IsNode B seen level frame) → IsNextBelow (pointers node.block) level frame b.frame b.todo
Rereads Is B level frame (Err f) = (seen : List Want) → IsNode B seen level frame → IsUnreadOf Is seen f

module _ (lo hi : Key) where
  -- what is left of a frame is its next child, and then what is left behind it
  pub record IsAgainBelow (B : Map) (level : ℕ) (frame : Frame) (seen : List Want) (b : Below) : Type 0 where
    pub program : (rest : RangeProg) → frame_prog lo hi B level frame rest ≡ todo_prog lo hi b.todo (frame_or (frame_prog lo hi B) level b.frame rest)
    pub frame_is : IfSome b.frame (IsFrame lo hi B seen level)
    pub up : IsTodo lo hi b.todo
    pub some : IsSome b.todo
    pub level_is : IfSome b.todo (λ t. t.level ≡ level - 1)
