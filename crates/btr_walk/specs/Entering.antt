-- What a block is that is read on the way through a range.
use Rattle.std.specs.Prelude.{◌≡◌, ◌-◌, true, List, IfSome, IsSomeAnd, Result, Ok, Err}
use Rattle.std.specs.List.{Contains}
use Rattle.btr_base.specs.declared.key.Key.{Key}
use Rattle.btr_prog.specs.Prog.{Wants, first, exec}
use Rattle.btr_read.specs.Store.{Blocks, SameLoans, block_of}
use Rattle.btr_read.specs.declared.want.Want.{Want}
use Rattle.btr_walk.specs.declared.entering.Entered.{Entered}
use Rattle.btr_walk.specs.declared.entering.Entered.TheVariants.{Leaf, Inner}
use Rattle.btr_walk.specs.declared.fault.TreeFault.{TreeFault}
use Rattle.btr_walk.specs.declared.frame.Todo.{Todo}
use Rattle.btr_walk.specs.BlockPointer.{is_below}
use Rattle.btr_walk.specs.Le.{want_of}
use Rattle.btr_walk.specs.Range.{RangeProg, emit_all, range_at}
use Rattle.btr_walk.specs.Reading.{Map, UnreadBlock, Reads}
use Rattle.btr_walk.specs.Scans.{part_items, todo_prog, IsFrame, IsTodo, frame_prog}
use Rattle.btr_walk.specs.Hand.{IsHeld, LendsHand}
use Rattle.btr_walk.specs.Frames.{frame_or}
use Rattle.btr_walk.specs.Ranks.{FitsBelow}

module _ (lo hi : Key) where
  -- a block was read: the program of its pointer is the want, and then what it has
  abbrev pub IsEntered : (UnreadBlock → Want → Type 0) → Map → Todo → Blocks → Result Entered TreeFault → Type 0
  IsEntered Is B todo store (Ok (Leaf l)) =
      IsSomeAnd (block_of store l.loan)
      (λ block. (rest : RangeProg) → exec B (range_at lo hi todo.level todo.pointer rest)
      ≡ first (Wants (want_of todo.level todo.pointer)) (exec B (emit_all (part_items l.pointer.addr block l.next l.end) rest)))
      × ((seen : List Want) → Contains seen (want_of todo.level todo.pointer) → IsHeld B seen store l)
  IsEntered Is B todo store (Ok (Inner b)) =
      is_below todo.pointer.up lo ≡ true
      → ((rest : RangeProg) → exec B (range_at lo hi todo.level todo.pointer rest)
      ≡ first (Wants (want_of todo.level todo.pointer)) (exec B (todo_prog lo hi b.todo (frame_or (frame_prog lo hi B) todo.level b.frame rest))))
      × ((seen : List Want) → Contains seen (want_of todo.level todo.pointer) → IfSome b.frame (IsFrame lo hi B seen todo.level))
      × IsTodo lo hi b.todo
      × IfSome b.todo (λ t. t.level ≡ todo.level - 1)
  IsEntered Is B todo store (Err f) = Reads Is B todo.level todo.pointer store (Err f)

-- the loan of a leaf that was entered is new and live, and for an inner node no loan changed
abbrev pub LendsEntered : Blocks → Blocks → Result Entered TreeFault → Type 0
LendsEntered old new (Ok (Leaf l)) = LendsHand old new l
LendsEntered old new (Ok (Inner b)) = SameLoans old new
LendsEntered old new (Err f) = SameLoans old new

-- an inner node has a level of 1 to 7, and what comes below it fits there
abbrev pub HasLevel : Todo → Result Entered TreeFault → Type 0
HasLevel todo (Ok (Leaf l)) = Unit {0}
HasLevel todo (Ok (Inner b)) = FitsBelow todo.level b
HasLevel todo (Err f) = Unit {0}
