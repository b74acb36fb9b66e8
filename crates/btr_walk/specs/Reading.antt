-- What calls that read trees answer.
use Rattle.std.specs.Prelude.{◌≡◌, ℕ, List, None, IfSome, IsSome, IsSomeAnd, Result, Ok, Err, ⊤}
use Rattle.btr_rack.specs.Rack.{Seen}
use Rattle.btr_prog.specs.Prog.{BlockMap}
use Rattle.btr_prog.specs.Answers.{Halt, Fault, Unread, Names}
use Rattle.btr_prog.specs.Calls.{Calls}
use Rattle.btr_read.specs.Fate as fate
use Rattle.btr_read.specs.Fate.{fate, sought}
use Rattle.btr_read.specs.Fetch.{IsUnreadFor}
use Rattle.btr_read.specs.Layout.{Layout}
use Rattle.btr_read.specs.Reading.{AgreedOn, OnMap, shown}
use Rattle.btr_read.specs.Store.{Blocks, Lent, block_of}
use Rattle.btr_read.specs.declared.fault.ReadFault.{ReadFault}
use Rattle.btr_read.specs.declared.fault.ReadFault.TheVariants as read
use Rattle.btr_read.specs.declared.want.Want.{Want}
use Rattle.btr_walk.specs.declared.fault.TreeFault.{TreeFault}
use Rattle.btr_walk.specs.declared.fault.TreeFault.TheVariants as tree
use Rattle.btr_walk.specs.declared.block_pointer.BlockPointer.{BlockPointer}
use Rattle.btr_walk.specs.BlockPointer.{judged}
use Rattle.btr_walk.specs.Le.{want_of}

-- a block map of the wants of trees
abbrev pub Map : Type 0
Map = BlockMap Want fate.Fault

-- what is told of a block that could not be read: its address, and the slot of the last read that failed
pub record UnreadBlock : Type 0 where
  pub addr : ℕ
  pub slot : ℕ

-- in these calls the want is the one that could not be read: with its whole cause
abbrev pub unread_by : Layout → Seen → Seen → UnreadBlock → Want → Type 0
unread_by layout old new u want = IsUnreadFor layout want old new u.addr u.slot

-- so far as the calls were steady, P holds of the block map of the images
pub record Tells (layout : Layout) (old new : Seen) (P : Map → Type 0) : Type 0 where
  pub calls : Calls (AgreedOn layout) (shown old) (shown new) (OnMap layout P)

-- so far as the calls over a store were steady, P holds of the wants that could not
-- be read and of the block map of the images
abbrev pub TellsOf : Blocks → Seen → Seen → ((UnreadBlock → Want → Type 0) → Map → Type 0) → Type 0
TellsOf store old new P = Tells store.layout old new (P (unread_by store.layout old new))

-- why a tree can't be read on, where a block of it could not be had
abbrev pub tree_fault : ReadFault → TreeFault
tree_fault (read.Lost a) = tree.Lost a
tree_fault (read.Unread a slot) = tree.Unread a slot
tree_fault (read.Unmapped a) = tree.Unmapped a
tree_fault (read.Crosses a) = tree.Crosses a

-- a fault of a tree as a halt of its program: that a block could not be read, or what the block's bytes are
abbrev pub halt_of : TreeFault → Halt fate.Fault UnreadBlock
halt_of (tree.Lost a) = Fault (fate.Lost a)
halt_of (tree.Unread a slot) = Unread (record { addr = a; slot = slot })
halt_of (tree.Unmapped a) = Fault (fate.Unmapped a)
halt_of (tree.Crosses a) = Fault (fate.Crosses a)
halt_of (tree.Malformed a) = Fault (fate.Malformed a)

-- an answer of a call as an answer of its program
abbrev pub answer_of : {A : Type 0} → Result A TreeFault → Result A (Halt fate.Fault UnreadBlock)
answer_of (Ok a) = Ok a
answer_of (Err f) = Err (halt_of f)

-- a fault that nothing but a block that was read before can have, and now could not be read
abbrev pub IsUnreadOf : (UnreadBlock → Want → Type 0) → List Want → TreeFault → Type 0
IsUnreadOf Is seen (tree.Lost a) = ⊥
IsUnreadOf Is seen (tree.Unread a slot) = Names Is (record { addr = a; slot = slot }) seen
IsUnreadOf Is seen (tree.Unmapped a) = ⊥
IsUnreadOf Is seen (tree.Crosses a) = ⊥
IsUnreadOf Is seen (tree.Malformed a) = ⊥

module _ (Is : UnreadBlock → Want → Type 0) (B : Map) where
  -- a block of a level at a pointer was read under a block map: these bytes, or why there are none
  abbrev pub Reads : ℕ → BlockPointer → Blocks → Result Lent TreeFault → Type 0
  Reads level pointer store (Ok loan) = IsSomeAnd (block_of store loan) (λ block. B (want_of level pointer) ≡ Ok block)
  Reads level pointer store (Err (tree.Lost a)) = B (want_of level pointer) ≡ Err (fate.Lost a)
  Reads level pointer store (Err (tree.Unread a slot)) = Is (record { addr = a; slot = slot }) (want_of level pointer)
  Reads level pointer store (Err (tree.Unmapped a)) = B (want_of level pointer) ≡ Err (fate.Unmapped a)
  Reads level pointer store (Err (tree.Crosses a)) = B (want_of level pointer) ≡ Err (fate.Crosses a)
  Reads level pointer store (Err (tree.Malformed a)) =
      (a ≡ pointer.addr) × ((block : List ℕ) × (B (want_of level pointer) ≡ Ok block) × (judged level pointer block ≡ None))

-- the block lent is a good one that fits its pointer
abbrev pub IsGoodFor : ℕ → BlockPointer → Blocks → Lent → Type 0
IsGoodFor level pointer store loan = IsSomeAnd (block_of store loan) (λ block. IsSome (judged level pointer block))

-- Why a block that was wanted could not be had: it is lost, has no position, or could not be read, with the whole
-- cause. Whether it is malformed the block map says.
abbrev pub CauseOf : Layout → Want → Seen → Seen → TreeFault → Type 0
CauseOf layout want old new (tree.Lost a) = IfSome old.held (λ images. fate images layout want ≡ Err (fate.Lost a))
CauseOf layout want old new (tree.Unread a slot) = IsUnreadFor layout want old new a slot
CauseOf layout want old new (tree.Unmapped a) = sought layout want ≡ Err (fate.Unmapped a)
CauseOf layout want old new (tree.Crosses a) = sought layout want ≡ Err (fate.Crosses a)
CauseOf layout want old new (tree.Malformed a) = ⊤

-- a fault is that of this want
abbrev pub HasCauseOf : {A : Type 0} → Layout → Want → Seen → Seen → Result A TreeFault → Type 0
HasCauseOf layout want old new (Ok a) = ⊤
HasCauseOf layout want old new (Err f) = CauseOf layout want old new f

-- A fault of a tree has its cause: some want was lost, has no position, or is the one that could not be read. Whether a
-- block is malformed hangs on the blocks before it: the program says it.
abbrev pub FaultCause : Layout → Seen → Seen → TreeFault → Type 0
FaultCause layout old new (tree.Lost a) = (want : Want) × IfSome old.held (λ images. fate images layout want ≡ Err (fate.Lost a))
FaultCause layout old new (tree.Unread a slot) = (want : Want) × IsUnreadFor layout want old new a slot
FaultCause layout old new (tree.Unmapped a) = (want : Want) × (sought layout want ≡ Err (fate.Unmapped a))
FaultCause layout old new (tree.Crosses a) = (want : Want) × (sought layout want ≡ Err (fate.Crosses a))
FaultCause layout old new (tree.Malformed a) = ⊤

-- an answer is no fault, or one that has a cause
abbrev pub HasCause : {A : Type 0} → Layout → Seen → Seen → Result A TreeFault → Type 0
HasCause layout old new (Ok a) = ⊤
HasCause layout old new (Err f) = FaultCause layout old new f
