-- A leaf in hand, or one that was given back and is read again.
use Rattle.std.specs.Prelude.{◌≡◌, ℕ, ◌+◌, ◌^◌, ◌<◌, ◌≤◌, List, length, Option, Some, None, IsSomeAnd, IsTrue, Result, Ok, Err}
use Rattle.std.specs.List.{Contains}
use Rattle.btr_node.specs.Block.{items, is_leaf}
use Rattle.btr_node.specs.declared.node.Node.TheVariants.{Leaf}
use Rattle.btr_read.specs.Store.{Blocks, Lent, SameLoans, block_of, IsLiveIn}
use Rattle.btr_read.specs.declared.want.Want.{Want}
use Rattle.btr_walk.specs.declared.fault.TreeFault.{TreeFault}
use Rattle.btr_walk.specs.declared.frame.Frame.{Frame}
use Rattle.btr_walk.specs.declared.leaf_at.LeafAt.{LeafAt}
use Rattle.btr_walk.specs.Le.{want_of}
use Rattle.btr_walk.specs.Lending.{base}
use Rattle.btr_walk.specs.Reading.{Map, UnreadBlock, IsUnreadOf}
use Rattle.btr_walk.specs.BlockPointer.{judged}

-- a leaf behind its next item
abbrev pub behind_next : LeafAt → LeafAt
behind_next l = record { pointer = l.pointer; next = l.next + 1; end = l.end; loan = l.loan }

-- a leaf in hand: its loan is live, and its block is a good leaf
pub record IsInHand (store : Blocks) (l : LeafAt) : Type 0 where
  pub live : IsLiveIn store l.loan
  pub large : 4096 ≤ l.loan.len
  pub small : l.end < 2 ^ 64
  pub good : IsSomeAnd (block_of store l.loan) (λ block. IsTrue (is_leaf block) × (l.end ≤ length (items block)))

-- the loan of a leaf in hand, if there is one
abbrev pub loan_of : Option LeafAt → Option Lent
loan_of None = None
loan_of (Some l) = Some l.loan

-- the loan of a leaf in hand is new, and no other changed
pub record LendsHand (old new : Blocks) (l : LeafAt) : Type 0 where
  pub others : SameLoans old (base new (Some l.loan))
  pub hand : IsInHand new l

-- a leaf in hand is the block that its want came to, a good one at its pointer
pub record IsHeld (B : Map) (seen : List Want) (store : Blocks) (l : LeafAt) : Type 0 where
  pub block : List ℕ
  pub lent : block_of store l.loan ≡ Some block
  pub came : B (want_of 0 l.pointer) ≡ Ok block
  pub is : judged 0 l.pointer block ≡ Some (Leaf (items block))
  pub read : Contains seen (want_of 0 l.pointer)

-- a leaf that was given back is the block that its want came to, a good one at its pointer: it was read before
pub record IsGivenBack (B : Map) (seen : List Want) (frame : Frame) : Type 0 where
  pub block : List ℕ
  pub came : B (want_of 0 frame.pointer) ≡ Ok block
  pub is : judged 0 frame.pointer block ≡ Some (Leaf (items block))
  pub read : Contains seen (want_of 0 frame.pointer)
  pub within : frame.end ≤ length (items block)

-- where a leaf in hand stands, without its loan
abbrev pub frame_of : LeafAt → Frame
frame_of l = record { pointer = l.pointer; next = l.next; end = l.end }

-- the leaf that was given back
abbrev pub IsLeafOf : Frame → LeafAt → Type 0
IsLeafOf frame l = (l.pointer ≡ frame.pointer) × (l.next ≡ frame.next) × (l.end ≡ frame.end)

-- the loan of the leaf that was lent again is new and live, or no loan changed
abbrev pub LendsAgain : Blocks → Blocks → Result LeafAt TreeFault → Type 0
LendsAgain old new (Ok l) = LendsHand old new l
LendsAgain old new (Err f) = SameLoans old new

-- it is the same again, or it could not be read
abbrev pub IsLeafAgain : (UnreadBlock → Want → Type 0) → Map → Frame → Blocks → Result LeafAt TreeFault → Type 0
IsLeafAgain Is B frame store (Ok l) = (seen : List Want) → IsGivenBack B seen frame → IsHeld B seen store l
IsLeafAgain Is B frame store (Err f) = (seen : List Want) → IsGivenBack B seen frame → IsUnreadOf Is seen f
