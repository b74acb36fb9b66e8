-- What a walk over the blocks of a tree has still to give.
use Rattle.std.specs.Prelude.{◌≡◌, ℕ, ◌+◌, ◌-◌, ◌<◌, ◌≤◌, List, [], ◌∷◌, ◌++◌, length, drop, slice_index_or, Option, Some, None, IfSome, IsSome}
use Rattle.std.specs.Prelude.{IsSomeAnd, Result, Ok, Err, ⊤}
use Rattle.std.specs.Borrow.{follows_so, MutBor, Fml}
use mathlib.Core.Option.{none}
use Rattle.btr_node.specs.Block.{pointers}
use Rattle.btr_prog.specs.Prog.{Return, Wants, Does, first, prepend, want_marks, exec}
use Rattle.btr_prog.specs.Answers.{Follows, no_part}
use Rattle.btr_rack.specs.Rack.{Seen}
use Rattle.btr_read.specs.Serves.{Serves}
use Rattle.btr_read.specs.Store.{Blocks, SameLoans, block_of, IsLiveIn, IsLentBy}
use Rattle.btr_read.specs.contracts.store.Store.{the_row}
use Rattle.btr_read.specs.declared.want.Want.{Want}
use Rattle.btr_walk.specs.declared.ahead.Ahead.{Ahead}
use Rattle.btr_walk.specs.declared.block_scan.BlockScan.{BlockScan}
use Rattle.btr_walk.specs.declared.fault.TreeFault.{TreeFault}
use Rattle.btr_walk.specs.declared.found_block.FoundBlock.{FoundBlock}
use Rattle.btr_walk.specs.declared.frame.Frame.{Frame}
use Rattle.btr_walk.specs.declared.frame.Todo.{Todo}
use Rattle.btr_walk.specs.declared.going.Where.{Where}
use Rattle.btr_walk.specs.declared.preorder.Entry.{Entry}
use Rattle.btr_walk.specs.Le.{want_of}
use Rattle.btr_walk.specs.Reading.{Map, UnreadBlock, TellsOf, halt_of}
use Rattle.btr_walk.specs.Lending.{base}
use Rattle.btr_walk.specs.Scans.{pointers_in}
use Rattle.btr_walk.specs.Ranks.{IsShaped, rank}
use Rattle.btr_walk.specs.Blocks.{TreeBlock, BlocksProg, tree_block, shown_block, each, blocks_at}
use Rattle.btr_walk.specs.Frames.{IsNode, path_of}

-- the children of a frame that are still to come, and then the rest
abbrev pub frame_blocks : Map → ℕ → Frame → BlocksProg → BlocksProg
frame_blocks B level frame rest = each (blocks_at (level - 1)) (drop frame.next (pointers_in (B (want_of level frame.pointer)))) frame.pointer.up rest

-- the block that is to be read, and then the rest
abbrev pub todo_blocks : Option Todo → BlocksProg → BlocksProg
todo_blocks None rest = rest
todo_blocks (Some todo) rest = blocks_at todo.level todo.pointer rest

-- the children of the frames of a path that are still to come, those of the lowest level first
abbrev pub path_blocks : Map → ℕ → List (Option Frame) → BlocksProg
path_blocks B = path_of (frame_blocks B) (Return tt)

-- all blocks that a place has still to give
abbrev pub place_blocks : Map → Where → BlocksProg
place_blocks B place = todo_blocks place.todo (path_blocks B 0 place.path)

-- a frame's node was read before, and all its children from the next one on are still to come
pub record IsWholeFrame (B : Map) (seen : List Want) (level : ℕ) (frame : Frame) : Type 0 where
  pub node : IsNode B seen level frame
  pub all : frame.end ≡ length (pointers node.block)

-- each frame of the path was read before; the block that is to be read lies below all of them
pub record IsAmong (B : Map) (seen : List Want) (place : Where) : Type 0 where
  pub frames : (k : ℕ) → IfSome (slice_index_or place.path k None) (IsWholeFrame B seen (k + 1))
  pub above : IfSome place.todo (λ t. (k : ℕ) → k < t.level → slice_index_or place.path k None ≡ None)

-- the place where a block is to be read
abbrev pub place_of : Ahead → Where
place_of ahead = record { path = ahead.path; todo = Some ahead.todo }

-- what is to be read next: nothing that is read anew stands before it
abbrev pub AheadBy : (UnreadBlock → Want → Type 0) → Map → List Want → Where → Result (Option Ahead) TreeFault → Type 0
AheadBy Is B seen place (Ok (Some ahead)) = (place_blocks B place ≡ place_blocks B (place_of ahead)) × IsAmong B seen (place_of ahead)
AheadBy Is B seen place (Ok None) = place_blocks B place ≡ Return tt
AheadBy Is B seen place (Err f) = Follows Is no_part seen (exec B (place_blocks B place)) [] (Err (halt_of f))

-- what a place comes to next, whatever was read before
abbrev pub IsAhead : (UnreadBlock → Want → Type 0) → Map → Where → Result (Option Ahead) TreeFault → Type 0
IsAhead Is B place result = (seen : List Want) → IsAmong B seen place → AheadBy Is B seen place result

-- the walk goes to a place that is nearer to its end
abbrev pub RankFallsAhead : Where → Result (Option Ahead) TreeFault → Type 0
RankFallsAhead place (Ok (Some ahead)) = IsShaped (place_of ahead) × (rank (place_of ahead) ≤ rank place)
RankFallsAhead place (Ok None) = Unit {0}
RankFallsAhead place (Err f) = Unit {0}

-- a block was read: its want, then its step; what is left comes behind
pub record Enters (B : Map) (seen : List Want) (from to : Where) (want : Want) (met : TreeBlock) : Type 0 where
  pub is : exec B (place_blocks B from) ≡ first (Wants want) (first (Does met) (exec B (place_blocks B to)))
  pub on : IsAmong B (seen ++ (want ∷ [])) to

-- where a walk is behind a block: for a leaf nothing is below; a node's first child comes next, and then the others
abbrev pub IsBehindBlock : Ahead → List ℕ → Where → Type 0
IsBehindBlock ahead block place =
    (B : Map) (seen : List Want) → B (want_of ahead.todo.level ahead.todo.pointer) ≡ Ok block → IsAmong B seen (place_of ahead)
    → Enters B seen (place_of ahead) place (want_of ahead.todo.level ahead.todo.pointer) (tree_block ahead.todo.level ahead.todo.pointer block)

-- the block that was to be read is given, or a fault of it
abbrev pub EntersBy : (UnreadBlock → Want → Type 0) → Map → List Want → Ahead → Blocks → Result Entry TreeFault → Type 0
EntersBy Is B seen ahead store (Ok e) =
    IsSomeAnd (block_of store e.loan)
    (λ block. Enters B seen (place_of ahead) e.place (want_of ahead.todo.level ahead.todo.pointer)
    (record { addr = e.addr; level = e.level; bytes = block }))
EntersBy Is B seen ahead store (Err f) = Follows Is no_part seen (exec B (place_blocks B (place_of ahead))) [] (Err (halt_of f))

-- the block that was to be read is given, whatever was read before
abbrev pub IsEntry : (UnreadBlock → Want → Type 0) → Map → Ahead → Blocks → Result Entry TreeFault → Type 0
IsEntry Is B ahead store result = (seen : List Want) → IsAmong B seen (place_of ahead) → EntersBy Is B seen ahead store result

-- the place after a block is nearer to the end than the one before it
abbrev pub RankFallsEntry : Where → Result Entry TreeFault → Type 0
RankFallsEntry place (Ok e) = IsShaped e.place × (rank e.place < rank place)
RankFallsEntry place (Err f) = Unit {0}

-- the loan of the block that was read is new and live, or no loan changed
abbrev pub LendsEntry : Blocks → Blocks → Ahead → Result Entry TreeFault → Type 0
LendsEntry old new ahead (Ok e) = IsLentBy old new (want_of ahead.todo.level ahead.todo.pointer) e.loan
LendsEntry old new ahead (Err f) = SameLoans old new

-- some wants, and then the block; what is left comes behind
pub record GivesBlock (B : Map) (seen : List Want) (from to : Where) (met : TreeBlock) : Type 0 where
  pub past : List Want
  pub is : exec B (place_blocks B from) ≡ prepend (want_marks past) (first (Does met) (exec B (place_blocks B to)))
  pub on : IsAmong B (seen ++ past) to

-- the step gives the next block, the end, or a fault
abbrev pub StepsBy : (UnreadBlock → Want → Type 0) → Map → List Want → Where → Blocks → Result (Option Entry) TreeFault → Type 0
StepsBy Is B seen place store (Ok (Some e)) =
    IsSomeAnd (block_of store e.loan)
    (λ block. GivesBlock B seen place e.place (record { addr = e.addr; level = e.level; bytes = block }))
StepsBy Is B seen place store (Ok None) = Follows Is no_part seen (exec B (place_blocks B place)) [] (Ok tt)
StepsBy Is B seen place store (Err f) = Follows Is no_part seen (exec B (place_blocks B place)) [] (Err (halt_of f))

-- the step gives the next block, the end or a fault, whatever was read before
abbrev pub IsStep : (UnreadBlock → Want → Type 0) → Map → Where → Blocks → Result (Option Entry) TreeFault → Type 0
IsStep Is B place store result = (seen : List Want) → IsAmong B seen place → StepsBy Is B seen place store result

-- the place after a step is nearer to the end than the one before it
abbrev pub RankFallsStep : Where → Result (Option Entry) TreeFault → Type 0
RankFallsStep place (Ok (Some e)) = IsShaped e.place × (rank e.place < rank place)
RankFallsStep place (Ok None) = Unit {0}
RankFallsStep place (Err f) = Unit {0}

-- the loan of a block is new and live, and no other loan changed
pub record LendsBlock (old new : Blocks) (e : Entry) : Type 0 where
  pub others : SameLoans old (base new (Some e.loan))
  pub live : IsLiveIn new e.loan

-- the loan of the block of a step is new and live, or no loan changed
abbrev pub LendsStep : Blocks → Blocks → Result (Option Entry) TreeFault → Type 0
LendsStep old new (Ok (Some e)) = LendsBlock old new e
LendsStep old new (Ok None) = SameLoans old new
LendsStep old new (Err f) = SameLoans old new

-- what a walk has still to give
abbrev pub blocks_left : Map → BlockScan → BlocksProg
blocks_left B scan = place_blocks B scan.place

-- a call of the walk gives the next block, the end, or a fault
abbrev pub NextBlockBy : (UnreadBlock → Want → Type 0) → Map → List Want → BlockScan → BlockScan → Result (Option FoundBlock) TreeFault → Type 0
NextBlockBy Is B seen scan scan' (Ok (Some found)) = GivesBlock B seen scan.place scan'.place (shown_block found)
NextBlockBy Is B seen scan scan' (Ok None) = Follows Is no_part seen (exec B (blocks_left B scan)) [] (Ok tt)
NextBlockBy Is B seen scan scan' (Err f) = Follows Is no_part seen (exec B (blocks_left B scan)) [] (Err (halt_of f))

-- a call of the walk gives the next block, the end or a fault, whatever was read before
abbrev pub IsNextBlock : (UnreadBlock → Want → Type 0) → Map → BlockScan → BlockScan → Result (Option FoundBlock) TreeFault → Type 0
IsNextBlock Is B scan scan' result = (seen : List Want) → IsAmong B seen scan.place → NextBlockBy Is B seen scan scan' result

-- a rack and a store can go on with a walk: the loan of its block, if it has one, is live
pub record IsReadyFor (rack : Seen) (store : Blocks) (scan : BlockScan) : Type 0 where
  pub serves : Serves rack store
  pub live : IfSome scan.loan (IsLiveIn store)
  pub shaped : IsShaped scan.place

-- the store without the loan of a walk's block
abbrev pub without_block : Blocks → BlockScan → Blocks
without_block store scan = base store scan.loan

-- a walk can go on, and no other loan changed; and what the step says of the block map
pub record Walked (old new : Blocks) (scan scan' : BlockScan) (before now : Seen) (result : Result (Option FoundBlock) TreeFault) : Type 0 where
  pub others : SameLoans (without_block old scan) (without_block new scan')
  pub ready : IsReadyFor now new scan'
  pub content : TellsOf old before now (λ Is B. IsNextBlock Is B scan scan' result)

-- the walk and its store end as the step's answer says, and no other loan changed
abbrev pub BlockScanEnds : MutBor Blocks → BlockScan → BlockScan → Seen → Seen → Result (Option FoundBlock) TreeFault → Fml
BlockScanEnds store scan scan' before now result =
    follows_so the_row the_row store.ghost_name none (λ _ _. ⊤) (λ new. Walked store.now new scan scan' before now result)

-- a loan is kept with a block, and only then
abbrev pub KeepsBlock : Result (Option FoundBlock) TreeFault → BlockScan → Type 0
KeepsBlock (Ok (Some found)) scan = IsSome scan.loan
KeepsBlock (Ok None) scan = scan.loan ≡ None
KeepsBlock (Err f) scan = scan.loan ≡ None

-- how much a walk has still to do, whatever its tree holds: the measure of a loop over it
abbrev pub blocks_rank : BlockScan → ℕ
blocks_rank scan = rank scan.place

-- a call of the walk comes nearer to the end where it gives a block, and else leaves its place
abbrev pub NextBlockRankFalls : BlockScan → BlockScan → Result (Option FoundBlock) TreeFault → Type 0
NextBlockRankFalls scan scan' (Ok (Some found)) = blocks_rank scan' < blocks_rank scan
NextBlockRankFalls scan scan' (Ok None) = scan'.place ≡ scan.place
NextBlockRankFalls scan scan' (Err f) = scan'.place ≡ scan.place
