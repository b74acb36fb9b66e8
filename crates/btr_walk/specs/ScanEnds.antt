-- What a scan and its store are after a step.
use Rattle.std.specs.Prelude.{◌≡◌, ℕ, ◌-◌, ◌<◌, ◌≤◌, ◌++◌, List, length, slice_index_or, [], Option, Some, None, IfSome, IsSomeAnd, Result, Ok, Err, ⊤}
use Rattle.std.specs.Borrow.{follows_so, MutBor, Fml}
use mathlib.Core.Option.{none}
use Rattle.btr_node.specs.Block.{Item, items}
use Rattle.btr_prog.specs.Prog.{Does, first, prepend, exec}
use Rattle.btr_prog.specs.Answers.{Follows, no_part}
use Rattle.btr_rack.specs.Rack.{Seen}
use Rattle.btr_read.specs.Serves.{Serves}
use Rattle.btr_read.specs.Store.{Blocks, SameLoans, block_of}
use Rattle.btr_read.specs.contracts.store.Store.{the_row}
use Rattle.btr_read.specs.declared.want.Want.{Want}
use Rattle.btr_walk.specs.declared.fault.TreeFault.{TreeFault}
use Rattle.btr_walk.specs.declared.found.Found.{Found}
use Rattle.btr_walk.specs.declared.scan.Scan.{Scan}
use Rattle.btr_walk.specs.Le.{TreeItem, tree_item}
use Rattle.btr_walk.specs.Reading.{Map, UnreadBlock, TellsOf, halt_of}
use Rattle.btr_walk.specs.Scans.{wants}
use Rattle.btr_walk.specs.Range.{RangeProg}
use Rattle.btr_walk.specs.Showing.{item_of}
use Rattle.btr_walk.specs.Lending.{base}
use Rattle.btr_walk.specs.Going.{IsOn}
use Rattle.btr_walk.specs.Ranks.{IsShaped, rank_on}
use Rattle.btr_walk.specs.Advancing.{left}
use Rattle.btr_walk.specs.declared.leaf_at.LeafAt.{LeafAt}
use Rattle.btr_walk.specs.Hand.{frame_of, IsHeld, IsInHand, loan_of}

-- what a scan has still to give
abbrev pub left_of : Map → Blocks → Scan → RangeProg
left_of B store scan = left scan.lo scan.hi B store scan.leaf scan.place

-- the leaf in hand, if there is one, is the block that its want came to, which was read
abbrev pub HoldsLeaf : Map → List Want → Blocks → Scan → Type 0
HoldsLeaf B seen store scan = IfSome scan.leaf (IsHeld B seen store)

-- an item of a leaf in hand is the one that was met last: it stands before `next`
abbrev pub WasMet : Blocks → TreeItem → LeafAt → Type 0
WasMet store item l =
    IsSomeAnd (block_of store l.loan)
    (λ block. (l.next ≤ length (items block)) × ((d : Item) → tree_item l.pointer.addr (slice_index_or (items block) (l.next - 1) d) ≡ item))

-- some wants, and then the item; what is left comes behind
pub record Gives (B : Map) (seen : List Want) (old new : Blocks) (scan scan' : Scan) (found : Found) : Type 0 where
  pub past : List Want
  pub is : exec B (left_of B old scan) ≡ prepend (wants past) (first (Does (item_of found)) (exec B (left_of B new scan')))
  pub on : IsOn scan.lo scan.hi B (seen ++ past) scan'.place
  pub held : HoldsLeaf B seen old scan → HoldsLeaf B (seen ++ past) new scan'
  pub met : IfSome scan'.leaf (WasMet new (item_of found))

-- a call of the scan gives the next item, the end, or a fault
abbrev pub NextItemBy : (UnreadBlock → Want → Type 0) → Map → List Want → Blocks → Blocks → Scan → Scan → Result (Option Found) TreeFault → Type 0
NextItemBy Is B seen old new scan scan' (Ok (Some found)) = Gives B seen old new scan scan' found
NextItemBy Is B seen old new scan scan' (Ok None) = Follows Is no_part seen (exec B (left_of B old scan)) [] (Ok tt)
NextItemBy Is B seen old new scan scan' (Err f) = Follows Is no_part seen (exec B (left_of B old scan)) [] (Err (halt_of f))

-- a call of the scan gives the next item, the end or a fault, whatever was read before
abbrev pub IsNextOn : (UnreadBlock → Want → Type 0) → Map → Blocks → Blocks → Scan → Scan → Result (Option Found) TreeFault → Type 0
IsNextOn Is B old new scan scan' result = (seen : List Want) → IsOn scan.lo scan.hi B seen scan.place → NextItemBy Is B seen old new scan scan' result

-- a rack and a store can go on with a scan: the loan of its leaf, if it has one, is live
pub record IsScanReady (rack : Seen) (store : Blocks) (scan : Scan) : Type 0 where
  pub serves : Serves rack store
  pub hand : IfSome scan.leaf (IsInHand store)
  pub shaped : IsShaped scan.place.rest
  pub alone : IfSome scan.leaf (λ l. scan.place.leaf ≡ None)

-- the store without the loan of a scan's leaf
abbrev pub without_leaf : Blocks → Scan → Blocks
without_leaf store scan = base store (loan_of scan.leaf)

-- a scan can go on, and no other loan changed; after a fault and at the end it has no
-- loan; and what the step says of the block map
pub record Scanned (old new : Blocks) (scan scan' : Scan) (before now : Seen) (result : Result (Option Found) TreeFault) : Type 0 where
  pub others : SameLoans (without_leaf old scan) (without_leaf new scan')
  pub ready : IsScanReady now new scan'
  pub content : TellsOf old before now (λ Is B. IsNextOn Is B old new scan scan' result)

-- the scan and its store end as the step's answer says, and no other loan changed
abbrev pub ScanEnds : MutBor Blocks → Scan → Scan → Seen → Seen → Result (Option Found) TreeFault → Fml
ScanEnds store scan scan' before now result =
    follows_so the_row the_row store.ghost_name none (λ _ _. ⊤) (λ new. Scanned store.now new scan scan' before now result)

-- a leaf is kept with an item, which stands before `next`, and only then
abbrev pub KeepsLeaf : Result (Option Found) TreeFault → Option LeafAt → Type 0
KeepsLeaf (Ok (Some found)) leaf = IsSomeAnd leaf (λ l. (0 < l.next) × (l.next ≤ l.end))
KeepsLeaf (Ok None) leaf = leaf ≡ None
KeepsLeaf (Err f) leaf = leaf ≡ None

-- how much a scan has still to do, whatever its tree holds: the measure of a loop over it
abbrev pub rank_of : Scan → ℕ
rank_of scan = rank_on scan.place scan.leaf

-- a scan comes nearer to its end with each item, and never goes back
abbrev pub NextRankFalls : Scan → Scan → Result (Option Found) TreeFault → Type 0
NextRankFalls scan scan' (Ok (Some found)) = rank_of scan' < rank_of scan
NextRankFalls scan scan' (Ok None) = rank_of scan' ≤ rank_of scan
NextRankFalls scan scan' (Err f) = rank_of scan' ≤ rank_of scan

-- a scan that gave its leaf back has still to give the same, and comes to its end as near
pub record Paused (old new : Blocks) (scan scan' : Scan) : Type 0 where
  pub lo : scan'.lo ≡ scan.lo
  pub hi : scan'.hi ≡ scan.hi
  pub leaf : scan'.leaf ≡ None
  pub kept : IfSome scan.leaf (λ l. scan'.place.leaf ≡ Some (frame_of l))
  pub rest : scan'.place.rest ≡ scan.place.rest
  pub rank : rank_of scan' ≡ rank_of scan
  pub program : (B : Map) (seen : List Want) → HoldsLeaf B seen old scan → left_of B new scan' ≡ left_of B old scan
  pub on : (B : Map) (seen : List Want) → HoldsLeaf B seen old scan → IsOn scan.lo scan.hi B seen scan.place → IsOn scan.lo scan.hi B seen scan'.place
