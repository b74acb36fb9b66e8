-- Where a scan goes on that keeps no loan.
use Rattle.std.specs.Prelude.{◌≡◌, ℕ, ◌-◌, ◌<◌, ◌≤◌, List, [], map, slice_get, slice_index_or, Option, Some, None, IfSome, IsSomeAnd, Result, Ok, Err}
use Rattle.btr_node.specs.Block.{Item, items}
use Rattle.btr_rack.specs.Rack.{Seen}
use Rattle.btr_read.specs.Fate.{Fault}
use Rattle.btr_read.specs.Store.{Blocks, SameLoans, block_of}
use Rattle.btr_read.specs.declared.want.Want.{Want}
use Rattle.btr_walk.specs.declared.fault.TreeFault.{TreeFault}
use Rattle.btr_walk.specs.declared.frame.Frame.{Frame}
use Rattle.btr_walk.specs.declared.rest.MetAgain.{MetAgain}
use Rattle.btr_walk.specs.declared.rest.Rest.{Rest}
use Rattle.btr_walk.specs.declared.scan.Scan.{Scan}
use Rattle.btr_walk.specs.Finding.{LendsItemAt}
use Rattle.btr_walk.specs.Going.{place_prog, IsOn}
use Rattle.btr_walk.specs.Le.{TreeItem, tree_item, want_of}
use Rattle.btr_walk.specs.Range.{RangeProg, emit_all}
use Rattle.btr_walk.specs.Ranks.{IsShaped, rank_on}
use Rattle.btr_walk.specs.Reading.{Map, UnreadBlock, IsUnreadOf}
use Rattle.btr_walk.specs.Scans.{kept_items}
use Rattle.btr_walk.specs.ScanEnds.{left_of, rank_of, HoldsLeaf, WasMet, IsScanReady}

-- the items of a leaf that was given back, and then the rest
abbrev pub kept_prog : Map → Option Frame → RangeProg → RangeProg
kept_prog B None rest = rest
kept_prog B (Some frame) rest = emit_all (kept_items B frame) rest

-- what is still to come
abbrev pub rest_left : Map → Rest → RangeProg
rest_left B rest = kept_prog B rest.place.leaf (place_prog rest.lo rest.hi B rest.place.rest)

-- the blocks that it goes on from are among those that were read
abbrev pub IsRestOn : Map → List Want → Rest → Type 0
IsRestOn B seen rest = IsOn rest.lo rest.hi B seen rest.place

-- how much is still to do, whatever the tree holds
abbrev pub rank_left : Rest → ℕ
rank_left rest = rank_on rest.place None

-- the items of a leaf that could be had
abbrev pub items_of_leaf : Result (List ℕ) Fault → ℕ → List TreeItem
items_of_leaf (Ok block) addr = map (tree_item addr) (items block)
items_of_leaf (Err f) addr = []

-- the item of a leaf that stands before those that are still to come
abbrev pub item_before : Map → Option Frame → Option TreeItem
item_before B None = None
item_before B (Some frame) = slice_get (items_of_leaf (B (want_of 0 frame.pointer)) frame.pointer.addr) (frame.next - 1)

-- the item that was met last
abbrev pub met_last : Map → Rest → Option TreeItem
met_last B rest = item_before B rest.place.leaf

-- an item was met, and its leaf is known
abbrev pub HasMet : Rest → Type 0
HasMet rest = IsSomeAnd rest.place.leaf (λ frame. (0 < frame.next) × (frame.next ≤ frame.end))

-- where a scan goes on whose leaf was given back: what is still to come is the same
pub record Rests (store : Blocks) (scan : Scan) (rest : Rest) : Type 0 where
  pub lo : rest.lo ≡ scan.lo
  pub hi : rest.hi ≡ scan.hi
  pub path : rest.place.rest ≡ scan.place.rest
  pub rank : rank_left rest ≡ rank_of scan
  pub shaped : (rack : Seen) → IsScanReady rack store scan → IsShaped rest.place.rest
  pub program : (B : Map) (seen : List Want) → HoldsLeaf B seen store scan → rest_left B rest ≡ left_of B store scan
  pub on : (B : Map) (seen : List Want) → HoldsLeaf B seen store scan → IsOn scan.lo scan.hi B seen scan.place → IsRestOn B seen rest
  pub some : IsSomeAnd scan.leaf (λ l. (0 < l.next) × (l.next ≤ l.end)) → HasMet rest
  pub met :
      (B : Map) (seen : List Want) (item : TreeItem) → HoldsLeaf B seen store scan
      → IsSomeAnd scan.leaf (λ l. (0 < l.next) × (l.next ≤ l.end)) → IfSome scan.leaf (WasMet store item) → met_last B rest ≡ Some item

-- the loan of the leaf of the item that was met again is new and live, or no loan changed
abbrev pub LendsMet : Blocks → Blocks → Result MetAgain TreeFault → Type 0
LendsMet old new (Ok m) = LendsItemAt old new m.loan m.at
LendsMet old new (Err f) = SameLoans old new

-- it is the item that was met last, or its leaf could not be read
abbrev pub IsMetAgain : (UnreadBlock → Want → Type 0) → Map → Rest → Blocks → Result MetAgain TreeFault → Type 0
IsMetAgain Is B rest store (Ok m) =
    (seen : List Want) → IsRestOn B seen rest
    → IsSomeAnd (block_of store m.loan) (λ block. (item : TreeItem) → met_last B rest ≡ Some item → (d : Item)
    → (slice_index_or (items block) m.at d).body ≡ item.body)
IsMetAgain Is B rest store (Err f) = (seen : List Want) → IsRestOn B seen rest → IsUnreadOf Is seen f
