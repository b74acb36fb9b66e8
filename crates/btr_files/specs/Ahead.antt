-- How a file goes on to its next extent.
use Rattle.std.specs.Prelude.{◌≡◌, ◌≢◌, ℕ, ◌+◌, ◌<◌, ◌≤◌, ◌^◌, ◌==◌, nat_le, if◌then◌else◌, List, [], ◌++◌, Option, Some, None, IfSome, IsSomeAnd}
use Rattle.std.specs.Prelude.{Result, Ok, Err}
use Rattle.btr_base.specs.declared.kind.SumKind.{SumKind}
use Rattle.btr_items.specs.FileExtent.{file_extent_of, end_of, inline_data}
use Rattle.btr_items.specs.declared.fault.ItemFault.{ItemFault}
use Rattle.btr_items.specs.declared.file_extent.FileExtent.{FileExtent}
use Rattle.btr_items.specs.declared.shape.Shape.{Shape}
use Rattle.btr_items.specs.declared.shape.Shape.TheVariants as shape
use Rattle.btr_prog.specs.Prog.{Run, prepend, exec, want_marks}
use Rattle.btr_prog.specs.Answers.{Follows, no_part}
use Rattle.btr_read.specs.Fate.{Fault}
use Rattle.btr_read.specs.Store.{Blocks}
use Rattle.btr_read.specs.declared.want.Want.{Want}
use Rattle.btr_walk.specs.declared.leaf_at.LeafAt.{LeafAt}
use Rattle.btr_walk.specs.declared.fault.TreeFault.{TreeFault}
use Rattle.btr_walk.specs.declared.fault.TreeFault.TheVariants.{Malformed}
use Rattle.btr_walk.specs.declared.scan.Scan.{Scan}
use Rattle.btr_walk.specs.Going.{IsOn}
use Rattle.btr_walk.specs.Le.{TreeItem}
use Rattle.btr_walk.specs.Reading.{Map, UnreadBlock, halt_of}
use Rattle.btr_walk.specs.ScanEnds.{left_of, rank_of, HoldsLeaf, WasMet}
use Rattle.btr_files.specs.declared.clearness.Survey.{Survey}
use Rattle.btr_files.specs.declared.clearness.Survey.TheVariants.{Clear, Compressed, Encoded}
use Rattle.btr_files.specs.declared.extent.Ahead.{Ahead}
use Rattle.btr_files.specs.declared.progress.Progress.{Progress}
use Rattle.btr_files.specs.declared.progress.Source.{Source}
use Rattle.btr_files.specs.declared.progress.Todo.{Todo}
use Rattle.btr_files.specs.declared.progress.Todo.TheVariants.{Next, Inline, Sectors, Over}
use Rattle.btr_files.specs.Content.{Piece, sector_count}
use Rattle.btr_files.specs.Extents.{judged}
use Rattle.btr_files.specs.Streaming.{todo_prog, Then, EndsAt, LeftBy, FitsTodo, IsInline, IsGoing, IsUnderway}

-- what is still to come of an extent in a leaf that begins before the size
abbrev pub todo_at : ℕ → ℕ → ℕ → Shape → Todo
todo_at size leaf start (shape.Inline len) = if len == 0 then Next else Inline (record { start = start; leaf = leaf; len = len })
todo_at size leaf start (shape.Regular addr disk_len skip len) =
    if addr == 0 then Next else Sectors (record { start = start; addr = addr + skip; count = sector_count size start len })
todo_at size leaf start (shape.Prealloc addr disk_len skip len) = Next

-- what is still to come of any extent in a leaf: nothing where it begins at the size or after it
abbrev pub todo_of : ℕ → ℕ → ℕ → Shape → Todo
todo_of size leaf start s = if nat_le size start then Over else todo_at size leaf start s

-- an item of an extent, as what is to be given next of its file
abbrev pub ahead_at : ℕ → TreeItem → FileExtent → Ahead
ahead_at size item fields = record { todo = todo_of size item.leaf item.key.offset fields.shape; end = end_of item.key.offset fields }

-- an item of an extent that is clear is given next; a compressed or encoded one is malformed for this
abbrev pub ahead_clear : ℕ → TreeItem → FileExtent → Survey → Result Ahead TreeFault
ahead_clear size item fields Clear = Ok (ahead_at size item fields)
ahead_clear size item fields Compressed = Err (Malformed item.leaf)
ahead_clear size item fields Encoded = Err (Malformed item.leaf)

-- an item of an extent that has its form and begins after the last one is given next; another is malformed
abbrev pub ahead_formed : ℕ → ℕ → TreeItem → Result FileExtent ItemFault → Result Ahead TreeFault
ahead_formed size end item (Ok fields) =
    if nat_le end item.key.offset then ahead_clear size item fields (judged fields) else Err (Malformed item.leaf)
ahead_formed size end item (Err fault) = Err (Malformed item.leaf)

-- what comes of an item behind an extent that ends at a position: a clear extent in its order, or its leaf is malformed
abbrev pub ahead_of : ℕ → ℕ → TreeItem → Result Ahead TreeFault
ahead_of size end item = ahead_formed size end item (file_extent_of item.key.offset item.body)

-- the address of a clear extent's bytes doesn't pass the last number
abbrev pub FitsShape : Shape → Type 0
FitsShape (shape.Inline len) = Unit {0}
FitsShape (shape.Regular addr disk_len skip len) = 0 < addr → addr + skip < 2 ^ 64
FitsShape (shape.Prealloc addr disk_len skip len) = Unit {0}

-- an extent begins behind the end of the one before
abbrev pub FitsAhead : ℕ → ℕ → Result (Option Ahead) TreeFault → Type 0
FitsAhead size end (Ok (Some ahead)) = FitsTodo size end ahead.end ahead.todo
FitsAhead size end (Ok None) = Unit {0}
FitsAhead size end (Err f) = Unit {0}

-- the extent has bytes before the size, or begins at it or behind it
abbrev pub IsFound : Todo → Type 0
IsFound todo = todo ≢ Next

-- an extent was found that has bytes before the size, or that begins at it or after it
abbrev pub HasFound : Result (Option Ahead) TreeFault → Type 0
HasFound (Ok (Some ahead)) = IsFound ahead.todo
HasFound (Ok None) = Unit {0}
HasFound (Err f) = Unit {0}

-- a leaf is kept with the extent's item, which stands before `next`
abbrev pub KeepsItem : Result (Option Ahead) TreeFault → Option LeafAt → Type 0
KeepsItem (Ok (Some ahead)) leaf = IsSomeAnd leaf (λ l. (0 < l.next) × (l.next ≤ l.end))
KeepsItem (Ok None) leaf = Unit {0}
KeepsItem (Err f) leaf = Unit {0}

-- the scan comes nearer to its end with each extent
abbrev pub AheadRankFalls : Scan → Scan → Result (Option Ahead) TreeFault → Type 0
AheadRankFalls scan scan' (Ok (Some ahead)) = rank_of scan' < rank_of scan
AheadRankFalls scan scan' (Ok None) = Unit {0}
AheadRankFalls scan scan' (Err f) = Unit {0}

-- the runs of what is left behind an extent that ends at a position, where these are the items that are left
abbrev pub Onward : SumKind → Source → (ℕ → Map) → ℕ → ℕ → Run Want Fault TreeItem (Unit {0}) → Run Want Fault Piece (Unit {0}) → Type 0
Onward kind source Bs at end items = Then kind source Bs (todo_prog kind source at end [] Next) items

-- what is left behind an extent leads on to what is left of the next one, whose item was met last
pub record LeadsOn
    (source : Source) (B : Map) (seen : List Want) (old new : Blocks) (scan scan' : Scan) (end : ℕ) (ahead : Ahead) : Type 0 where
  pub past : List Want
  pub item : TreeItem
  pub goes : (kind : SumKind) (Bs : ℕ → Map) (at : ℕ) (q : Run Want Fault Piece (Unit {0}))
      → Then kind source Bs (todo_prog kind source at ahead.end (inline_data item.body) ahead.todo) (exec B (left_of B new scan')) q
      → Onward kind source Bs at end (exec B (left_of B old scan)) (prepend (want_marks past) q)
  pub inline : IsInline (Some item) ahead.todo
  pub on : IsOn scan.lo scan.hi B (seen ++ past) scan'.place
  pub held : HoldsLeaf B seen old scan → HoldsLeaf B (seen ++ past) new scan'
  pub met : IfSome scan'.leaf (WasMet new item)

-- what is left after an extent leads to the zeros up to the size, where there is no extent more
pub record LeadsOut (source : Source) (B : Map) (store : Blocks) (scan : Scan) (end : ℕ) : Type 0 where
  pub past : List Want
  pub goes : (kind : SumKind) (Bs : ℕ → Map) (at : ℕ) (q : Run Want Fault Piece (Unit {0}))
      → EndsAt kind source Bs at q → Onward kind source Bs at end (exec B (left_of B store scan)) (prepend (want_marks past) q)

-- what is left after an extent leads to a fault
abbrev pub HaltsAt : Source → (UnreadBlock → Want → Type 0) → Map → List Want → Blocks → Scan → ℕ → TreeFault → Type 0
HaltsAt source Is B seen store scan end f =
    (kind : SumKind) (Bs : ℕ → Map) (at : ℕ)
    → (q : Run Want Fault Piece (Unit {0})) × Onward kind source Bs at end (exec B (left_of B store scan)) q
    × Follows Is no_part seen q [] (Err (halt_of f))

-- a look for the next extent finds it, or the end of the file, or a fault
abbrev pub NextExtentBy : Source → (UnreadBlock → Want → Type 0) → Map → List Want → Blocks → Blocks → Scan → Scan → ℕ
    → Result (Option Ahead) TreeFault → Type 0
NextExtentBy source Is B seen old new scan scan' end (Ok (Some ahead)) = LeadsOn source B seen old new scan scan' end ahead
NextExtentBy source Is B seen old new scan scan' end (Ok None) = LeadsOut source B old scan end
NextExtentBy source Is B seen old new scan scan' end (Err f) = HaltsAt source Is B seen old scan end f

-- an extent more, the end or a fault, by a block map
abbrev pub IsNextExtent : Source → (UnreadBlock → Want → Type 0) → Map → Blocks → Blocks → Scan → Scan → ℕ
    → Result (Option Ahead) TreeFault → Type 0
IsNextExtent source Is B old new scan scan' end result =
    (seen : List Want) → IsOn scan.lo scan.hi B seen scan.place → NextExtentBy source Is B seen old new scan scan' end result

-- what is left of a file leads on to what is left of its next extent
pub record LooksOn (source : Source) (B : Map) (seen : List Want) (p p' : Progress) : Type 0 where
  pub past : List Want
  pub goes : (kind : SumKind) (Bs : ℕ → Map) (q : Run Want Fault Piece (Unit {0}))
      → LeftBy kind source Bs B p' q → LeftBy kind source Bs B p (prepend (want_marks past) q)
  pub on : IsGoing B (seen ++ past) p'

-- a file that is looked at goes on to what is left, or to a fault
abbrev pub LookedBy : Source → (UnreadBlock → Want → Type 0) → Map → List Want → Progress → Result Progress TreeFault → Type 0
LookedBy source Is B seen p (Ok p') = LooksOn source B seen p p'
LookedBy source Is B seen p (Err f) =
    (kind : SumKind) (Bs : ℕ → Map)
    → (q : Run Want Fault Piece (Unit {0})) × LeftBy kind source Bs B p q × Follows Is no_part seen q [] (Err (halt_of f))

-- what comes of a file that is looked at, whatever was read before
abbrev pub IsLooked : Source → (UnreadBlock → Want → Type 0) → Map → Progress → Result Progress TreeFault → Type 0
IsLooked source Is B p result = (seen : List Want) → IsGoing B seen p → LookedBy source Is B seen p result

-- it was given up to the same position, and something is found
pub record LookedAhead (source : Source) (p p' : Progress) : Type 0 where
  pub underway : IsUnderway source p'
  pub at : p'.at ≡ p.at
  pub found : IsFound p'.todo
