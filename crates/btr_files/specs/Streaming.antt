-- What a file has still to give.
use Rattle.std.specs.Prelude.{◌≡◌, ℕ, ◌+◌, ◌-◌, ◌*◌, ◌^◌, ◌%◌, ◌<◌, ◌≤◌, nat_le, if◌then◌else◌, true, length, List, [], ◌++◌, take, Option, Some}
use Rattle.std.specs.Prelude.{None, IfSome, IsSomeAnd, Result, Ok, Err, ⊤}
use Rattle.std.specs.Borrow.{follows_so, MutBor, Fml}
use mathlib.Core.Option.{none}
use Rattle.btr_base.specs.Crc.{crc32c}
use Rattle.btr_base.specs.declared.kind.SumKind.{SumKind}
use Rattle.btr_items.specs.FileExtent.{file_extent_of, end_of, inline_data}
use Rattle.btr_items.specs.declared.file_extent.FileExtent.{FileExtent}
use Rattle.btr_prog.specs.Prog.{Run, Does, Return, Stop, Emit, first, prepend, exec, want_marks, bind}
use Rattle.btr_prog.specs.Answers.{Halt, Follows, no_part}
use Rattle.btr_prog.specs.Goes.{GoesTo, AfterTo, ThreadsTo}
use Rattle.btr_rack.specs.Rack.{Seen}
use Rattle.btr_read.specs.Fate.{Fault, Malformed}
use Rattle.btr_read.specs.Serves.{Serves}
use Rattle.btr_read.specs.Store.{Blocks, SameLoans, IsLiveIn}
use Rattle.btr_read.specs.declared.want.Want.{Want}
use Rattle.btr_walk.specs.declared.fault.TreeFault.{TreeFault}
use Rattle.btr_walk.specs.declared.rest.Rest.{Rest}
use Rattle.btr_walk.specs.Le.{TreeItem}
use Rattle.btr_walk.specs.Lending.{base}
use Rattle.btr_walk.specs.Ranks.{IsShaped}
use Rattle.btr_walk.specs.Reading.{Map, UnreadBlock, unread_by, halt_of}
use Rattle.btr_walk.specs.Rests.{rest_left, IsRestOn, HasMet, met_last}
use Rattle.btr_volume.specs.Lookup.{Program, formed}
use Rattle.btr_volume.specs.declared.volume.Volume.{Volume}
use Rattle.btr_volume.specs.contracts.volume.Volume.{the_row}
use Rattle.btr_files.specs.Aheads.{IsSummed}
use Rattle.btr_files.specs.declared.file.FileBytes.{FileBytes}
use Rattle.btr_files.specs.declared.piece.Piece.{Piece as Lending}
use Rattle.btr_files.specs.declared.piece.Piece.TheVariants as lending
use Rattle.btr_files.specs.declared.progress.Progress.{Progress}
use Rattle.btr_files.specs.declared.progress.Source.{Source}
use Rattle.btr_files.specs.declared.progress.Todo.{Todo}
use Rattle.btr_files.specs.declared.progress.Todo.TheVariants.{Next, Inline, Sectors, Over}
use Rattle.btr_files.specs.Content.{Piece, Bytes, Gap, gap, on_at, sectors, piece}
use Rattle.btr_files.specs.Extents.{extent}
use Rattle.btr_files.specs.Maps.{TellsAll}
use Rattle.btr_files.specs.Sums.{kind_in}

-- a piece without the place that it is lent from
abbrev pub piece_of : Lending → Piece
piece_of (lending.Gap count) = Gap count
piece_of (lending.Bytes bytes verified crc) = Bytes bytes.now verified

-- a piece isn't empty, and a CRC-32C that is told with it is that of its bytes
abbrev pub IsPiece : Lending → Type 0
IsPiece (lending.Gap count) = 0 < count
IsPiece (lending.Bytes bytes verified crc) = (0 < length bytes.now) × IfSome crc (λ c. c ≡ crc32c bytes.now)

-- how far a file has been given, and where the extent that was met last ends
pub record GivenUpTo : Type 0 where
  pub at : ℕ
  pub end : ℕ

-- how far a file has been given
abbrev pub given : ℕ → ℕ → GivenUpTo
given at end = record { at = at; end = end }

-- on behind an extent, or the end
abbrev pub on_behind : ℕ → Result ℕ ℕ → Result GivenUpTo ℕ
on_behind end (Ok at) = Ok (given at end)
on_behind end (Err at) = Err at

-- the bytes that stand in an item as an inline extent
abbrev pub inline_of : Option TreeItem → List ℕ
inline_of None = []
inline_of (Some item) = inline_data item.body

module _ (kind : SumKind) (source : Source) where
  -- an extent behind the one before, by its order and its pieces
  abbrev pub extent_pieces : GivenUpTo → TreeItem → FileExtent → Program Piece (Result GivenUpTo ℕ)
  extent_pieces g item fields =
      if nat_le g.end item.key.offset
      then bind (piece kind source.sums source.nosum source.size g.at (extent item fields)) (λ r. Return (on_behind (end_of item.key.offset fields) r))
      else Stop (Malformed item.leaf)

  -- an item of a file's extents, by its form and as an extent
  abbrev pub item_pieces : GivenUpTo → TreeItem → Program Piece (Result GivenUpTo ℕ)
  item_pieces g item = formed item (file_extent_of item.key.offset item.body) (extent_pieces g item)

  -- behind the bytes of an extent that ends at a position
  abbrev pub behind_bytes : ℕ → Program Piece (Result GivenUpTo ℕ)
  behind_bytes end = Return (on_behind end (on_at source.size end))

  -- what is still to come of the extent that was met last, whose bytes these are if it is
  -- inline, and where the file has been given then
  abbrev pub todo_prog : ℕ → ℕ → List ℕ → Todo → Program Piece (Result GivenUpTo ℕ)
  todo_prog at end inline Next = Return (Ok (given at end))
  todo_prog at end inline (Inline part) =
      gap (part.start - at) (Emit (Bytes (take (source.size - part.start) inline) true) (behind_bytes end))
  todo_prog at end inline (Sectors part) =
      gap (part.start - at)
      (bind (sectors kind source.sums source.nosum part.count part.addr (source.size - part.start)) (λ u. behind_bytes end))
  todo_prog at end inline Over = Return (Err at)

  -- zeros up to the size
  abbrev pub zeros_to_end : ℕ → Program Piece (Unit {0})
  zeros_to_end at = gap (source.size - at) (Return tt)

  module _ (Bs : ℕ → Map) where
    -- the run of the zeros up to a file's size
    abbrev pub EndsAt : ℕ → Run Want Fault Piece (Unit {0}) → Type 0
    EndsAt at q = GoesTo Bs (zeros_to_end at) q

    -- a run of the pieces of the items of a run, and of the zeros behind them
    abbrev pub Treats : GivenUpTo → Run Want Fault TreeItem (Unit {0}) → Run Want Fault Piece (Unit {0}) → Type 0
    Treats g items q =
        (r : Run Want Fault Piece ℕ)
        × ThreadsTo (λ g' item. GoesTo Bs (item_pieces g' item)) (λ g' u. g'.at) g items.marks items.ending r
        × AfterTo r.marks r.ending EndsAt q

    -- a run of what is left of a file that has been given up to a position, or has no extent more before its size
    abbrev pub Behind : Run Want Fault TreeItem (Unit {0}) → Result GivenUpTo ℕ → Run Want Fault Piece (Unit {0}) → Type 0
    Behind items (Ok g) = Treats g items
    Behind items (Err at) = EndsAt at

    -- a run of a program, and then one of the pieces of the items behind it
    abbrev pub Then : Program Piece (Result GivenUpTo ℕ) → Run Want Fault TreeItem (Unit {0}) → Run Want Fault Piece (Unit {0}) → Type 0
    Then p items q = (r : Run Want Fault Piece (Result GivenUpTo ℕ)) × GoesTo Bs p r × AfterTo r.marks r.ending (Behind items) q

    -- the runs of what is left of a file, by how far it has been given, where the blocks of its extents come to what B
    -- says, and its sectors each to what any of the maps says
    abbrev pub LeftBy : Map → Progress → Run Want Fault Piece (Unit {0}) → Type 0
    LeftBy B p = Then (todo_prog p.at p.end (inline_of (met_last B p.rest)) p.todo) (exec B (rest_left B p.rest))

-- the runs of what a file has still to give: its items come to what the first map says
abbrev pub FileGoes : SumKind → (ℕ → Map) → FileBytes → Run Want Fault Piece (Unit {0}) → Type 0
FileGoes kind Bs file = LeftBy kind file.source Bs (Bs 0) file.progress

-- a file that begins: each run of what it has to give is one of a program
abbrev pub BeginsFile : SumKind → FileBytes → Program Piece (Unit {0}) → Type 0
BeginsFile kind file p = (Bs : ℕ → Map) (q : Run Want Fault Piece (Unit {0})) → FileGoes kind Bs file q → GoesTo Bs p q

-- an inline extent is the item that was met last
abbrev pub IsInline : Option TreeItem → Todo → Type 0
IsInline item Next = Unit {0}
IsInline item (Inline part) = IsSomeAnd item (λ i. length i.body ≡ 21 + part.len)
IsInline item (Sectors part) = Unit {0}
IsInline item Over = Unit {0}

-- the blocks that a file goes on from are among those that were wanted
pub record IsGoing (B : Map) (seen : List Want) (p : Progress) : Type 0 where
  pub rest : IsRestOn B seen p.rest
  pub inline : IsInline (met_last B p.rest) p.todo

-- the blocks that a file goes on from were wanted, and the checksums that are kept are those of the tree
abbrev pub IsFileOn : Map → List Want → FileBytes → Type 0
IsFileOn B seen file = IsGoing B seen file.progress × IsSummed B file.source.sums file.ahead

-- how many positions are still to come: the measure of a loop over a file
abbrev pub bytes_left : FileBytes → ℕ
bytes_left file = file.source.size - file.progress.at

-- what is still to come of an extent that ends at a position, in a file that has been given up to another one: its
-- bytes begin before the size and before the end, and sectors stand at whole sectors' addresses
abbrev pub FitsTodo : ℕ → ℕ → ℕ → Todo → Type 0
FitsTodo size at end Next = at ≤ end
FitsTodo size at end (Inline part) = (at ≤ part.start) × (part.start < size) × (part.start < end) × (0 < part.len)
FitsTodo size at end (Sectors part) =
    (at ≤ part.start) × (0 < part.count) × (part.start + part.count * 4096 < size + 4096) × (part.start + part.count * 4096 < end + 4096)
    × (part.addr + part.count * 4096 ≤ 2 ^ 64) × (part.addr % 4096 ≡ 0)
FitsTodo size at end Over = Unit {0}

-- the item of an inline extent can be read again
abbrev pub HasInline : Rest → Todo → Type 0
HasInline rest Next = Unit {0}
HasInline rest (Inline part) = HasMet rest
HasInline rest (Sectors part) = Unit {0}
HasInline rest Over = Unit {0}

-- a file can go on from there
pub record IsUnderway (source : Source) (p : Progress) : Type 0 where
  pub shaped : IsShaped p.rest.place.rest
  pub within : p.at ≤ source.size
  pub fits : FitsTodo source.size p.at p.end p.todo
  pub met : HasInline p.rest p.todo

-- the store without the loan of a file
abbrev pub without_file : Blocks → FileBytes → Blocks
without_file store file = base store file.loan

-- the loan of a file is live
abbrev pub IsLoanLive : Blocks → FileBytes → Type 0
IsLoanLive store file = IfSome file.loan (IsLiveIn store)

-- a rack and a store can go on with a file
pub record IsReading (rack : Seen) (store : Blocks) (file : FileBytes) : Type 0 where
  pub serves : Serves rack store
  pub held : IsLoanLive store file
  pub underway : IsUnderway file.source file.progress

-- some wants, and then the piece; what is left comes behind
pub record GivesPiece (kind : SumKind) (Bs : ℕ → Map) (seen : List Want) (file file' : FileBytes) (piece : Piece) : Type 0 where
  pub past : List Want
  pub goes : (q : Run Want Fault Piece (Unit {0})) → FileGoes kind Bs file' q
      → FileGoes kind Bs file (prepend (want_marks past) (first (Does piece) q))
  pub on : IsFileOn (Bs 0) (seen ++ past) file'

-- what was answered without a piece follows a run of what was still to come
abbrev pub EndsBy : SumKind → (UnreadBlock → Want → Type 0) → (ℕ → Map) → List Want → FileBytes
    → Result (Unit {0}) (Halt Fault UnreadBlock) → Type 0
EndsBy kind Is Bs seen file answer = (q : Run Want Fault Piece (Unit {0})) × FileGoes kind Bs file q × Follows Is no_part seen q [] answer

-- a call gives the next piece of a file, its end, or a fault
abbrev pub NextPieceBy : SumKind → (UnreadBlock → Want → Type 0) → (ℕ → Map) → List Want → FileBytes → FileBytes
    → Result (Option Lending) TreeFault → Type 0
NextPieceBy kind Is Bs seen file file' (Ok (Some piece)) = GivesPiece kind Bs seen file file' (piece_of piece)
NextPieceBy kind Is Bs seen file file' (Ok None) = EndsBy kind Is Bs seen file (Ok tt)
NextPieceBy kind Is Bs seen file file' (Err f) = EndsBy kind Is Bs seen file (Err (halt_of f))

-- a piece, the end or a fault, where a sector may come to what any of some maps says
abbrev pub IsNextPiece : SumKind → (UnreadBlock → Want → Type 0) → (ℕ → Map) → FileBytes → FileBytes
    → Result (Option Lending) TreeFault → Type 0
IsNextPiece kind Is Bs file file' result = (seen : List Want) → IsFileOn (Bs 0) seen file → NextPieceBy kind Is Bs seen file file' result

-- the file and its volume after a step: the superblock, the layout and the other loans are as before
pub record Streamed
    (old new : Volume) (file file' : FileBytes) (before now : Seen) (result : Result (Option Lending) TreeFault) : Type 0 where
  pub sup : new.sup ≡ old.sup
  pub others : SameLoans (without_file old.store file) (without_file new.store file')
  pub reading : IsReading now new.store file'
  pub content : TellsAll old.store.layout before now (λ Bs.
      IsNextPiece (kind_in old.sup) (unread_by old.store.layout before now) Bs file file' result)

-- the file and its volume end as the step's answer says, but for that file's own
abbrev pub StreamEnds : MutBor Volume → FileBytes → FileBytes → Seen → Seen → Result (Option Lending) TreeFault → Fml
StreamEnds vol file file' before now result =
    follows_so the_row the_row vol.ghost_name none (λ _ _. ⊤) (λ new. Streamed vol.now new file file' before now result)

-- a file's own numbers don't change
abbrev pub SameFile : FileBytes → FileBytes → Type 0
SameFile file file' = file'.source ≡ file.source

-- what is left of a file falls with each piece; at its end nothing is left, and after a fault as much as before
abbrev pub PieceRankFalls : FileBytes → FileBytes → Result (Option Lending) TreeFault → Type 0
PieceRankFalls file file' (Ok (Some piece)) = bytes_left file' < bytes_left file
PieceRankFalls file file' (Ok None) = bytes_left file' ≡ 0
PieceRankFalls file file' (Err f) = file'.progress ≡ file.progress
