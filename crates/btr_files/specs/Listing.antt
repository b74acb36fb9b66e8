-- What a directory has still to give.
use Rattle.std.specs.Prelude.{◌≡◌, ℕ, ◌<◌, List, [], ◌++◌, Option, Some, None, Result, Ok, Err}
use Rattle.btr_items.specs.Entry.{index_entry_of}
use Rattle.btr_items.specs.declared.entry.Entry.{Entry}
use Rattle.btr_items.specs.declared.fault.ItemFault.{ItemFault}
use Rattle.btr_prog.specs.Prog.{Does, first, prepend, exec, want_marks}
use Rattle.btr_prog.specs.Answers.{Follows, no_part}
use Rattle.btr_read.specs.Store.{Blocks}
use Rattle.btr_read.specs.declared.want.Want.{Want}
use Rattle.btr_walk.specs.declared.fault.TreeFault.{TreeFault}
use Rattle.btr_walk.specs.declared.fault.TreeFault.TheVariants.{Malformed}
use Rattle.btr_walk.specs.declared.scan.Scan.{Scan}
use Rattle.btr_walk.specs.Going.{IsOn}
use Rattle.btr_walk.specs.Le.{TreeItem}
use Rattle.btr_walk.specs.Range.{RangeProg}
use Rattle.btr_walk.specs.Ranks.{IsShaped}
use Rattle.btr_walk.specs.Reading.{Map, UnreadBlock, halt_of}
use Rattle.btr_walk.specs.Rests.{rest_left, rank_left, IsRestOn}
use Rattle.btr_walk.specs.ScanEnds.{left_of, rank_of, HoldsLeaf}
use Rattle.btr_volume.specs.Lookup.{Program}
use Rattle.btr_files.specs.declared.dir.Dir.{Dir}
use Rattle.btr_files.specs.declared.dir_row.DirRow.{DirRow}
use Rattle.btr_files.specs.declared.name.NameBuf.{NameBuf}
use Rattle.btr_files.specs.Entries.{DirEntry, entries_in, entry_of, name_in}

-- the entries that are still to come
abbrev pub dir_left : Map → Dir → Program DirEntry (Unit {0})
dir_left B dir = entries_in (rest_left B dir.rest)

-- the blocks that a directory goes on from are among those that were wanted
abbrev pub IsDirOn : Map → List Want → Dir → Type 0
IsDirOn B seen dir = IsRestOn B seen dir.rest

-- a directory can be read on
pub record IsDir (dir : Dir) : Type 0 where
  pub shaped : IsShaped dir.rest.place.rest

-- an entry of a row, with the name that its buffer holds
abbrev pub named_row : DirRow → NameBuf → DirEntry
named_row row name = record { row = row; name = name_in name }

-- what an item holds as an entry, whose name is put into a buffer, or its leaf is malformed
abbrev pub IsRowBy : TreeItem → NameBuf → Result Entry ItemFault → Result (Option DirRow) TreeFault → Type 0
IsRowBy item name (Ok entry) (Ok (Some row)) = named_row row name ≡ entry_of item entry
IsRowBy item name (Ok entry) (Ok None) = ⊥
IsRowBy item name (Ok entry) (Err f) = ⊥
IsRowBy item name (Err fault) (Ok row) = ⊥
IsRowBy item name (Err fault) (Err f) = f ≡ Malformed item.leaf

-- a row is the entry that an item holds, with its name in the buffer, or the item's leaf is malformed
abbrev pub IsRow : TreeItem → NameBuf → Result (Option DirRow) TreeFault → Type 0
IsRow item name result = IsRowBy item name (index_entry_of item.body) result

-- an answer without an entry follows what was still to come
abbrev pub EndsRows : (UnreadBlock → Want → Type 0) → Map → List Want → RangeProg → Result (Option DirRow) TreeFault → Type 0
EndsRows Is B seen items (Ok (Some row)) = ⊥
EndsRows Is B seen items (Ok None) = Follows Is no_part seen (exec B (entries_in items)) [] (Ok tt)
EndsRows Is B seen items (Err f) = Follows Is no_part seen (exec B (entries_in items)) [] (Err (halt_of f))

-- some wants, and then the entry; what is left comes behind
pub record GivesEntry (B : Map) (seen : List Want) (dir dir' : Dir) (entry : DirEntry) : Type 0 where
  pub past : List Want
  pub is : exec B (dir_left B dir) ≡ prepend (want_marks past) (first (Does entry) (exec B (dir_left B dir')))
  pub on : IsDirOn B (seen ++ past) dir'

-- the next entry of a directory is given, or its end, or a fault
abbrev pub NextEntryBy : (UnreadBlock → Want → Type 0) → Map → List Want → Dir → Dir → NameBuf → Result (Option DirRow) TreeFault → Type 0
NextEntryBy Is B seen dir dir' name (Ok (Some row)) = GivesEntry B seen dir dir' (named_row row name)
NextEntryBy Is B seen dir dir' name (Ok None) = EndsRows Is B seen (rest_left B dir.rest) (Ok None)
NextEntryBy Is B seen dir dir' name (Err f) = EndsRows Is B seen (rest_left B dir.rest) (Err f)

-- an entry, the end or a fault, by a block map
abbrev pub IsNextEntry : (UnreadBlock → Want → Type 0) → Map → Dir → Dir → NameBuf → Result (Option DirRow) TreeFault → Type 0
IsNextEntry Is B dir dir' name result = (seen : List Want) → IsDirOn B seen dir → NextEntryBy Is B seen dir dir' name result

-- the same of the scan that a directory goes on by
pub record GivesRow (B : Map) (seen : List Want) (old new : Blocks) (scan scan' : Scan) (entry : DirEntry) : Type 0 where
  pub past : List Want
  pub is : exec B (entries_in (left_of B old scan))
      ≡ prepend (want_marks past) (first (Does entry) (exec B (entries_in (left_of B new scan'))))
  pub on : IsOn scan.lo scan.hi B (seen ++ past) scan'.place
  pub held : HoldsLeaf B seen old scan → HoldsLeaf B (seen ++ past) new scan'

-- the next row of a directory is given, or its end, or a fault
abbrev pub NextRowBy : (UnreadBlock → Want → Type 0) → Map → List Want → Blocks → Blocks → Scan → Scan → NameBuf
    → Result (Option DirRow) TreeFault → Type 0
NextRowBy Is B seen old new scan scan' name (Ok (Some row)) = GivesRow B seen old new scan scan' (named_row row name)
NextRowBy Is B seen old new scan scan' name (Ok None) = EndsRows Is B seen (left_of B old scan) (Ok None)
NextRowBy Is B seen old new scan scan' name (Err f) = EndsRows Is B seen (left_of B old scan) (Err f)

-- the next row of a directory is given, or its end, or a fault, whatever was read before
abbrev pub IsNextRow : (UnreadBlock → Want → Type 0) → Map → Blocks → Blocks → Scan → Scan → NameBuf
    → Result (Option DirRow) TreeFault → Type 0
IsNextRow Is B old new scan scan' name result =
    (seen : List Want) → IsOn scan.lo scan.hi B seen scan.place → NextRowBy Is B seen old new scan scan' name result

-- the scan comes nearer to its end with each entry
abbrev pub RowRankFalls : Scan → Scan → Result (Option DirRow) TreeFault → Type 0
RowRankFalls scan scan' (Ok (Some row)) = rank_of scan' < rank_of scan
RowRankFalls scan scan' (Ok None) = Unit {0}
RowRankFalls scan scan' (Err f) = Unit {0}

-- the name is another one only where there is an entry
abbrev pub KeepsName : NameBuf → NameBuf → Result (Option DirRow) TreeFault → Type 0
KeepsName old new (Ok (Some row)) = Unit {0}
KeepsName old new (Ok None) = new ≡ old
KeepsName old new (Err f) = new ≡ old

-- after the last entry and after a fault the next call goes on from the same place
abbrev pub StaysIn : Dir → Dir → Result (Option DirRow) TreeFault → Type 0
StaysIn dir dir' (Ok (Some row)) = Unit {0}
StaysIn dir dir' (Ok None) = dir' ≡ dir
StaysIn dir dir' (Err f) = dir' ≡ dir

-- how much a directory has still to do, whatever its tree holds: the measure of a loop over it
abbrev pub rank_of_dir : Dir → ℕ
rank_of_dir dir = rank_left dir.rest

-- a directory comes nearer to its end with each entry
abbrev pub DirRankFalls : Dir → Dir → Result (Option DirRow) TreeFault → Type 0
DirRankFalls dir dir' (Ok (Some row)) = rank_of_dir dir' < rank_of_dir dir
DirRankFalls dir dir' (Ok None) = Unit {0}
DirRankFalls dir dir' (Err f) = Unit {0}
