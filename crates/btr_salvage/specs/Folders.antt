-- What of a directory is still to be met.
use Rattle.std.specs.Prelude.{◌≡◌, ℕ, ◌<◌, List, [], ◌++◌, Option, Some, None, Result, Ok, Err}
use Rattle.std.specs.Option.{option_map}
use Rattle.btr_items.specs.Entry.{index_entry_of}
use Rattle.btr_prog.specs.Answers.{Follows, no_part}
use Rattle.btr_prog.specs.Prog.{Does, first, prepend, want_marks}
use Rattle.btr_prog.specs.Trying.{Done, tried}
use Rattle.btr_rack.specs.Rack.{Seen}
use Rattle.btr_read.specs.Store.{Blocks}
use Rattle.btr_read.specs.declared.want.Want.{Want}
use Rattle.btr_tour.specs.Program.{TourProg}
use Rattle.btr_tour.specs.Rests.{rest_left, rank_left, Fits, IsRestOn}
use Rattle.btr_tour.specs.Steps.{reason}
use Rattle.btr_tour.specs.Tour.{Mark}
use Rattle.btr_tour.specs.TourEnds.{left_of, rank_of, HoldsLeaf, IsUnderway}
use Rattle.btr_tour.specs.declared.tour.Tour.{Tour}
use Rattle.btr_walk.specs.Le.{TreeItem}
use Rattle.btr_walk.specs.Reading.{Map, Tells, TellsOf, UnreadBlock, halt_of, unread_by}
use Rattle.btr_walk.specs.declared.fault.TreeFault.{TreeFault}
use Rattle.btr_volume.specs.declared.volume.Volume.{Volume}
use Rattle.btr_files.specs.Listing.{named_row}
use Rattle.btr_files.specs.declared.name.NameBuf.{NameBuf}
use Rattle.btr_salvage.specs.declared.folder.Folder.{Folder}
use Rattle.btr_salvage.specs.declared.folder.Found.{Found}
use Rattle.btr_salvage.specs.declared.folder.Found.TheVariants as found
use Rattle.btr_salvage.specs.Damages.{fault_by}
use Rattle.btr_salvage.specs.Marks.{InFolder, Passing, Entry, Part, item_in, mark_in}

-- what was found, as it stands in a directory: of an entry the name is in a buffer
abbrev pub found_in : Found → NameBuf → InFolder
found_in found.Passing name = Passing
found_in (found.Entry row) name = Entry (named_row row name)
found_in (found.Part damage) name = Part (fault_by damage)

-- what was found in an item
abbrev pub IsItemFound : TreeItem → NameBuf → Found → Type 0
IsItemFound item name found = item_in item (index_entry_of item.body) ≡ found_in found name

-- what was found in a block that is left out, or it could not be read
abbrev pub IsLeftOut : TreeFault → NameBuf → Result (Option Found) TreeFault → Type 0
IsLeftOut fault name (Ok (Some found)) = option_map Part (reason fault) ≡ Some (found_in found name)
IsLeftOut fault name (Ok None) = ⊥
IsLeftOut fault name (Err f) = (reason fault ≡ None) × (f ≡ fault)

-- the rest of the tour of a directory
abbrev pub folder_left : Map → Folder → TourProg
folder_left B folder = rest_left B folder.rest

-- the blocks that it goes on from are among those that were wanted
abbrev pub IsFolderOn : Map → List Want → Folder → Type 0
IsFolderOn B seen folder = IsRestOn B seen folder.rest

-- a directory can be read on
abbrev pub IsFolder : Folder → Type 0
IsFolder folder = Fits folder.rest

-- some wants, and then a mark; what is left comes behind
pub record GivesMark (B : Map) (seen : List Want) (folder folder' : Folder) (mark : Mark) : Type 0 where
  pub past : List Want
  pub is : tried B (folder_left B folder) ≡ prepend (want_marks past) (first (Does mark) (tried B (folder_left B folder')))
  pub on : IsFolderOn B (seen ++ past) folder'

-- what a mark says was found
pub record GivesFound (B : Map) (seen : List Want) (folder folder' : Folder) (found : InFolder) : Type 0 where
  pub mark : Mark
  pub says : mark_in mark ≡ found
  pub gives : GivesMark B seen folder folder' mark

-- the next that is found in a directory, the end, or a block that could not be read
abbrev pub NextFoundBy : (UnreadBlock → Want → Type 0) → Map → List Want → Folder → Folder → NameBuf → Result (Option Found) TreeFault → Type 0
NextFoundBy Is B seen folder folder' name (Ok (Some found)) = GivesFound B seen folder folder' (found_in found name)
NextFoundBy Is B seen folder folder' name (Ok None) = folder_left B folder ≡ Done tt
NextFoundBy Is B seen folder folder' name (Err f) = Follows Is no_part seen (tried B (folder_left B folder)) [] (Err (halt_of f))

-- what is found next in a directory, whatever was read before
abbrev pub IsNextFound : (UnreadBlock → Want → Type 0) → Map → Folder → Folder → NameBuf → Result (Option Found) TreeFault → Type 0
IsNextFound Is B folder folder' name result =
    (seen : List Want) → IsFolderOn B seen folder → NextFoundBy Is B seen folder folder' name result

-- so far as its calls were steady, what was answered is what is found next in a directory
abbrev pub TellsFound : Volume → Seen → Seen → Folder → Folder → NameBuf → Result (Option Found) TreeFault → Type 0
TellsFound vol before now folder folder' name result =
    Tells vol.store.layout before now (λ B. IsNextFound (unread_by vol.store.layout before now) B folder folder' name result)

-- some wants, and then one mark of the tour that a directory goes on by is met
pub record MeetsMark (B : Map) (seen : List Want) (old new : Blocks) (tour tour' : Tour) (mark : Mark) : Type 0 where
  pub past : List Want
  pub is : tried B (left_of B old tour) ≡ prepend (want_marks past) (first (Does mark) (tried B (left_of B new tour')))
  pub on : IsUnderway B (seen ++ past) tour'
  pub held : HoldsLeaf B (seen ++ past) new tour'

-- a mark of the tour is met, and says what was found
pub record MeetsFound (B : Map) (seen : List Want) (old new : Blocks) (tour tour' : Tour) (found : InFolder) : Type 0 where
  pub mark : Mark
  pub says : mark_in mark ≡ found
  pub meets : MeetsMark B seen old new tour tour' mark

-- the next that a tour finds, the end, or a block that could not be read
abbrev pub NextMetBy : (UnreadBlock → Want → Type 0) → Map → List Want → Blocks → Blocks → Tour → Tour → NameBuf → Result (Option Found) TreeFault → Type 0
NextMetBy Is B seen old new tour tour' name (Ok (Some found)) = MeetsFound B seen old new tour tour' (found_in found name)
NextMetBy Is B seen old new tour tour' name (Ok None) = left_of B old tour ≡ Done tt
NextMetBy Is B seen old new tour tour' name (Err f) = Follows Is no_part seen (tried B (left_of B old tour)) [] (Err (halt_of f))

-- what a tour finds next, whatever was read before
abbrev pub IsNextMet : (UnreadBlock → Want → Type 0) → Map → Blocks → Blocks → Tour → Tour → NameBuf → Result (Option Found) TreeFault → Type 0
IsNextMet Is B old new tour tour' name result =
    (seen : List Want) → IsUnderway B seen tour → HoldsLeaf B seen old tour → NextMetBy Is B seen old new tour tour' name result

-- so far as its calls were steady, what was answered is what a tour finds next
abbrev pub TellsMet : Blocks → Blocks → Seen → Seen → Tour → Tour → NameBuf → Result (Option Found) TreeFault → Type 0
TellsMet old new before now tour tour' name result =
    TellsOf old before now (λ Is B. IsNextMet Is B old new tour tour' name result)

-- a tour comes nearer to its end with all that is found
abbrev pub MetRankFalls : Tour → Tour → Result (Option Found) TreeFault → Type 0
MetRankFalls tour tour' (Ok (Some found)) = rank_of tour' < rank_of tour
MetRankFalls tour tour' (Ok None) = Unit {0}
MetRankFalls tour tour' (Err f) = Unit {0}

-- how much is still to do, whatever the tree holds: the measure of a loop over a directory
abbrev pub rank_of_folder : Folder → ℕ
rank_of_folder folder = rank_left folder.rest

-- a directory comes nearer to its end with all that is found
abbrev pub FolderRankFalls : Folder → Folder → Result (Option Found) TreeFault → Type 0
FolderRankFalls folder folder' (Ok (Some found)) = rank_of_folder folder' < rank_of_folder folder
FolderRankFalls folder folder' (Ok None) = Unit {0}
FolderRankFalls folder folder' (Err f) = Unit {0}
