-- What is met on the tour of a directory's items.
use Rattle.std.specs.Prelude.{ℕ, Result, Ok, Err}
use Rattle.btr_items.specs.Entry.{index_entry_of}
use Rattle.btr_items.specs.Types.{dir_index}
use Rattle.btr_items.specs.declared.entry.Entry.{Entry as IndexEntry}
use Rattle.btr_items.specs.declared.fault.ItemFault.{ItemFault}
use Rattle.btr_read.specs.Fate.{Fault, Malformed}
use Rattle.btr_tour.specs.Program.{TourProg, tour_prog}
use Rattle.btr_tour.specs.Tour.{Mark, Block, Child, Item, Left}
use Rattle.btr_walk.specs.Le.{TreeItem}
use Rattle.btr_volume.specs.Tree.{key, last}
use Rattle.btr_volume.specs.declared.root.TreeRoot.{TreeRoot}
use Rattle.btr_files.specs.Entries.{DirEntry, entry_of}

-- what a mark of the tour of a directory's items says: nothing, an entry, or that a part of the directory can't be had
pub data InFolder : Type 0 where
  Passing : InFolder
  Entry : DirEntry → InFolder
  Part : Fault → InFolder

-- a DIR_INDEX that breaks its form makes its leaf malformed
abbrev pub item_in : TreeItem → Result IndexEntry ItemFault → InFolder
item_in item (Ok entry) = Entry (entry_of item entry)
item_in item (Err fault) = Part (Malformed item.leaf)

-- what a mark says that was found in a directory: an entry, a part that can't be had, or nothing of it
abbrev pub mark_in : Mark → InFolder
mark_in (Block place block) = Passing
mark_in (Child addr place) = Passing
mark_in (Item item) = item_in item (index_entry_of item.body)
mark_in (Left fault) = Part fault

-- the tour of a directory's items
abbrev pub folder_tour : TreeRoot → ℕ → TourProg
folder_tour tree dirid = tour_prog (key dirid dir_index 0) (key dirid dir_index last) tree.place
