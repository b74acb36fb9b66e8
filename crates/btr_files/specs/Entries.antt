-- The entries of a directory, in ascending index.
use Rattle.std.specs.Prelude.{ℕ, List, take}
use Rattle.btr_base.specs.Field.{bytes_at}
use Rattle.btr_items.specs.Entry.{index_entry_of}
use Rattle.btr_items.specs.Types.{dir_index}
use Rattle.btr_items.specs.declared.entry.Entry.{Entry}
use Rattle.btr_prog.specs.Prog.{Return, Emit}
use Rattle.btr_walk.specs.Le.{TreeItem}
use Rattle.btr_walk.specs.Range.{RangeProg, range}
use Rattle.btr_volume.specs.declared.root.TreeRoot.{TreeRoot}
use Rattle.btr_volume.specs.Lookup.{Program, formed, each}
use Rattle.btr_volume.specs.Tree.{key, last}
use Rattle.btr_files.specs.declared.dir_row.DirRow.{DirRow}
use Rattle.btr_files.specs.declared.name.NameBuf.{NameBuf}

-- an entry with its name
pub record DirEntry : Type 0 where
  pub row : DirRow
  pub name : List ℕ

-- the entry in a DIR_INDEX, whose key has the index
abbrev pub entry_of : TreeItem → Entry → DirEntry
entry_of item entry = record {
  row = record { index = item.key.offset; kind = entry.kind; location = entry.location };
  name = bytes_at entry.name_len entry.name_at item.body;
}

-- a step for the entry in each of some items
abbrev pub entries_in : RangeProg → Program DirEntry (Unit {0})
entries_in items =
    each (λ (u : Unit {0}) item. formed item (index_entry_of item.body) (λ entry. Emit (entry_of item entry) (Return tt))) tt items

-- a step for each entry of a directory
abbrev pub entries : TreeRoot → ℕ → Program DirEntry (Unit {0})
entries tree dirid = entries_in (range (key dirid dir_index 0) (key dirid dir_index last) tree.place)

-- the bytes of a name in a buffer
abbrev pub name_in : NameBuf → List ℕ
name_in name = take name.len name.bytes
