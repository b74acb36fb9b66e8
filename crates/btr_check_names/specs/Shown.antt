-- What rows with a buffer of names say.
use Rattle.std.specs.Prelude.{◌≡◌, ℕ, List, [], ◌∷◌, ◌++◌, All, map}
use Rattle.std.specs.declared.alloc.Global.{Global}
use Rattle.std.specs.declared.vec.Vec.{Vec}
use Rattle.btr_check_names.specs.declared.entry_list.EntryRow.{EntryRow}
use Rattle.btr_check_names.specs.declared.link_list.LinkRow.{LinkRow}
use Rattle.btr_check_names.specs.Entry.{Entry, NameRef, location_of}
use Rattle.btr_check_names.specs.Packed.{HasNameAt, name_in}

-- the entry of a row
abbrev pub row_entry : List ℕ → EntryRow → Entry
row_entry names row = record { dir = row.dir; offset = row.offset; location = location_of row.target; kind = row.kind; name = name_in names row.name }

-- the entries of some rows
abbrev pub row_entries : List ℕ → List EntryRow → List Entry
row_entries names rows = map (row_entry names) rows

-- one entry more stands behind the others
abbrev pub AddsEntry : Vec ℕ Global → Vec EntryRow Global → Vec ℕ Global → Vec EntryRow Global → Entry → Type 0
AddsEntry names rows names' rows' one = row_entries names'.items rows'.items ≡ row_entries names.items rows.items ++ one ∷ []

-- all names of some rows of entries lie within the buffer
abbrev pub HasEntryNames : List ℕ → List EntryRow → Type 0
HasEntryNames names rows = All (λ (row : EntryRow). HasNameAt names row.name) rows

-- the reference of a row
abbrev pub row_ref : List ℕ → LinkRow → NameRef
row_ref names row = record { inode = row.inode; parent = row.parent; index = row.index; name = name_in names row.name }

-- the references of some rows
abbrev pub row_refs : List ℕ → List LinkRow → List NameRef
row_refs names rows = map (row_ref names) rows

-- one reference more stands behind the others
abbrev pub AddsRef : Vec ℕ Global → Vec LinkRow Global → Vec ℕ Global → Vec LinkRow Global → NameRef → Type 0
AddsRef names rows names' rows' one = row_refs names'.items rows'.items ≡ row_refs names.items rows.items ++ one ∷ []

-- all names of some rows of references lie within the buffer
abbrev pub HasRefNames : List ℕ → List LinkRow → Type 0
HasRefNames names rows = All (λ (row : LinkRow). HasNameAt names row.name) rows
