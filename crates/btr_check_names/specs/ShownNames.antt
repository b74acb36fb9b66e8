-- What rows with a buffer of names of subvolumes say.
use Rattle.std.specs.Prelude.{◌≡◌, ℕ, List, [], ◌∷◌, ◌++◌, All, map}
use Rattle.std.specs.declared.alloc.Global.{Global}
use Rattle.std.specs.declared.vec.Vec.{Vec}
use Rattle.btr_check_names.specs.declared.subvolume_list.SubvolumeRow.{SubvolumeRow}
use Rattle.btr_check_names.specs.Packed.{HasNameAt, name_in}
use Rattle.btr_check_names.specs.Subvolume.{NamedSubvolume}

-- the name of a row
abbrev pub row_name : List ℕ → SubvolumeRow → NamedSubvolume
row_name names row = record { parent = row.parent; dirid = row.dirid; index = row.index; child = row.child; name = name_in names row.name }

-- the names of some rows
abbrev pub row_names : List ℕ → List SubvolumeRow → List NamedSubvolume
row_names names rows = map (row_name names) rows

-- one more stands behind the others
abbrev pub AddsName : Vec ℕ Global → Vec SubvolumeRow Global → Vec ℕ Global → Vec SubvolumeRow Global → NamedSubvolume → Type 0
AddsName names rows names' rows' one = row_names names'.items rows'.items ≡ row_names names.items rows.items ++ one ∷ []

-- all names of some rows lie within the buffer
abbrev pub HasSubvolumeNames : List ℕ → List SubvolumeRow → Type 0
HasSubvolumeNames names rows = All (λ (row : SubvolumeRow). HasNameAt names row.name) rows
