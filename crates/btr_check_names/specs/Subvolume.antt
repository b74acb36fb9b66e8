-- A name of a subvolume.
use Rattle.std.specs.Prelude.{ℕ, List}
use Rattle.btr_check_names.specs.declared.subvolume_name.SubvolumeName.{SubvolumeName}

-- the tree and the directory that have it, at which index, by which name, and the subvolume's tree
pub record NamedSubvolume : Type 0 where
  pub parent : ℕ
  pub dirid : ℕ
  pub index : ℕ
  pub child : ℕ
  pub name : List ℕ

-- what a name in memory says
abbrev pub name_of : SubvolumeName → NamedSubvolume
name_of name = record { parent = name.parent; dirid = name.dirid; index = name.index; child = name.child; name = name.name.now }
