-- The path of a name in its tree.
use Rattle.std.specs.Prelude.{ℕ, zero, suc, ◌==◌, if◌then◌else◌, List, [], ◌∷◌, ◌++◌, option_map, Option, Some, None}
use Rattle.btr_prog.specs.Prog.{Return, bind}
use Rattle.btr_volume.specs.Lookup.{Lookup}
use Rattle.btr_volume.specs.declared.root.TreeRoot.{TreeRoot}
use Rattle.btr_files.specs.Names.{Link, links}

-- the bytes of a path, each name behind a `/`; there may be no path
abbrev pub Path : Type 0
Path = Option (List ℕ)

-- so many steps from a directory to its parent give a path, and none more
abbrev pub most_steps : ℕ
most_steps = 512

-- the path of an entry of a directory, by that of the directory
abbrev pub entry_path : List ℕ → Path → Path
entry_path name path = option_map (λ here. here ++ 47 ∷ name) path

-- the name of a directory, which has one in all
abbrev pub only : List Link → Option Link
only [] = None
only (name ∷ []) = Some name
only (name ∷ (other ∷ more)) = None

-- the path of a name, where that of its directory is looked up; no name has no path
abbrev pub path_below : (ℕ → Lookup Path) → Option Link → Lookup Path
path_below above None = Return None
path_below above (Some name) = bind (above name.parent) (λ path. Return (entry_path name.name path))

-- The path of a directory of a tree, so many steps below the top directory at most: that one's is empty, and another's
-- is its parent's path, `/` and its name. Where a directory on the way has not exactly one name, there is none.
abbrev pub directory_path : ℕ → TreeRoot → ℕ → Lookup Path
directory_path zero tree dir = if dir == tree.dirid then Return (Some []) else Return None
directory_path (suc n) tree dir =
    if dir == tree.dirid then Return (Some []) else bind (links tree dir) (λ found. path_below (directory_path n tree) (only found))

-- the path of a name
abbrev pub name_path : TreeRoot → Link → Lookup Path
name_path tree name = path_below (directory_path most_steps tree) (Some name)
