-- The way up from a directory, with the path that is built on it from its end.
use Rattle.std.specs.Prelude.{ℕ, List, ◌∷◌, ◌++◌, option_map, Option, Some, None}
use Rattle.btr_prog.specs.Prog.{Return, bind}
use Rattle.btr_volume.specs.Lookup.{Lookup}
use Rattle.btr_volume.specs.declared.root.TreeRoot.{TreeRoot}
use Rattle.btr_files.specs.Names.{Link, links}
use Rattle.btr_resolve.specs.Paths.{Path, directory_path, only}

-- a path with another one behind it
abbrev pub before : List ℕ → Path → Path
before below path = option_map (λ here. here ++ below) path

-- the path of a directory, so many steps below the top directory at most, with the path behind it
abbrev pub led : ℕ → TreeRoot → ℕ → List ℕ → Lookup Path
led n tree dir below = bind (directory_path n tree dir) (λ path. Return (before below path))

-- the parent of a directory by its one name, and the path below the parent
abbrev pub up : List ℕ → Option Link → Option (ℕ × List ℕ)
up below None = None
up below (Some name) = Some (name.parent, 47 ∷ name.name ++ below)

-- a step from a directory to its parent
abbrev pub step_up : TreeRoot → ℕ → List ℕ → Lookup (Option (ℕ × List ℕ))
step_up tree dir below = bind (links tree dir) (λ found. Return (up below (only found)))
