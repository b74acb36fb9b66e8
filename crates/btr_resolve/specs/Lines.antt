-- The lines of `logical-resolve`.
use Rattle.std.specs.Prelude.{ℕ, ◌+◌, ◌-◌, ◌^◌, ◌==◌, Bool, if◌then◌else◌, List, ◌++◌, flat_map, codes, Some, None}
use Rattle.std.specs.Fmt.{decimal}
use Rattle.btr_base.specs.Shown.{shown}
use Rattle.btr_resolve.specs.Paths.{Path}
use Rattle.btr_resolve.specs.declared.owner.Owner.{Owner}

-- a path with each byte shown, or `?`
abbrev pub path_text : Path → List ℕ
path_text None = codes "?"
path_text (Some path) = flat_map shown path

-- a path that was found, or none
abbrev pub path_if : Bool → List ℕ → Path
path_if is_found path = if is_found then Some path else None

-- the line of an owner, by one of its paths
abbrev pub owner_line : Owner → Path → List ℕ
owner_line owner path =
    codes "tree " ++ decimal owner.tree.id ++ codes " inode " ++ decimal owner.inode ++ codes " position " ++ decimal owner.position
    ++ codes " path " ++ path_text path ++ codes "\n"

-- the last line: how many lines there are before it
abbrev pub total_line : ℕ → List ℕ
total_line count = codes "owners " ++ decimal count ++ codes "\n"

-- a count with one more; it stands still at its last value
abbrev pub more : ℕ → ℕ
more n = if n == 2 ^ 64 - 1 then n else n + 1
