-- The lines of restore.
use Rattle.std.specs.Prelude.{ℕ, ◌+◌, ◌-◌, ◌^◌, ◌==◌, if◌then◌else◌, List, ◌∷◌, ◌++◌, flat_map, codes}
use Rattle.std.specs.Fmt.{decimal}
use Rattle.btr_base.specs.Shown.{shown}
use Rattle.btr_files.specs.declared.counts.Counts.{Counts}

-- the path of an entry of a directory: each name behind a `/`
abbrev pub path_in : List ℕ → List ℕ → List ℕ
path_in path name = path ++ 47 ∷ name

-- a word, and a path with each byte shown
abbrev pub line : List ℕ → List ℕ → List ℕ
line word path = word ++ codes " " ++ flat_map shown path ++ codes "\n"

-- the line that a path is skipped, with the cause
abbrev pub skip_line : List ℕ → List ℕ → List ℕ
skip_line cause path = codes "skip " ++ line cause path

-- a count with one more; it stands still at its last value
abbrev pub more : ℕ → ℕ
more n = if n == 2 ^ 64 - 1 then n else n + 1

-- no count yet
abbrev pub no_counts : Counts
no_counts = record { dirs = 0; files = 0; skipped = 0 }

-- the counts with one directory more
abbrev pub with_dir : Counts → Counts
with_dir counts = record counts { dirs = more counts.dirs }

-- the counts with one file more
abbrev pub with_file : Counts → Counts
with_file counts = record counts { files = more counts.files }

-- the counts with one skipped thing more
abbrev pub with_skip : Counts → Counts
with_skip counts = record counts { skipped = more counts.skipped }

-- the line of the counts
abbrev pub counts_line : Counts → List ℕ
counts_line counts =
    codes "directories " ++ decimal counts.dirs ++ codes " files " ++ decimal counts.files
    ++ codes " skipped " ++ decimal counts.skipped ++ codes "\n"
