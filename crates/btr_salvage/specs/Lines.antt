-- The lines of what is missing, and of how much was salvaged.
use Rattle.std.specs.Prelude.{ℕ, List, [], ◌∷◌, ◌++◌, codes}
use Rattle.std.specs.Fmt.{decimal}
use Rattle.btr_read.specs.Fate.{Fault, Lost, Unmapped, Crosses, Malformed, NoTree}
use Rattle.btr_files.specs.declared.counts.Counts.{Counts}
use Rattle.btr_listing.specs.Lines.{line, more, no_counts}
use Rattle.btr_salvage.specs.declared.salvaged.Salvaged.{Salvaged}

-- why a block can't be had; no entry wants a tree that isn't there
abbrev pub fault_text : Fault → List ℕ
fault_text (Lost addr) = codes "lost"
fault_text (Unmapped addr) = codes "unmapped"
fault_text (Crosses addr) = codes "crosses"
fault_text (Malformed addr) = codes "malformed"
fault_text (NoTree id) = codes "missing"

-- the address of a fault
abbrev pub fault_addr : Fault → ℕ
fault_addr (Lost addr) = addr
fault_addr (Unmapped addr) = addr
fault_addr (Crosses addr) = addr
fault_addr (Malformed addr) = addr
fault_addr (NoTree id) = id

-- something is missing at a path, since a block can't be had
abbrev pub missing_line : List ℕ → Fault → List ℕ → List ℕ
missing_line word fault path = word ++ codes " " ++ fault_text fault ++ codes " " ++ line (decimal (fault_addr fault)) path

-- the path of a directory: the start directory is `/`
abbrev pub folder_path : List ℕ → List ℕ
folder_path [] = 47 ∷ []
folder_path (byte ∷ bytes) = byte ∷ bytes

-- so much was restored, and so much was missing
abbrev pub salvaged : Counts → ℕ → Salvaged
salvaged counts broken = record { counts = counts; broken = broken }

-- nothing was restored yet, and nothing was missing
abbrev pub nothing_yet : Salvaged
nothing_yet = salvaged no_counts 0

-- one more was missing
abbrev pub with_broken : Salvaged → Salvaged
with_broken so_far = salvaged so_far.counts (more so_far.broken)

-- the line of the counts
abbrev pub salvaged_line : Salvaged → List ℕ
salvaged_line so_far =
    codes "directories " ++ decimal so_far.counts.dirs ++ codes " files " ++ decimal so_far.counts.files
    ++ codes " skipped " ++ decimal so_far.counts.skipped ++ codes " broken " ++ decimal so_far.broken ++ codes "\n"
