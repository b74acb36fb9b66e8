-- A sink in memory.
use Rattle.std.specs.Prelude.{ℕ, ◌+◌, ◌-◌, List, [], ◌∷◌, fold, Option, Some, None}
use Rattle.btr_rack.specs.declared.row.Row.{Row}
use Rattle.btr_rack.specs.declared.row.Row.TheVariants.{Start, Dir, Up, File}
use Rattle.btr_rack.specs.declared.part.Part.{Part}
use Rattle.btr_rack.specs.Calls.{CallCount, no_calls}
use Rattle.btr_rack.specs.Sink.{Sink, Stage, NotStarted, BetweenFiles, InFile, Tree}

-- a sink in memory: what was written, and its calls
pub record MemoryTree : Type 0 where
  pub tree : Tree
  pub calls : CallCount

-- a sink to which nothing was put
abbrev pub empty_tree : MemoryTree
empty_tree = record { tree = record { rows = []; part = None }; calls = no_calls }

-- the start is the first row
abbrev pub stage_of : List Row → Option Part → Stage
stage_of rows (Some _) = InFile
stage_of [] None = NotStarted
stage_of (_ ∷ _) None = BetweenFiles

-- the depth after one more row
abbrev pub deeper : ℕ → Row → ℕ
deeper depth (Start _) = depth
deeper depth (Dir _) = depth + 1
deeper depth Up = depth - 1
deeper depth (File _ _) = depth

-- how many folders were entered and not left
abbrev pub depth_of : List Row → ℕ
depth_of rows = fold deeper 0 rows

-- the sink that a tree in memory is
abbrev pub sink_of : Tree → Sink
sink_of tree = record { stage = stage_of tree.rows tree.part; depth = depth_of tree.rows; tree = Some tree }
