-- What the calls of a sink of files do.
use Rattle.std.specs.Prelude.{◌≡◌, ℕ, ◌+◌, ◌-◌, Bool, true, false, List, [], ◌∷◌, ◌++◌, take, Option, Some, None, IfSome, is_some, Result, Ok, Err}
use Rattle.std.specs.Option.{option_map}
use Rattle.btr_rack.specs.declared.error.SinkError.{SinkError}
use Rattle.btr_rack.specs.declared.row.Row.{Row}
use Rattle.btr_rack.specs.declared.row.Row.TheVariants.{Start, Dir, Up, File}
use Rattle.btr_rack.specs.declared.part.Part.{Part}

-- where a sink stands: not started, between two files, or in a file
pub data Stage : Type 0 where
  NotStarted : Stage
  BetweenFiles : Stage
  InFile : Stage

-- what was written: the finished rows, and the unfinished file
pub record Tree : Type 0 where
  pub rows : List Row
  pub part : Option Part

-- a sink: where it stands, how many folders it entered below the destination, and what was written, where it is told
pub record Sink : Type 0 where
  pub stage : Stage
  pub depth : ℕ
  pub tree : Option Tree

-- one more row
abbrev pub with_row : Row → Tree → Tree
with_row row tree = record tree { rows = tree.rows ++ row ∷ [] }

-- the tree with an unfinished file
abbrev pub with_part : Part → Tree → Tree
with_part part tree = record tree { part = Some part }

-- an unfinished file of a name, still without bytes
abbrev pub empty_part : List ℕ → Part
empty_part name = record { name = name; bytes = [] }

-- an unfinished file with more bytes
abbrev pub longer : List ℕ → Part → Part
longer bytes part = record part { bytes = part.bytes ++ bytes }

-- the tree whose unfinished file has more bytes
abbrev pub with_bytes : List ℕ → Tree → Tree
with_bytes bytes tree = record tree { part = option_map (longer bytes) tree.part }

-- the unfinished file as a row
abbrev pub with_finished : Tree → Option Part → Tree
with_finished tree None = tree
with_finished tree (Some part) = record { rows = tree.rows ++ File part.name part.bytes ∷ []; part = None }

-- the sink after it was started, with a row of its destination
abbrev pub started : List ℕ → Sink → Sink
started name s = record { stage = BetweenFiles; depth = 0; tree = option_map (with_row (Start name)) s.tree }

-- the sink after a folder was entered
abbrev pub entered : List ℕ → Sink → Sink
entered name s = record s { depth = s.depth + 1; tree = option_map (with_row (Dir name)) s.tree }

-- the sink after a folder was left
abbrev pub left : Sink → Sink
left s = record s { depth = s.depth - 1; tree = option_map (with_row Up) s.tree }

-- the sink after a file was begun
abbrev pub begun : List ℕ → Sink → Sink
begun name s = record s { stage = InFile; tree = option_map (with_part (empty_part name)) s.tree }

-- the sink after the unfinished file grew
abbrev pub grown : List ℕ → Sink → Sink
grown bytes s = record s { tree = option_map (with_bytes bytes) s.tree }

-- the sink after the unfinished file was finished
abbrev pub finished : Sink → Sink
finished s = record s { stage = BetweenFiles; tree = option_map (λ t. with_finished t t.part) s.tree }

-- a call does its step at Ok, and nothing otherwise
abbrev pub Steps : {T : Type 0} → (Sink → Sink) → Sink → Sink → Result T SinkError → Type 0
Steps step old new (Ok _) = new ≡ step old
Steps step old new (Err _) = new ≡ old

-- the file grows by all the bytes at Ok, and by a first part of them otherwise
abbrev pub Grows : {T : Type 0} → List ℕ → Sink → Sink → Result T SinkError → Type 0
Grows bytes old new (Ok _) = new ≡ grown bytes old
Grows bytes old new (Err _) = (n : ℕ) × (new ≡ grown (take n bytes) old)

-- a stage is within a file
abbrev pub is_in_file : Stage → Bool
is_in_file NotStarted = false
is_in_file BetweenFiles = false
is_in_file InFile = true

-- a file is unfinished exactly in a file, and before the start nothing was written
pub record IsSoundSink (s : Sink) : Type 0 where
  pub part : IfSome s.tree (λ t. is_some t.part ≡ is_in_file s.stage)
  pub rows : s.stage ≡ NotStarted → IfSome s.tree (λ t. t.rows ≡ [])
  pub depth : s.stage ≡ NotStarted → s.depth ≡ 0
