-- A sink that is a real folder. What it tells is what the calls of the system were given.
use Rattle.std.specs.Prelude.{◌≡◌, Bool, true, false, not, List, [], length, ℕ, Option, Some, None, is_some, refl}
use Rattle.std.specs.Option.{option_map}
use Rattle.std.specs.Str.{bytes_eq}
use Rattle.btr_rack.specs.declared.destination.Destination.{Destination}
use Rattle.btr_rack.specs.declared.part.Part.{Part}
use Rattle.btr_rack.specs.declared.row.Row.{Row}
use Rattle.btr_rack.specs.History.{replay}
use Rattle.btr_rack.specs.Growing.{Growing, contents}
use Rattle.btr_rack.specs.Sink.{Sink, Stage, NotStarted, BetweenFiles, InFile, is_in_file, IsSoundSink}

-- the stage of a folder that was started, by whether a file is unfinished
abbrev pub started_stage : Bool → Stage
started_stage true = InFile
started_stage false = BetweenFiles

-- the unfinished file: what was stored, and what waits in the buffer
abbrev pub part_of : List ℕ → List ℕ → Growing → Part
part_of name buffer file = record { name = name; bytes = contents file buffer }

-- before the start
abbrev pub unstarted : Sink
unstarted = record { stage = NotStarted; depth = 0; tree = Some (record { rows = []; part = None }) }

-- the sink that a started folder is: its stage, its depth, and the tree that was told
unfoldable pub at_sink : Destination → Sink
at_sink at = record {
  stage = started_stage (is_some at.file);
  depth = length at.folders;
  tree = Some (record { rows = at.trail.rows; part = option_map (part_of at.trail.name at.buffer) at.file });
}

-- the sink that a folder is
abbrev pub folder_sink : Option Destination → Sink
folder_sink None = unstarted
folder_sink (Some at) = at_sink at

-- Of the unfinished file something waits to be stored: what its calls made isn't what was put.
abbrev pub file_waits : List ℕ → Option Growing → Bool
file_waits buffer None = false
file_waits buffer (Some file) = not (bytes_eq (replay file.history) (contents file buffer))

-- bytes of the unfinished file of a started folder wait to be stored
unfoldable pub at_waits : Destination → Bool
at_waits at = file_waits at.buffer at.file

-- bytes of the unfinished file wait to be stored
abbrev pub folder_waits : Option Destination → Bool
folder_waits None = false
folder_waits (Some at) = at_waits at

-- a started folder is not at the stage before the start, so nothing is asked of its depth
started_depth : (depth : ℕ) (b : Bool) → started_stage b ≡ NotStarted → depth ≡ 0
started_depth depth true e = cc
started_depth depth false e = cc

-- a started folder is not at the stage before the start, so nothing is asked of its rows
started_rows : (rows : List Row) (b : Bool) → started_stage b ≡ NotStarted → rows ≡ []
started_rows rows true e = cc
started_rows rows false e = cc

-- the tree of a started folder has an unfinished file just when its stage says so
told_part : (name buffer : List ℕ) (file : Option Growing)
    → is_some (option_map (part_of name buffer) file) ≡ is_in_file (started_stage (is_some file))
told_part name buffer None = refl
told_part name buffer (Some file) = refl

-- a folder is a sound sink
pub folder_sound : (at : Option Destination) → IsSoundSink (folder_sink at)
unfolding at_sink
folder_sound None = record { part = refl; rows = λ e. refl; depth = λ e. refl }
folder_sound (Some at) = record {
  part = told_part at.trail.name at.buffer at.file;
  rows = started_rows at.trail.rows (is_some at.file);
  depth = started_depth (length at.folders) (is_some at.file);
}

-- no bytes wait where no file is unfinished
settled_file : (buffer : List ℕ) (file : Option Growing) → is_in_file (started_stage (is_some file)) ≡ false → file_waits buffer file ≡ false
settled_file buffer None e = refl
settled_file buffer (Some file) e = cc

-- no bytes wait in a folder that isn't in a file
pub folder_settled : (at : Option Destination) → is_in_file (folder_sink at).stage ≡ false → folder_waits at ≡ false
unfolding at_sink at_waits
folder_settled None e = refl
folder_settled (Some at) e = settled_file at.buffer at.file e
