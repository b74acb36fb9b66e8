-- What comes of restore: what stands in the sink, the lines, and how it ended.
use Rattle.std.specs.Prelude.{ℕ, List, [], fold, replicate, flat_map, Option, None, Result}
use Rattle.btr_prog.specs.Prog.{Run, steps_of}
use Rattle.btr_rack.specs.declared.part.Part.{Part}
use Rattle.btr_rack.specs.declared.row.Row.{Row}
use Rattle.btr_rack.specs.declared.row.Row.TheVariants as row
use Rattle.btr_rack.specs.Sink.{Tree, with_row, with_part, empty_part, with_bytes, with_finished}
use Rattle.btr_read.specs.Fate.{Fault}
use Rattle.btr_volume.specs.declared.fault.OpenFault.{OpenFault}
use Rattle.btr_volume.specs.Maps.{VolumeWant}
use Rattle.btr_files.specs.declared.counts.Counts.{Counts}
use Rattle.btr_listing.specs.Step.{Step, Start, Dir, Up, File, Bytes, Zeros, Done, Line}

-- what stands in a sink after a step
abbrev pub after_step : Tree → Step → Tree
after_step tree (Start name) = with_row (row.Start name) tree
after_step tree (Dir name) = with_row (row.Dir name) tree
after_step tree Up = with_row row.Up tree
after_step tree (File name) = with_part (empty_part name) tree
after_step tree (Bytes bytes) = with_bytes bytes tree
after_step tree (Zeros count) = with_bytes (replicate count 0) tree
after_step tree Done = with_finished tree tree.part
after_step tree (Line text) = tree

-- a sink in which nothing stands
abbrev pub nothing : Tree
nothing = record { rows = []; part = None }

-- what stands in a sink after some steps
abbrev pub tree_after : List Step → Tree
tree_after steps = fold after_step nothing steps

-- the line that a step is, if it is one
abbrev pub text_in : Step → List ℕ
text_in (Start name) = []
text_in (Dir name) = []
text_in Up = []
text_in (File name) = []
text_in (Bytes bytes) = []
text_in (Zeros count) = []
text_in Done = []
text_in (Line text) = text

-- the lines of some steps
abbrev pub text_of : List Step → List ℕ
text_of steps = flat_map text_in steps

-- how restore ends: with its counts, by a refusal of the images, or by a block or a tree that can't be had
abbrev pub Ending : Type 0
Ending = Result (Result Counts OpenFault) Fault

-- the rows of the sink, its unfinished file, the lines, and the ending
pub record RestoreOutcome : Type 0 where
  pub rows : List Row
  pub part : Option Part
  pub text : List ℕ
  pub ending : Ending

-- the outcome of some steps and an ending
abbrev pub outcome_by : List Step → Ending → RestoreOutcome
outcome_by steps ending = record { rows = (tree_after steps).rows; part = (tree_after steps).part; text = text_of steps; ending = ending }

-- the outcome of a run
abbrev pub outcome : Run VolumeWant Fault Step (Result Counts OpenFault) → RestoreOutcome
outcome r = outcome_by (steps_of r.marks) r.ending
