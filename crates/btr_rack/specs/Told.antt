-- What the calls of the system made of a folder that is a sink.
use Rattle.std.specs.Prelude.{ℕ, List, [], ◌∷◌, ◌++◌}
use Rattle.btr_rack.specs.declared.step.Step.{Step}
use Rattle.btr_rack.specs.declared.step.Step.TheVariants.{Started, Entered, Left, Begun, Closed}
use Rattle.btr_rack.specs.declared.row.Row.{Row}
use Rattle.btr_rack.specs.declared.row.Row.TheVariants.{Start, Dir, Up, File}
use Rattle.btr_rack.specs.History.{Event, replay}

-- the finished rows, and the name of the last file that was made
pub record Told : Type 0 where
  pub rows : List Row
  pub name : List ℕ

-- nothing was told yet
abbrev pub nothing_told : Told
nothing_told = record { rows = []; name = [] }

-- the path that the newest call was given
abbrev pub path_of : List Event → List ℕ
path_of [] = []
path_of (e ∷ _) = e.bytes

-- one more step, done by these calls: a folder and a file have the name that their call was given, and a closed file
-- has the bytes that its calls made
abbrev pub told_after : Step → List Event → Told → Told
told_after Started calls t = record t { rows = t.rows ++ Start (path_of calls) ∷ [] }
told_after Entered calls t = record t { rows = t.rows ++ Dir (path_of calls) ∷ [] }
told_after Left calls t = record t { rows = t.rows ++ Up ∷ [] }
told_after Begun calls t = record t { name = path_of calls }
told_after Closed calls t = record t { rows = t.rows ++ File t.name (replay calls) ∷ [] }
