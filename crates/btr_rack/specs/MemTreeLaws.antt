-- What holds of every sink in memory.
use Rattle.std.specs.Prelude.{◌≡◌, List, [], ◌∷◌, Option, Some, None, is_some, refl}
use Rattle.btr_rack.specs.declared.row.Row.{Row}
use Rattle.btr_rack.specs.declared.part.Part.{Part}
use Rattle.btr_rack.specs.Sink.{Tree, NotStarted, is_in_file, IsSoundSink}
use Rattle.btr_rack.specs.MemTree.{stage_of, depth_of, sink_of}

-- a tree has an unfinished file just when its stage says so
in_file : (rows : List Row) (part : Option Part) → is_some part ≡ is_in_file (stage_of rows part)
in_file rows (Some _) = refl
in_file [] None = refl
in_file (_ ∷ _) None = refl

-- a tree that wasn't started has no rows
no_rows : (rows : List Row) (part : Option Part) → stage_of rows part ≡ NotStarted → rows ≡ []
no_rows [] part e = refl
no_rows (_ ∷ _) (Some _) e = cc
no_rows (_ ∷ _) None e = cc

-- a tree that wasn't started has depth 0
no_depth : (rows : List Row) (part : Option Part) → stage_of rows part ≡ NotStarted → depth_of rows ≡ 0
no_depth [] part e = refl
no_depth (_ ∷ _) (Some _) e = cc
no_depth (_ ∷ _) None e = cc

-- a tree in memory is a sound sink
pub sound_tree : (tree : Tree) → IsSoundSink (sink_of tree)
sound_tree tree = record { part = in_file tree.rows tree.part; rows = no_rows tree.rows tree.part; depth = no_depth tree.rows tree.part }
