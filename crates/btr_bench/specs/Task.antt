-- What can be timed, by its name.
use Rattle.std.specs.Prelude.{ℕ, Bool, ◌≤◌, ◌&&◌, nat_le, List, codes, Option, Some, if◌then◌else◌}
use Rattle.std.specs.Option.{option_map}
use Rattle.std.specs.Str.{bytes_eq}
use Rattle.btr_bench.specs.declared.fetching.Block.TheVariants.{Tree, Kept, Sector}
use Rattle.btr_bench.specs.declared.task.Task.{Task}
use Rattle.btr_bench.specs.declared.task.Task.TheVariants.{Over, Fetching, Walking}
use Rattle.btr_bench.specs.declared.walking.Walk.TheVariants.{Scan, FindLe}
use Rattle.btr_bench.specs.Kernel.{kernel_of, takes as kernel_takes, digits_of as digits_of_result}
use Rattle.btr_bench.specs.Fetching.{takes as block_takes}
use Rattle.btr_bench.specs.Turns.{first_piece, first_kept, TurnsGive}

-- the task of a name
abbrev pub task_of : List ℕ → Option Task
task_of name =
    if bytes_eq name (codes "tree-block") then Some (Fetching Tree)
    else if bytes_eq name (codes "kept-block") then Some (Fetching Kept)
    else if bytes_eq name (codes "sector") then Some (Fetching Sector)
    else if bytes_eq name (codes "scan") then Some (Walking Scan)
    else if bytes_eq name (codes "find-le") then Some (Walking FindLe)
    else option_map Over (kernel_of name)

-- whether the piece or the block can have so many bytes, or the tree so many items
abbrev pub takes : Task → ℕ → Bool
takes (Over kernel) size = kernel_takes kernel size
takes (Fetching block) size = block_takes block size
takes (Walking walk) size = nat_le 1 size && nat_le size 1000000

-- how many hexadecimal digits are printed
abbrev pub digits_of : Task → ℕ
digits_of (Over kernel) = digits_of_result kernel
digits_of (Fetching block) = 16
digits_of (Walking walk) = 16

-- what n turns come to: the exclusive or of a kernel's results, how many turns got the
-- block, or how many items the last turn had
abbrev pub GivesTurns : Task → ℕ → ℕ → ℕ → Type 0
GivesTurns (Over kernel) size n all = TurnsGive kernel (first_piece kernel size) (first_kept kernel size) 0 n all
GivesTurns (Fetching block) size n got = got ≤ n
GivesTurns (Walking walk) size n got = got ≤ size
