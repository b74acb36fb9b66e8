-- What is counted where a block is fetched in each turn.
use Rattle.std.specs.Prelude.{ℕ, Bool, ◌&&◌, ◌==◌, nat_le, Result, Ok, Err}
use Rattle.btr_bench.specs.declared.fetching.Block.{Block}
use Rattle.btr_bench.specs.declared.fetching.Block.TheVariants.{Tree, Kept, Sector}

-- whether a block can have so many bytes: a tree block as many as a node, a sector 4096
abbrev pub takes : Block → ℕ → Bool
takes Tree size = nat_le 4096 size && nat_le size 65536
takes Kept size = nat_le 4096 size && nat_le size 65536
takes Sector size = size == 4096

-- how many turns get a block that comes to this
abbrev pub times_got : {T E : Type 0} → ℕ → Result T E → ℕ
times_got times (Ok block) = times
times_got times (Err fault) = 0
