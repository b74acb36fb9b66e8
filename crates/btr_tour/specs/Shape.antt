-- How much a tour has still to do: it ends.
use Rattle.std.specs.Prelude.{ℕ, ◌+◌, ◌*◌, ◌^◌, ◌<◌, ◌≤◌, Option, None, Result, Ok, Err}
use Rattle.btr_walk.specs.declared.going.Where.{Where}
use Rattle.btr_walk.specs.declared.leaf_at.LeafAt.{LeafAt}
use Rattle.btr_walk.specs.declared.fault.TreeFault.{TreeFault}
use Rattle.btr_walk.specs.Ranks.{rank, rank_leaf}
use Rattle.btr_tour.specs.declared.step.Step.{Step}
use Rattle.btr_tour.specs.declared.step.Step.TheVariants.{Block, Child, Item, Fault, End}

-- the items of the leaf in hand count below all blocks that are to come
abbrev pub rank_on : Where → Option LeafAt → ℕ
rank_on place leaf = 2 ^ 64 * rank place + rank_leaf leaf None

-- a step comes nearer to the end, but where it meets nothing
abbrev pub StepRankFalls : ℕ → ℕ → Result Step TreeFault → Type 0
StepRankFalls old new (Ok (Block place header)) = new < old
StepRankFalls old new (Ok (Child block place)) = new < old
StepRankFalls old new (Ok (Item at)) = new < old
StepRankFalls old new (Ok (Fault f)) = new < old
StepRankFalls old new (Ok End) = new ≤ old
StepRankFalls old new (Err f) = new ≤ old
