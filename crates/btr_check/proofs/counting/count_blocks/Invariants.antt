use Rattle.std.proofs.Common.{Ok}
use Rattle.btr_check.specs.Running.{world, Ran}
use Rattle.btr_check.specs.Counting.{CountedTo}
use Rattle.btr_check.proofs.Runs.{nothing}
use Rattle.btr_check.proofs.counting.count_blocks.Given as goal

-- what the blocks so far use
abbrev pub invariant-loop-place : goal.invariant-loop-place
invariant-loop-place g l = record {
  ran : Ran {A = Unit {0}} nothing (λ fs. CountedTo fs.blocks l.place-index l.places l.full l.fn.forward l.forward) (world (g.R.Rack.seen l.fn.rack) l.fn.vol)
      (world (g.R.Rack.seen l.rack) l.vol) (Ok tt);
}
