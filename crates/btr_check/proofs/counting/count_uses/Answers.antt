use Rattle.std.proofs.Common.{Ok, Err}
use Rattle.btr_check.specs.Counting.{BlocksCount, UsesCount}
use Rattle.btr_check.specs.Running.{world}
use Rattle.btr_check.proofs.Counts.{uses_counted, uses_stop}
use Rattle.btr_check.proofs.Runs.{ran_stop, ran_value, stop_is}
use Rattle.btr_check.proofs.counting.count_uses.Goals as goal

pub returns : goal.returns
returns g c = record {
  ran = ran_value {A = Unit {0}} (λ fs. BlocksCount fs.blocks c.args.places.now c.args.full.now c.count_roots.new.forward c.count_blocks.new.forward (Ok tt))
      (λ fs. UsesCount fs.blocks c.args.forward c.args.trees.now c.args.places.now c.args.full.now (Ok c.count_blocks.new.forward))
      (world (g.R.Rack.seen c.args.rack.now) c.args.vol.now) (world (g.R.Rack.seen c.count_blocks.new.rack) c.count_blocks.new.vol) tt
      c.count_blocks.new.forward c.in_ok-count_blocks.ensures.ran
      (λ B h. uses_counted B c.args.forward c.args.trees.now c.args.places.now c.args.full.now c.count_roots.new.forward c.count_blocks.new.forward
      c.in-Ok.ensures h);
}

pub returns-in_err-count_blocks : goal.returns-in_err-count_blocks
returns-in_err-count_blocks g c = record {
  ran = rw (stop_is c.from_residual.result c.from_residual.ensures.1)
      (ran_stop {A = Unit {0}} (λ fs. BlocksCount fs.blocks c.args.places.now c.args.full.now c.count_roots.new.forward c.count_blocks.new.forward
      (Err c.in_err-count_blocks.field-0.0))
      (λ fs. UsesCount fs.blocks c.args.forward c.args.trees.now c.args.places.now c.args.full.now (Err c.in_err-count_blocks.field-0.0))
      (world (g.R.Rack.seen c.args.rack.now) c.args.vol.now) (world (g.R.Rack.seen c.count_blocks.new.rack) c.count_blocks.new.vol)
      c.in_err-count_blocks.field-0.0
      c.in_err-count_blocks.ensures.ran
      (λ B h. uses_stop B c.args.forward c.args.trees.now c.args.places.now c.args.full.now c.count_roots.new.forward c.count_blocks.new.forward
      c.in_err-count_blocks.field-0.0 h));
}
