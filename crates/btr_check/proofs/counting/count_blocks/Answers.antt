use Rattle.std.proofs.Common.{◌+◌, Result, Ok, Err, get_or}
use Rattle.std.proofs.lemmas.List.Elements.{Contains-get_or}
use Rattle.btr_volume.specs.declared.stop.Stop.{Stop}
use Rattle.btr_walk.specs.declared.place.RootPlace.{RootPlace}
use Rattle.btr_check.specs.Counting.{BlockCounts, CountedTo, BlocksCount}
use Rattle.btr_check.specs.Running.{world}
use Rattle.btr_check.proofs.Counts.{counted_none, counted_next, counted_stop, counted_end}
use Rattle.btr_check.proofs.Runs.{ran_both, ran_none, ran_then, ran_value, stop_is}
use Rattle.btr_check.proofs.counting.count_blocks.Goals as goal

pub loop-place-init : goal.loop-place-init
loop-place-init g c = record {
  ran = ran_none (λ fs. CountedTo fs.blocks 0 c.args.places.now c.args.full.now c.args.forward.now c.args.forward.now)
      (world (g.R.Rack.seen c.args.rack.now) c.args.vol.now) tt c.requires.ready
      (λ B. counted_none B c.args.places.now c.args.full.now c.args.forward.now);
}

pub loop-place-preserved : goal.loop-place-preserved
loop-place-preserved g c =
    let l = c.loop-place in
    let none : RootPlace = record { addr = 0; generation = 0; level = 0 } in
    let here : RootPlace = get_or c.args.places.now l.place-index none in
    record {
      ran = ran_both {A = Unit {0}} {C = Unit {0}} (λ fs. CountedTo fs.blocks l.place-index c.args.places.now c.args.full.now c.args.forward.now l.forward)
          (λ fs. BlockCounts fs.blocks here c.contains-by_address.result l.forward c.count_block.new.forward (Ok tt))
          (λ fs. CountedTo fs.blocks (l.place-index + 1) c.args.places.now c.args.full.now c.args.forward.now c.count_block.new.forward)
          (world (g.R.Rack.seen c.args.rack.now) c.args.vol.now) (world (g.R.Rack.seen l.rack) l.vol)
          (world (g.R.Rack.seen c.count_block.new.rack) c.count_block.new.vol) tt tt l.invariant.ran c.in_ok-count_block.ensures.ran
          (λ B p q. counted_next B c.args.places.now c.args.full.now c.args.forward.now l.place-index none c.contains-by_address.result l.forward
          c.count_block.new.forward c.loop-place-test.true p c.contains-by_address.ensures q);
    }

pub returns-in_err-count_block : goal.returns-in_err-count_block
returns-in_err-count_block g c =
    let l = c.loop-place in
    let none : RootPlace = record { addr = 0; generation = 0; level = 0 } in
    let here : RootPlace = get_or c.args.places.now l.place-index none in
    let stopped : Result (Unit {0}) Stop = Err c.in_err-count_block.field-0.0 in
    record {
      ran = rw (stop_is c.from_residual.result c.from_residual.ensures.1)
          (ran_then {A = Unit {0}} {C = Unit {0}} (λ fs. CountedTo fs.blocks l.place-index c.args.places.now c.args.full.now c.args.forward.now l.forward)
          (λ fs. BlockCounts fs.blocks here c.contains-by_address.result l.forward c.count_block.new.forward stopped)
          (λ fs. BlocksCount fs.blocks c.args.places.now c.args.full.now c.args.forward.now c.count_block.new.forward stopped)
          (world (g.R.Rack.seen c.args.rack.now) c.args.vol.now) (world (g.R.Rack.seen l.rack) l.vol)
          (world (g.R.Rack.seen c.count_block.new.rack) c.count_block.new.vol) tt stopped l.invariant.ran c.in_err-count_block.ensures.ran
          (λ B p q. counted_stop B c.args.places.now c.args.full.now c.args.forward.now l.place-index none c.contains-by_address.result l.forward
          c.count_block.new.forward c.count_block.new.forward c.in_err-count_block.field-0.0 c.loop-place-test.true q)
          (λ B p want w. (here, Contains-get_or c.args.places.now l.place-index none c.loop-place-test.true, w)));
    }

pub returns : goal.returns
returns g c =
    let l = c.loop-place in
    record {
      ran = ran_value {A = Unit {0}} {C = Unit {0}} (λ fs. CountedTo fs.blocks l.place-index c.args.places.now c.args.full.now c.args.forward.now l.forward)
          (λ fs. BlocksCount fs.blocks c.args.places.now c.args.full.now c.args.forward.now l.forward (Ok tt))
          (world (g.R.Rack.seen c.args.rack.now) c.args.vol.now) (world (g.R.Rack.seen l.rack) l.vol) tt tt l.invariant.ran
          (λ B p. counted_end B c.args.places.now c.args.full.now c.args.forward.now l.place-index l.forward c.loop-place-test.false p);
    }
