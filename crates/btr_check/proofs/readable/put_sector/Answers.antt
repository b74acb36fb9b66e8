use Rattle.std.proofs.Common.{◌≡◌, [], ◌∷◌, Bool, true, Option, Err, refl}
use Rattle.std.specs.Option.{option_to_list}
use Rattle.btr_files.specs.Sums.{tree_behind}
use Rattle.btr_findings.specs.declared.kind.Kind.TheVariants as kind
use Rattle.btr_findings.specs.Findings.{Adds, found}
use Rattle.btr_volume.specs.declared.root.TreeRoot.{TreeRoot}
use Rattle.btr_volume.specs.declared.stop.Stop.TheVariants.{Memory}
use Rattle.btr_check.specs.Counting.{Unless}
use Rattle.btr_check.specs.Data.{is_readable, data_lost, KeepsSums}
use Rattle.btr_check.specs.Running.{world, filesystem, is_outside}
use Rattle.btr_check.proofs.Datas.{sector_adds}
use Rattle.btr_check.proofs.Runs.{ran_refused, ran_stop, ran_value, stop_is}
use Rattle.btr_check.proofs.readable.put_sector.Goals as goal

pub returns-in_err-readable : goal.returns-in_err-readable
returns-in_err-readable g c =
    let sums : Option TreeRoot = tree_behind c.args.sums in
    record {
      ahead = c.in_err-readable.ensures.ahead;
      ran = rw (stop_is c.from_residual.result c.from_residual.ensures.1)
          (ran_stop {A = Bool} {C = Unit {0}}
          (λ fs. KeepsSums fs sums c.args.ahead.now c.is_readable.new.ahead
          (Unless {A = Bool} (λ can. can ≡ is_readable fs sums c.args.sector.addr) (Err c.in_err-readable.field-0.0)))
          (λ fs. KeepsSums fs sums c.args.ahead.now c.is_readable.new.ahead
          (Unless {A = Unit {0}} (λ u. Adds (option_to_list (data_lost fs sums c.args.sector.addr)) c.args.found.now c.args.found.now)
          (Err c.in_err-readable.field-0.0)))
          (world (g.R.Rack.seen c.args.rack.now) c.args.vol.now) (world
          (g.R.Rack.seen c.is_readable.new.rack) c.is_readable.new.vol) c.in_err-readable.field-0.0 c.in_err-readable.ensures.ran (λ B h. h));
    }

pub returns-in-Ok : goal.returns-in-Ok
returns-in-Ok g c =
    let sums : Option TreeRoot = tree_behind c.args.sums in
    record {
      ahead = c.in_ok-readable.ensures.ahead;
      ran = ran_value (λ fs. KeepsSums fs sums c.args.ahead.now c.is_readable.new.ahead (c.in_ok-readable.readable ≡ is_readable fs sums c.args.sector.addr))
          (λ fs. KeepsSums fs sums c.args.ahead.now c.is_readable.new.ahead
          (Adds (option_to_list (data_lost fs sums c.args.sector.addr)) c.args.found.now c.put_lost.new.found))
          (world (g.R.Rack.seen c.args.rack.now) c.args.vol.now) (world
          (g.R.Rack.seen c.is_readable.new.rack) c.is_readable.new.vol) c.in_ok-readable.readable tt c.in_ok-readable.ensures.ran
          (λ B h summed. (
            (h summed).0,
            sector_adds (filesystem c.args.vol.now B) sums c.args.sector.addr c.in_ok-readable.readable
                (found kind.DataLost (c.args.sector.addr ∷ [])) c.args.found.now c.put_lost.new.found refl c.in-Ok.ensures (h summed).1,
          ));
    }

pub returns-in-Err : goal.returns-in-Err
returns-in-Err g c =
    let sums : Option TreeRoot = tree_behind c.args.sums in
    record {
      ahead = c.in_ok-readable.ensures.ahead;
      ran = ran_refused {A = Bool} {C = Unit {0}}
          (λ fs. KeepsSums fs sums c.args.ahead.now c.is_readable.new.ahead (c.in_ok-readable.readable ≡ is_readable fs sums c.args.sector.addr))
          (λ fs. KeepsSums fs sums c.args.ahead.now c.is_readable.new.ahead (is_outside Memory ≡ true))
          (world (g.R.Rack.seen c.args.rack.now) c.args.vol.now) (world
          (g.R.Rack.seen c.is_readable.new.rack) c.is_readable.new.vol) c.in_ok-readable.readable Memory c.in_ok-readable.ensures.ran (λ Q. tt) tt
          (λ B h summed. ((h summed).0, refl));
    }
