use Rattle.std.proofs.Common.{◌+◌, ◌<◌, ◌^◌, Option, Result, Err, filter_map, take}
use Rattle.std.specs.Option.{option_to_list}
use Rattle.btr_files.specs.Aheads.{IsSummed}
use Rattle.btr_files.specs.Sums.{tree_behind}
use Rattle.btr_findings.specs.Findings.{Adds}
use Rattle.btr_findings.proofs.Adding.{adds_none}
use Rattle.btr_check_sums.specs.Ranks.{run_end}
use Rattle.btr_check_sums.specs.Sums.{run_sectors}
use Rattle.btr_volume.specs.declared.root.TreeRoot.{TreeRoot}
use Rattle.btr_volume.specs.declared.stop.Stop.{Stop}
use Rattle.btr_check.specs.Counting.{Unless}
use Rattle.btr_check.specs.Data.{data_lost, KeepsSums}
use Rattle.btr_check.specs.Running.{world, filesystem}
use Rattle.btr_check.proofs.Datas.{none_kept, run_more, run_all, sector_in}
use Rattle.btr_check.proofs.Runs.{ran_both, ran_none, ran_then, ran_value, stop_is}
use Rattle.btr_check.proofs.readable.put_run.Goals as goal

pub loop-i-init : goal.loop-i-init
loop-i-init g c =
    let sums : Option TreeRoot = tree_behind c.args.sums in
    record {
      ahead = c.requires.ahead;
      ran = ran_none (λ fs. run_end c.args.run.now < 2 ^ 64 → IsSummed fs.blocks sums c.new-ahead.result
          × Adds (filter_map (data_lost fs sums) (take 0 (run_sectors c.args.run.now))) c.args.found.now c.args.found.now)
          (world (g.R.Rack.seen c.args.rack.now) c.args.vol.now) tt c.requires.ready
          (λ B low. (none_kept B sums c.new-ahead.result c.new-ahead.ensures, adds_none c.args.found.now));
    }

pub loop-i-preserved : goal.loop-i-preserved
loop-i-preserved g c =
    let l = c.loop-i in
    let run = c.args.run.now in
    let sums : Option TreeRoot = tree_behind c.args.sums in
    let sector = c.sector_at-sector.result.addr in
    record {
      ahead = c.in_ok-put_sector.ensures.ahead;
      ran = ran_both {A = Unit {0}} {C = Unit {0}}
          (λ fs. run_end run < 2 ^ 64 → IsSummed fs.blocks sums l.ahead × Adds
          (filter_map (data_lost fs sums) (take l.i (run_sectors run))) c.args.found.now l.found)
          (λ fs. KeepsSums fs sums l.ahead c.put_sector.new.ahead (Adds (option_to_list (data_lost fs sums sector)) l.found c.put_sector.new.found))
          (λ fs. run_end run < 2 ^ 64 → IsSummed fs.blocks sums c.put_sector.new.ahead × Adds
          (filter_map (data_lost fs sums) (take (l.i + 1) (run_sectors run))) c.args.found.now c.put_sector.new.found)
          (world (g.R.Rack.seen c.args.rack.now) c.args.vol.now) (world (g.R.Rack.seen l.rack) l.vol)
          (world (g.R.Rack.seen c.put_sector.new.rack) c.put_sector.new.vol) tt tt l.invariant.ran c.in_ok-put_sector.ensures.ran
          (λ B p q low. (
            (q (p low).0).0,
            run_more (filesystem c.args.vol.now B) sums run l.i sector c.args.found.now l.found c.put_sector.new.found
                c.loop-i-test.true (c.sector_at-sector.ensures low c.loop-i-test.true) (p low).1 (q (p low).0).1,
          ));
    }

pub returns-in_err-put_sector : goal.returns-in_err-put_sector
returns-in_err-put_sector g c =
    let l = c.loop-i in
    let run = c.args.run.now in
    let sums : Option TreeRoot = tree_behind c.args.sums in
    let sector = c.sector_at-sector.result.addr in
    let stopped : Result (Unit {0}) Stop = Err c.in_err-put_sector.field-0.0 in
    record {
      ahead = c.in_err-put_sector.ensures.ahead;
      ran = rw (stop_is c.from_residual.result c.from_residual.ensures.1)
          (ran_then {A = Unit {0}} {C = Unit {0}}
          (λ fs. run_end run < 2 ^ 64 → IsSummed fs.blocks sums l.ahead × Adds
          (filter_map (data_lost fs sums) (take l.i (run_sectors run))) c.args.found.now l.found)
          (λ fs. KeepsSums fs sums l.ahead c.put_sector.new.ahead
          (Unless (λ u. Adds (option_to_list (data_lost fs sums sector)) l.found c.put_sector.new.found) stopped))
          (λ fs. run_end run < 2 ^ 64 → Unless (λ u. Adds (filter_map (data_lost fs sums) (run_sectors run)) c.args.found.now c.put_sector.new.found) stopped)
          (world (g.R.Rack.seen c.args.rack.now) c.args.vol.now) (world (g.R.Rack.seen l.rack) l.vol)
          (world (g.R.Rack.seen c.put_sector.new.rack) c.put_sector.new.vol) tt stopped l.invariant.ran c.in_err-put_sector.ensures.ran
          (λ B p q low. (q (p low).0).1)
          (λ B p want w low. (
            sector,
            sector_in run l.i sector c.loop-i-test.true (c.sector_at-sector.ensures low c.loop-i-test.true),
            w (p low).0,
          )));
    }

pub returns : goal.returns
returns g c =
    let l = c.loop-i in
    let run = c.args.run.now in
    let sums : Option TreeRoot = tree_behind c.args.sums in
    record {
      ahead = l.invariant.ahead;
      ran = ran_value {A = Unit {0}} {C = Unit {0}} (λ fs. run_end run < 2 ^ 64 → IsSummed fs.blocks sums l.ahead
          × Adds (filter_map (data_lost fs sums) (take l.i (run_sectors run))) c.args.found.now l.found)
          (λ fs. run_end run < 2 ^ 64 → Adds (filter_map (data_lost fs sums) (run_sectors run)) c.args.found.now l.found)
          (world (g.R.Rack.seen c.args.rack.now) c.args.vol.now) (world (g.R.Rack.seen l.rack) l.vol) tt tt l.invariant.ran
          (λ B p low. run_all (filesystem c.args.vol.now B) sums run l.i c.args.found.now l.found c.loop-i-test.false (p low).1);
    }
