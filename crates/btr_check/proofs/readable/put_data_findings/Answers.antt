use Rattle.std.proofs.Common.{◌≡◌, ◌+◌, ◌<◌, ◌^◌, Option, Result, Err, flat_map, take, get_or}
use Rattle.std.proofs.lemmas.List.Elements.{Contains-get_or}
use Rattle.btr_files.specs.Sums.{tree_behind}
use Rattle.btr_items.specs.declared.sum_run.SumRun.{SumRun}
use Rattle.btr_findings.specs.Findings.{Adds}
use Rattle.btr_findings.proofs.Adding.{adds_none, adds_more_of}
use Rattle.btr_check_sums.specs.Ranks.{run_end}
use Rattle.btr_volume.specs.declared.root.TreeRoot.{TreeRoot}
use Rattle.btr_volume.specs.declared.stop.Stop.{Stop}
use Rattle.btr_check.specs.Counting.{Unless}
use Rattle.btr_check.specs.Data.{data_findings, sum_runs}
use Rattle.btr_check.specs.Running.{world, filesystem}
use Rattle.btr_check.specs.Trees.{tree_of}
use Rattle.btr_check.proofs.Datas.{AreLow, run_findings, low_at, are_low, data_all}
use Rattle.btr_check.proofs.Wanting.{run_wanted}
use Rattle.btr_check.proofs.Runs.{ran_both, ran_none, ran_then, ran_value, stop_is}
use Rattle.btr_check.proofs.readable.put_data_findings.Goals as goal

pub loop-run-init : goal.loop-run-init
loop-run-init g c =
    let sums : Option TreeRoot = tree_behind c.args.sums in
    record {
      ahead = c.new-copies.ensures (g.R.Rack.seen c.args.rack.now).held;
      ran = ran_none (λ fs. AreLow c.args.runs.now → Adds (flat_map (run_findings fs sums) (take 0 c.args.runs.now)) c.args.found.now c.args.found.now)
          (world (g.R.Rack.seen c.args.rack.now) c.args.vol.now) tt c.requires.ready
          (λ B low. adds_none c.args.found.now);
    }

pub loop-run-preserved : goal.loop-run-preserved
loop-run-preserved g c =
    let l = c.loop-run in
    let list = c.args.runs.now in
    let none : SumRun = record { start = 0; count = 0 } in
    let run = get_or list l.run-index none in
    let sums : Option TreeRoot = tree_behind c.args.sums in
    record {
      ahead = c.in_ok-put_run.ensures.ahead;
      ran = ran_both {A = Unit {0}} {C = Unit {0}} (λ fs. AreLow list → Adds (flat_map (run_findings fs sums) (take l.run-index list)) c.args.found.now l.found)
          (λ fs. run_end run < 2 ^ 64 → Adds (run_findings fs sums run) l.found c.put_run.new.found)
          (λ fs. AreLow list → Adds (flat_map (run_findings fs sums) (take (l.run-index + 1) list)) c.args.found.now c.put_run.new.found)
          (world (g.R.Rack.seen c.args.rack.now) c.args.vol.now) (world (g.R.Rack.seen l.rack) l.vol)
          (world (g.R.Rack.seen c.put_run.new.rack) c.put_run.new.vol) tt tt l.invariant.ran c.in_ok-put_run.ensures.ran
          (λ B p q low. adds_more_of (run_findings (filesystem c.args.vol.now B) sums) list l.run-index none c.args.found.now l.found c.put_run.new.found
          c.loop-run-test.true (p low) (q (low_at list l.run-index none c.loop-run-test.true low)));
    }

pub returns-in_err-put_run : goal.returns-in_err-put_run
returns-in_err-put_run g c =
    let l = c.loop-run in
    let list = c.args.runs.now in
    let none : SumRun = record { start = 0; count = 0 } in
    let run = get_or list l.run-index none in
    let sums : Option TreeRoot = tree_behind c.args.sums in
    let stopped : Result (Unit {0}) Stop = Err c.in_err-put_run.field-0.0 in
    record {
      ran = rw (stop_is c.from_residual.result c.from_residual.ensures.1)
          (ran_then {A = Unit {0}} {C = Unit {0}} (λ fs. AreLow list → Adds (flat_map (run_findings fs sums) (take l.run-index list)) c.args.found.now l.found)
          (λ fs. run_end run < 2 ^ 64 → Unless (λ u. Adds (run_findings fs sums run) l.found c.put_run.new.found) stopped)
          (λ fs. list ≡ sum_runs fs → sums ≡ tree_of fs.sup fs.blocks 7 → Unless (λ u. Adds (data_findings fs) c.args.found.now c.put_run.new.found) stopped)
          (world (g.R.Rack.seen c.args.rack.now) c.args.vol.now) (world (g.R.Rack.seen l.rack) l.vol)
          (world (g.R.Rack.seen c.put_run.new.rack) c.put_run.new.vol) tt stopped l.invariant.ran c.in_err-put_run.ensures.ran
          (λ B p q is tree. q (low_at list l.run-index none c.loop-run-test.true (are_low (filesystem c.args.vol.now B) list is)))
          (λ B p want w known.
          let fs = filesystem c.args.vol.now B in
          run_wanted fs list sums run want known (Contains-get_or list l.run-index none c.loop-run-test.true)
          (w (low_at list l.run-index none c.loop-run-test.true (are_low fs list known.0)))));
    }

pub returns : goal.returns
returns g c =
    let l = c.loop-run in
    let list = c.args.runs.now in
    let sums : Option TreeRoot = tree_behind c.args.sums in
    record {
      ran = ran_value {A = Unit {0}} {C = Unit {0}}
          (λ fs. AreLow list → Adds (flat_map (run_findings fs sums) (take l.run-index list)) c.args.found.now l.found)
          (λ fs. list ≡ sum_runs fs → sums ≡ tree_of fs.sup fs.blocks 7 → Adds (data_findings fs) c.args.found.now l.found)
          (world (g.R.Rack.seen c.args.rack.now) c.args.vol.now) (world (g.R.Rack.seen l.rack) l.vol) tt tt l.invariant.ran
          (λ B p is tree. data_all (filesystem c.args.vol.now B) sums list l.run-index c.args.found.now l.found c.loop-run-test.false is tree
          (p (are_low (filesystem c.args.vol.now B) list is)));
    }
