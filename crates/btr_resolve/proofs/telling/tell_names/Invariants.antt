use Rattle.std.proofs.Common.{◌≡◌, ◌-◌, drop, length}
use Rattle.btr_resolve.specs.Resolving.{each_told}
use Rattle.btr_volume.specs.Readable.{CanRead}
use Rattle.btr_resolve.specs.Running.{world}
use Rattle.btr_resolve.proofs.Upward.{Leads}
use Rattle.btr_resolve.proofs.telling.tell_names.Given as goal

abbrev pub invariant-loop-at : goal.invariant-loop-at
invariant-loop-at g l = record {
  ready : CanRead 4 (g.R.Rack.seen l.rack) l.vol;
  names : l.report.names ≡ l.fn.report.names;
  leads : Leads (each_told l.owner l.fn.report.count l.fn.report.names) (each_told l.owner l.report.count (drop l.at l.fn.report.names))
      (world (g.R.Rack.seen l.fn.rack) l.fn.vol (g.O.Out.text l.fn.out) (g.O.Out.account l.fn.out))
      (world (g.R.Rack.seen l.rack) l.vol (g.O.Out.text l.out) (g.O.Out.account l.out));
}

abbrev pub decreases-loop-at : goal.decreases-loop-at
decreases-loop-at g l = length l.report.names - l.at
