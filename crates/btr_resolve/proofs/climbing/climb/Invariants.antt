use Rattle.std.proofs.Common.{List, ℕ, Option}
use Rattle.btr_prog.specs.Quiet.{quiet}
use Rattle.btr_rack.specs.Out.{CallAccount}
use Rattle.btr_resolve.specs.Climbing.{led}
use Rattle.btr_volume.specs.Readable.{CanRead}
use Rattle.btr_resolve.specs.Running.{world}
use Rattle.btr_resolve.proofs.Upward.{Leads}
use Rattle.btr_resolve.proofs.climbing.climb.Given as goal

abbrev pub invariant-loop-dir : goal.invariant-loop-dir
invariant-loop-dir g l = record {
  ready : CanRead 4 (g.R.Rack.seen l.rack) l.vol;
  leads : (text : Option (List ℕ)) (calls : CallAccount)
      → Leads (quiet (led 512 l.tree l.fn.dir l.fn.path)) (quiet (led l.left l.tree l.dir l.path))
      (world (g.R.Rack.seen l.fn.rack) l.fn.vol text calls) (world (g.R.Rack.seen l.rack) l.vol text calls);
}

abbrev pub decreases-loop-dir : goal.decreases-loop-dir
decreases-loop-dir g l = l.left
