use Rattle.btr_resolve.specs.Cursor.{AreOwners, rank_of_owners}
use Rattle.btr_volume.specs.Readable.{CanRead}
use Rattle.btr_resolve.specs.Running.{world}
use Rattle.btr_resolve.proofs.Tellings.{LeadsFrom}
use Rattle.btr_resolve.proofs.telling.tell_owners.Given as goal

abbrev pub invariant-loop-fault : goal.invariant-loop-fault
invariant-loop-fault g l = record {
  ready : CanRead 4 (g.R.Rack.seen l.rack) l.vol;
  owners : AreOwners l.owners;
  leads : LeadsFrom l.addr l.tree l.fn.report.count l.report.count l.owners
      (world (g.R.Rack.seen l.fn.rack) l.fn.vol (g.O.Out.text l.fn.out) (g.O.Out.account l.fn.out))
      (world (g.R.Rack.seen l.rack) l.vol (g.O.Out.text l.out) (g.O.Out.account l.out));
}

abbrev pub decreases-loop-fault : goal.decreases-loop-fault
decreases-loop-fault g l = rank_of_owners l.owners
