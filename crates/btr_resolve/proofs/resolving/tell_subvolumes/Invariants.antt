use Rattle.std.proofs.Common.{◌≡◌, drop}
use Rattle.btr_super.specs.declared.superblock.Super.{Super}
use Rattle.btr_resolve.specs.Resolving.{subvolumes_told}
use Rattle.btr_volume.specs.Readable.{CanRead}
use Rattle.btr_resolve.specs.Running.{world}
use Rattle.btr_resolve.proofs.Upward.{Leads}
use Rattle.btr_resolve.proofs.resolving.tell_subvolumes.Given as goal

abbrev pub invariant-loop-id : goal.invariant-loop-id
invariant-loop-id g l = record {
  ready : CanRead 4 (g.R.Rack.seen l.rack) l.vol;
  sup : l.vol.sup ≡ l.fn.vol.sup;
  leads : (s : Super) → s ≡ l.fn.vol.sup
      → Leads (subvolumes_told s l.addr l.fn.report.count l.ids) (subvolumes_told s l.addr l.report.count (drop l.id-index l.ids))
      (world (g.R.Rack.seen l.fn.rack) l.fn.vol (g.O.Out.text l.fn.out) (g.O.Out.account l.fn.out))
      (world (g.R.Rack.seen l.rack) l.vol (g.O.Out.text l.out) (g.O.Out.account l.out));
}
