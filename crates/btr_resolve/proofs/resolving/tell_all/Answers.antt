use Rattle.btr_resolve.specs.Running.{world}
use Rattle.btr_resolve.proofs.Resolved.{all_halt, all_then}
use Rattle.btr_resolve.proofs.Rans.{ran_passed}
use Rattle.btr_resolve.proofs.resolving.tell_all.Goals as goal

pub returns : goal.returns
returns g c s same =
    let y = world (g.R.Rack.seen c.tell_subvolumes.new.rack) c.tell_subvolumes.new.vol (g.O.Out.text c.tell_subvolumes.new.out)
    (g.O.Out.account c.tell_subvolumes.new.out) in
    let z = world (g.R.Rack.seen c.tell_subvolumes.new.rack) c.tell_subvolumes.new.vol (g.O.Out.text c.tell_total.new.out)
    (g.O.Out.account c.tell_total.new.out) in
    let told = c.in_ok-tell_subvolumes.ensures s same in
    all_then s c.args.addr c.args.ids.now c.new-report.result.count c.new-report.ensures _ y c.tell_subvolumes.new.report.count
    z c.tell_total.result told
    (c.tell_total.ensures (g.R.Rack.seen c.tell_subvolumes.new.rack) c.tell_subvolumes.new.vol told.ready)

pub returns-in_err-tell_subvolumes : goal.returns-in_err-tell_subvolumes
returns-in_err-tell_subvolumes g c s same =
    ran_passed _ c.from_residual.ensures.1
    (all_halt s c.args.addr c.args.ids.now c.new-report.result.count c.new-report.ensures _ _ c.in_err-tell_subvolumes.field-0.0
    (c.in_err-tell_subvolumes.ensures s same))
