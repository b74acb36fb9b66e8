use Rattle.std.proofs.Common.{refl, sym, get_or, ◌∙◌}
use Rattle.btr_resolve.specs.Resolving.{subvolumes_told}
use Rattle.btr_resolve.specs.Running.{world}
use Rattle.btr_resolve.proofs.Namings.{ids_end, ids_more, ids_stop}
use Rattle.btr_resolve.proofs.Rans.{counted_passed, ran_passed}
use Rattle.btr_resolve.proofs.resolving.tell_subvolumes.Goals as goal

pub returns-in_err-tell_subvolume : goal.returns-in_err-tell_subvolume
returns-in_err-tell_subvolume g c s same =
    ran_passed _ (counted_passed _ _ _ c.from_residual.ensures.1)
    (let f = c.loop-id in
    let ids = c.args.ids.now in
    let y = world (g.R.Rack.seen f.rack) f.vol (g.O.Out.text f.out) (g.O.Out.account f.out) in
    let z = world (g.R.Rack.seen c.tell_subvolume.new.rack) c.tell_subvolume.new.vol (g.O.Out.text c.tell_subvolume.new.out)
    (g.O.Out.account c.tell_subvolume.new.out) in
    ids_stop s c.args.addr ids f.id-index f.report.count (subvolumes_told s c.args.addr c.args.report.now.count ids) _ y z
    (f.invariant.leads s same) (get_or ids f.id-index 0) c.loop-id-test.true refl c.in_err-tell_subvolume.field-0.0
    (c.in_err-tell_subvolume.ensures s (same ∙ sym f.invariant.sup)))

pub loop-id-preserved : goal.loop-id-preserved
loop-id-preserved g c =
    let f = c.loop-id in
    let ids = c.args.ids.now in
    let y = world (g.R.Rack.seen f.rack) f.vol (g.O.Out.text f.out) (g.O.Out.account f.out) in
    let z = world (g.R.Rack.seen c.tell_subvolume.new.rack) c.tell_subvolume.new.vol (g.O.Out.text c.tell_subvolume.new.out)
    (g.O.Out.account c.tell_subvolume.new.out) in
    let told = c.in_ok-tell_subvolume.ensures f.vol.sup refl in
    record {
      ready = told.ready;
      sup = told.volume.sup ∙ f.invariant.sup;
      leads = λ s same. ids_more s c.args.addr ids f.id-index f.report.count
          (subvolumes_told s c.args.addr c.args.report.now.count ids) _ y z (f.invariant.leads s same)
          (get_or ids f.id-index 0) c.loop-id-test.true refl c.tell_subvolume.new.report.count (c.in_ok-tell_subvolume.ensures s (same ∙ sym f.invariant.sup));
    }

pub returns : goal.returns
returns g c s same =
    let f = c.loop-id in
    let ids = c.args.ids.now in
    let y = world (g.R.Rack.seen f.rack) f.vol (g.O.Out.text f.out) (g.O.Out.account f.out) in
    ids_end s c.args.addr ids f.id-index f.report.count (subvolumes_told s c.args.addr c.args.report.now.count ids) _ y y
    (f.invariant.leads s same) f.invariant.ready c.loop-id-test.false
