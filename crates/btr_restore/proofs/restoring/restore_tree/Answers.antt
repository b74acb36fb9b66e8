use Rattle.std.proofs.Common.{refl, sym, ◌∙◌}
use Rattle.btr_restore.specs.Journey.{restored, sums_lookup}
use Rattle.btr_restore.specs.Running.{outside_of}
use Rattle.btr_restore.proofs.Rans.{look_halt, look_then, ran_passed}
use Rattle.btr_restore.proofs.restoring.restore_tree.Goals as goal

pub list_into-requires-clause-ready : goal.list_into-requires-clause-ready
list_into-requires-clause-ready g c = (c.find_sums.ensures (outside_of g.T.TreeSink.sink g.T.TreeSink.account g.O.Out.text g.O.Out.account
    c.args.ends.now.tree.now c.args.ends.now.out.now) c.args.ends.now.vol.now.sup refl).ready

pub returns-in_err-sums-clause-ran : goal.returns-in_err-sums-clause-ran
returns-in_err-sums-clause-ran g c s e =
    ran_passed _ c.from_residual.ensures.1
    (look_halt (sums_lookup c.args.plan.now s) (restored c.args.plan.now c.args.dest.now s c.args.root.now) _ _ _ c.in_err-sums.field-0.0
    (c.find_sums.ensures _ s e) (c.in_err-sums.was {u = tt}))

pub returns-clause-ran : goal.returns-clause-ran
returns-clause-ran g c s e =
    let h = c.find_sums.ensures (outside_of g.T.TreeSink.sink g.T.TreeSink.account g.O.Out.text g.O.Out.account c.args.ends.now.tree.now
    c.args.ends.now.out.now) s e in
    look_then (sums_lookup c.args.plan.now s) (restored c.args.plan.now c.args.dest.now s c.args.root.now) _ _ _ _ c.in_ok-sums.sums _ h
    (c.in_ok-sums.was {u = tt}) (c.list_into.ensures.ran s (e ∙ sym h.volume.sup))
