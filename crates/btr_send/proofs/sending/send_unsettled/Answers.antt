use Rattle.std.proofs.Common.{Ok, Some, None, refl, sym, ap, ◌∙◌}
use Rattle.btr_restore.specs.Running.{outside_of}
use Rattle.btr_restore.proofs.Rans.{look_halt, look_then, ran_memory, ran_no_tree, ran_passed}
use Rattle.btr_send.proofs.sending.send_unsettled.Goals as goal

pub returns-in-Err-clause-ran : goal.returns-in-Err-clause-ran
returns-in-Err-clause-ran g c = ran_memory _ _ _ _ c.requires.ready

pub returns-in-Err-new-clause-ran : goal.returns-in-Err-new-clause-ran
returns-in-Err-new-clause-ran g c = ran_memory _ _ _ _ c.requires.ready

pub returns-in-Err-free_dirs-clause-ran : goal.returns-in-Err-free_dirs-clause-ran
returns-in-Err-free_dirs-clause-ran g c = ran_memory _ _ _ _ c.requires.ready

pub returns-in_err-find_source-clause-ran : goal.returns-in_err-find_source-clause-ran
returns-in_err-find_source-clause-ran g c =
    ran_passed _ c.from_residual.ensures.1
    (look_halt _ _ _ _ _ c.in_err-find_source.field-0.0 (c.find_source.ensures _ c.args.ends.now.vol.now.sup refl) (c.in_err-find_source.was {u = tt}))

pub returns-in-None-clause-ran : goal.returns-in-None-clause-ran
returns-in-None-clause-ran g c =
    let h = c.find_source.ensures (outside_of g.T.TreeSink.sink g.T.TreeSink.account g.O.Out.text g.O.Out.account c.args.ends.now.tree.now
    c.args.ends.now.out.now) c.args.ends.now.vol.now.sup refl in
    look_then _ _ _ _ _ _ None _ h (c.in_ok-find_source.was {u = tt} ∙ ap Ok c.in-None.is) (ran_no_tree c.args.plan.now.root _ h.ready)

pub send_found-requires-clause-ready : goal.send_found-requires-clause-ready
send_found-requires-clause-ready g c = (c.find_source.ensures (outside_of g.T.TreeSink.sink g.T.TreeSink.account g.O.Out.text g.O.Out.account
    c.args.ends.now.tree.now c.args.ends.now.out.now) c.args.ends.now.vol.now.sup refl).ready

pub returns-in-Some-clause-ran : goal.returns-in-Some-clause-ran
returns-in-Some-clause-ran g c =
    let h = c.find_source.ensures (outside_of g.T.TreeSink.sink g.T.TreeSink.account g.O.Out.text g.O.Out.account c.args.ends.now.tree.now
    c.args.ends.now.out.now) c.args.ends.now.vol.now.sup refl in
    look_then _ _ _ _ _ _ (Some c.in-Some.source) _ h (c.in_ok-find_source.was {u = tt} ∙ ap Ok c.in-Some.is)
    (c.send_found.ensures.ran c.args.ends.now.vol.now.sup
    (sym h.volume.sup))
