use Rattle.std.proofs.Common.{Ok, Some, None, refl, sym, ap, ◌∙◌}
use Rattle.btr_restore.specs.Running.{outside_of}
use Rattle.btr_restore.proofs.Rans.{ran_no_tree}
use Rattle.btr_salvage.proofs.Rans.{finds_halt, finds_then, ran_memory, ran_of, ran_passed}
use Rattle.btr_salvage.proofs.salvaging.salvage_unsettled.Goals as goal

pub returns-in-Err-clause-ran : goal.returns-in-Err-clause-ran
returns-in-Err-clause-ran g c = ran_memory _ _ _ _ c.requires.ready

pub returns-in-Err-free_folders-clause-ran : goal.returns-in-Err-free_folders-clause-ran
returns-in-Err-free_folders-clause-ran g c = ran_memory _ _ _ _ c.requires.ready

pub returns-in_err-find_tree-clause-ran : goal.returns-in_err-find_tree-clause-ran
returns-in_err-find_tree-clause-ran g c =
    ran_passed _ c.from_residual.ensures.1
    (finds_halt _ _ _ _ _ c.in_err-find_tree.field-0.0 (c.find_tree.ensures _ c.args.ends.now.vol.now.sup refl) (c.in_err-find_tree.was {u = tt}))

pub returns-in-None-clause-ran : goal.returns-in-None-clause-ran
returns-in-None-clause-ran g c =
    let h = c.find_tree.ensures (outside_of g.T.TreeSink.sink g.T.TreeSink.account g.O.Out.text g.O.Out.account c.args.ends.now.tree.now
    c.args.ends.now.out.now) c.args.ends.now.vol.now.sup refl in
    finds_then _ _ _ _ _ _ None _ h (c.in_ok-find_tree.was {u = tt} ∙ ap Ok c.in-None.is) (ran_of _ _ _ _ (ran_no_tree c.args.plan.now.root _ h.ready))

pub salvage_tree-requires-clause-ready : goal.salvage_tree-requires-clause-ready
salvage_tree-requires-clause-ready g c =
    (c.find_tree.ensures (outside_of g.T.TreeSink.sink g.T.TreeSink.account g.O.Out.text g.O.Out.account c.args.ends.now.tree.now c.args.ends.now.out.now)
    c.args.ends.now.vol.now.sup refl).ready

pub returns-clause-ran : goal.returns-clause-ran
returns-clause-ran g c =
    let h = c.find_tree.ensures (outside_of g.T.TreeSink.sink g.T.TreeSink.account g.O.Out.text g.O.Out.account c.args.ends.now.tree.now
    c.args.ends.now.out.now) c.args.ends.now.vol.now.sup refl in
    finds_then _ _ _ _ _ _ (Some c.in-Some.root) _ h (c.in_ok-find_tree.was {u = tt} ∙ ap Ok c.in-Some.is)
    (c.salvage_tree.ensures.ran c.args.ends.now.vol.now.sup (sym h.volume.sup))
