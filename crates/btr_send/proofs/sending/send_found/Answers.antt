use Rattle.std.proofs.Common.{refl, sym, ◌∙◌}
use Rattle.btr_volume.specs.Tree.{tree_of}
use Rattle.btr_restore.specs.Running.{outside_of}
use Rattle.btr_restore.proofs.Rans.{look_halt, look_then, ran_passed}
use Rattle.btr_send.specs.Sending.{sent}
use Rattle.btr_send.proofs.sending.send_found.Goals as goal

pub send_source-requires-clause-ready : goal.send_source-requires-clause-ready
send_source-requires-clause-ready g c = (c.find_tree.ensures (outside_of g.T.TreeSink.sink g.T.TreeSink.account g.O.Out.text g.O.Out.account
    c.args.ends.now.tree.now c.args.ends.now.out.now) c.args.ends.now.vol.now.sup refl).ready

pub returns-in_err-sums-clause-ran : goal.returns-in_err-sums-clause-ran
returns-in_err-sums-clause-ran g c s e =
    ran_passed _ c.from_residual.ensures.1
    (look_halt (tree_of s 7) (sent c.args.file.now.dest.now c.args.file.now.name.now s c.args.source.now) _ _ _ c.in_err-sums.field-0.0
    (c.find_tree.ensures _ s e) (c.in_err-sums.was {u = tt}))

pub returns-clause-ran : goal.returns-clause-ran
returns-clause-ran g c s e =
    let h = c.find_tree.ensures (outside_of g.T.TreeSink.sink g.T.TreeSink.account g.O.Out.text g.O.Out.account c.args.ends.now.tree.now
    c.args.ends.now.out.now) s e in
    look_then (tree_of s 7) (sent c.args.file.now.dest.now c.args.file.now.name.now s c.args.source.now) _ _ _ _ c.in_ok-sums.sums _ h
    (c.in_ok-sums.was {u = tt})
    (c.send_source.ensures.ran s (e ∙ sym h.volume.sup))
