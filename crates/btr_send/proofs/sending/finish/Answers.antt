use Rattle.btr_send.proofs.Putting.{step_halt, step_then}
use Rattle.btr_restore.proofs.Rans.{wrote_passed}
use Rattle.btr_send.proofs.sending.finish.Goals as goal

pub returns-in_err-put_end : goal.returns-in_err-put_end
returns-in_err-put_end g c =
    wrote_passed _ c.from_residual.ensures.1
    (step_halt _ _ _ _ _ (c.in_err-put_end.ensures.wrote (g.O.Out.text c.args.out.now) (g.O.Out.account c.args.out.now)))

pub returns-in_err-finish_file : goal.returns-in_err-finish_file
returns-in_err-finish_file g c =
    wrote_passed _ c.from_residual-in_err-finish_file.ensures.1
    (step_then _ _ _ _ _ _ (c.in_ok-put_end.ensures.wrote (g.O.Out.text c.args.out.now) (g.O.Out.account c.args.out.now))
    (step_halt _ _ _ _ _ (c.in_err-finish_file.ensures (g.O.Out.text c.args.out.now) (g.O.Out.account c.args.out.now))))

pub returns : goal.returns
returns g c =
    step_then _ _ _ _ _ _ (c.in_ok-put_end.ensures.wrote (g.O.Out.text c.args.out.now) (g.O.Out.account c.args.out.now))
    (step_then _ _ _ _ _ _ (c.in_ok-finish_file.ensures (g.O.Out.text c.args.out.now) (g.O.Out.account c.args.out.now))
    (c.tell_counts.ensures _ _))
