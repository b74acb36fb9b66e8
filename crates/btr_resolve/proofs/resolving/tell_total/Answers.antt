use Rattle.std.proofs.Common.{Err, sym, subst}
use Rattle.btr_prog.specs.Prog.{Emit, Return}
use Rattle.btr_resolve.specs.Lines.{total_line}
use Rattle.btr_resolve.specs.Running.{Ran, world}
use Rattle.btr_resolve.proofs.Rans.{ran_line, ran_broken}
use Rattle.btr_resolve.proofs.resolving.tell_total.Goals as goal

pub returns-in-Ok : goal.returns-in-Ok
returns-in-Ok g c rack vol ready = ran_line (total_line c.args.count) rack vol ready _ _ _ _ c.args.count c.in-Ok.ensures.text c.in-Ok.ensures.account

pub returns-in-Err : goal.returns-in-Err
returns-in-Err g c rack vol ready =
    subst
    (λ s. Ran (Emit (total_line c.args.count) (Return c.args.count)) (world rack vol (g.O.Out.text c.args.out.now) (g.O.Out.account c.args.out.now))
    (world rack vol (g.O.Out.text c.put_total.new.out) (g.O.Out.account c.put_total.new.out)) (Err s))
    (sym c.out_stop.ensures)
    (ran_broken (total_line c.args.count) rack vol ready _ _ _ _
    (Return c.args.count) c.in-Err.refusal c.in-Err.ensures.text c.in-Err.ensures.account)
