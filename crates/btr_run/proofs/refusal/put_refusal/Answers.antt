use Rattle.std.proofs.Common.{sym, subst}
use Rattle.btr_rack.specs.Out.{Adds}
use Rattle.btr_text.proofs.Writing.{adds_nothing}
use Rattle.btr_run.specs.Answers.{error_line}
use Rattle.btr_run.specs.declared.answer.Answer.{Answer}
use Rattle.btr_run.proofs.refusal.put_refusal.Goals as goal

pub returns-in-Done-clause-text : goal.returns-in-Done-clause-text
returns-in-Done-clause-text g c =
    subst (λ (answer : Answer). Adds (g.O.Out.text c.args.out.now) (g.O.Out.text c.args.out.now) (error_line answer)) (sym c.in-Done.is)
    (adds_nothing (g.O.Out.text c.args.out.now))
