use Rattle.std.proofs.Common.{◌∙◌, Ok, Err, sym, subst}
use Rattle.btr_walk.specs.Reading.{unread_by}
use Rattle.btr_dump.specs.Showing.{PutsText}
use Rattle.btr_dump.proofs.Endings.{finish_cut, finish_refused}
use Rattle.btr_dump.proofs.Growing.{grows_none, puts_grow}
use Rattle.btr_dump.proofs.ending.finish.Goals as goal

pub returns-then-is_cut-clause-text : goal.returns-then-is_cut-clause-text
returns-then-is_cut-clause-text g c = λ layout before now r begun w.
    finish_cut (unread_by layout before now) r begun (g.O.Out.text c.args.out.now) c.args.text c.args.shown (sym c.is_cut.ensures ∙ c.if-is_cut.true) w

pub returns-in-Err-clause-text : goal.returns-in-Err-clause-text
returns-in-Err-clause-text g c = λ layout before now r begun w.
    let t = c.in-Err.ensures.text in
    subst (λ e. PutsText (unread_by layout before now) r begun (g.O.Out.text c.flush.new.out) (Err e)) (sym c.stop_of.ensures)
    (finish_refused (unread_by layout before now) r begun (g.O.Out.text c.args.out.now) (g.O.Out.text c.flush.new.out) c.args.text c.args.shown t.0
    c.in-Err.refusal (sym c.is_cut.ensures ∙ c.if-is_cut.false) w t.1)

pub returns-then-is_cut-clause-grows : goal.returns-then-is_cut-clause-grows
returns-then-is_cut-clause-grows g c = grows_none (g.O.Out.text c.args.out.now)

pub returns-in-Ok-clause-grows : goal.returns-in-Ok-clause-grows
returns-in-Ok-clause-grows g c = puts_grow (Unit {0}) (g.O.Out.text c.args.out.now) (g.O.Out.text c.flush.new.out) c.args.text (Ok tt) c.in-Ok.ensures.text

pub returns-in-Err-clause-grows : goal.returns-in-Err-clause-grows
returns-in-Err-clause-grows g c = puts_grow (Unit {0}) (g.O.Out.text c.args.out.now) (g.O.Out.text c.flush.new.out) c.args.text (Err c.in-Err.refusal)
    c.in-Err.ensures.text
