use Rattle.std.proofs.Common.{Err, sym, subst}
use Rattle.btr_prog.specs.Prog.{exec}
use Rattle.btr_text.specs.Pieces.{text_of}
use Rattle.btr_walk.specs.Reading.{unread_by}
use Rattle.btr_dump.specs.Pieces.{piece}
use Rattle.btr_dump.specs.Showing.{ShowsText}
use Rattle.btr_dump.proofs.Rooting.{piece_cut}
use Rattle.btr_dump.proofs.lines.write_line.Goals as goal

pub returns-in-Err-clause-text : goal.returns-in-Err-clause-text
returns-in-Err-clause-text g c = λ layout before now seen B.
    let old = g.O.Out.text c.args.out.now in
    let new = g.O.Out.text c.push_all.new.out in
    let t = text_of c.args.line.now in
    subst (λ e. ShowsText {A = Unit {0}} (unread_by layout before now) seen (exec B (piece t)) old new c.args.text.now c.push_all.new.self (Err e))
    (sym c.stop_of.ensures)
    (piece_cut (unread_by layout before now) seen B t old new c.args.text.now c.push_all.new.self c.in-Err.refusal c.in-Err.ensures.text)
