use Rattle.std.proofs.Common.{[], IfSome, sym, subst}
use Rattle.btr_walk.specs.Reading.{unread_by}
use Rattle.btr_walk.proofs.Joined.{drawn}
use Rattle.btr_tour.specs.Visits.{IsRun, Visits}
use Rattle.btr_tour.proofs.Marks.{visit_begun}
use Rattle.btr_walk.specs.Hand.{IsHeld}
use Rattle.btr_tour.proofs.visiting.visit.Goals as goal

pub returns-clause-content : goal.returns-clause-content
returns-clause-content g c =
    let is = unread_by c.args.store.now.layout (g.R.Rack.seen c.args.rack.now) (g.R.Rack.seen c.run-ended.new.rack) in
    let tour = c.new-tour.result in
    drawn c.args.store.now.layout (λ B. IsRun g.V.Visitor.step is B {E = g.row.E.Denot} c.args.store.now tour c.args.visitor.now
    c.run-ended.new.visitor c.run-ended.result)
    (λ B. Visits g.V.Visitor.step is B {E = g.row.E.Denot} c.args.root.now c.args.visitor.now c.run-ended.new.visitor c.run-ended.result)
    (λ B h. visit_begun g.row.E.Denot g.V.Visitor.step is B c.args.store.now tour c.args.root.now c.args.visitor.now c.run-ended.new.visitor
    (c.new-tour.ensures.left B c.args.store.now) (c.new-tour.ensures.on B)
    (subst (λ l. IfSome l (IsHeld B [] c.args.store.now)) (sym c.new-tour.ensures.leaf) tt) c.run-ended.result h)
    c.run-ended.ensures.content
