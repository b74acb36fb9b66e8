use Rattle.std.proofs.Common.{Ok, Err, ap, ◌∙◌, subst, false, refl}
use Rattle.btr_base.specs.declared.memory.Memory.{Memory}
use Rattle.btr_walk.specs.Reading.{unread_by}
use Rattle.btr_walk.specs.declared.folder.FoldFault.TheVariants.{Tree}
use Rattle.btr_walk.proofs.Joined.{drawn}
use Rattle.btr_tour.specs.TourEnds.{IsNextMark}
use Rattle.btr_tour.specs.Visits.{IsMet}
use Rattle.btr_tour.proofs.Marks.{met_some}
use Rattle.btr_check_differences.proofs.touring.meet_next.Goals as goal

pub returns-in-Err-clause-content : goal.returns-in-Err-clause-content
returns-in-Err-clause-content g c =
    let is = unread_by c.args.store.now.layout (g.R.Rack.seen c.args.rack.now) (g.R.Rack.seen c.next.new.rack) in
    let new = c.next.follows.lender-at-none in
    drawn c.args.store.now.layout (λ B. IsNextMark is B c.args.store.now new c.args.tour.now c.next.new.tour c.next.result)
    (λ B. IsMet g.V.Visitor.step is B {E = Memory} c.args.store.now new c.args.tour.now c.next.new.tour c.args.visitor.now c.args.visitor.now
    (Err (Tree c.in-Err.fault)))
    (λ B h seen on held. ((subst (λ r. IsNextMark is B c.args.store.now new c.args.tour.now c.next.new.tour r) c.in-Err.is h seen on held).refused, refl))
    c.next.follows.holds-at-none.content

pub returns-in-Ok-None-clause-content : goal.returns-in-Ok-None-clause-content
returns-in-Ok-None-clause-content g c =
    let is = unread_by c.args.store.now.layout (g.R.Rack.seen c.args.rack.now) (g.R.Rack.seen c.next.new.rack) in
    let new = c.next.follows.lender-at-none in
    drawn c.args.store.now.layout (λ B. IsNextMark is B c.args.store.now new c.args.tour.now c.next.new.tour c.next.result)
    (λ B. IsMet g.V.Visitor.step is B {E = Memory} c.args.store.now new c.args.tour.now c.next.new.tour c.args.visitor.now c.args.visitor.now (Ok false))
    (λ B h seen on held. (
      subst (λ r. IsNextMark is B c.args.store.now new c.args.tour.now c.next.new.tour r)
          (c.in-Ok-None.is ∙ ap Ok c.in-Ok-None.field-0-is) h seen on held,
      refl,
    ))
    c.next.follows.holds-at-none.content

pub returns-in-Ok-Some-clause-content : goal.returns-in-Ok-Some-clause-content
returns-in-Ok-Some-clause-content g c =
    let is = unread_by c.args.store.now.layout (g.R.Rack.seen c.args.rack.now) (g.R.Rack.seen c.next.new.rack) in
    let new = c.next.follows.lender-at-none in
    drawn c.args.store.now.layout (λ B. IsNextMark is B c.args.store.now new c.args.tour.now c.next.new.tour c.next.result)
    (λ B. IsMet g.V.Visitor.step is B {E = Memory} c.args.store.now new c.args.tour.now c.next.new.tour c.args.visitor.now
    c.take_met.new.visitor c.take_met.result)
    (λ B h seen on held. met_some is B seen c.args.store.now new c.args.tour.now c.next.new.tour c.next.ensures.scope g.V.Visitor.step
    c.args.visitor.now c.take_met.new.visitor {E = Memory} c.in-Ok-Some.met c.take_met.result c.take_met.ensures
    (subst (λ r. IsNextMark is B c.args.store.now new c.args.tour.now c.next.new.tour r) (c.in-Ok-Some.is ∙ ap Ok c.in-Ok-Some.field-0-is) h seen on held))
    c.next.follows.holds-at-none.content
