use Rattle.std.proofs.Common.{IfSome, None, sym, subst}
use Rattle.btr_read.specs.Store.{SameLoans}
use Rattle.btr_walk.specs.Hand.{loan_of, IsInHand}
use Rattle.btr_walk.specs.Lending.{base}
use Rattle.btr_walk.specs.Reading.{unread_by}
use Rattle.btr_walk.proofs.Joined.{drawn}
use Rattle.btr_tour.specs.Shape.{rank_on, StepRankFalls}
use Rattle.btr_tour.specs.Steps.{arrived, HasStep, AdvancesIn}
use Rattle.btr_tour.specs.TourEnds.{IsNextStep}
use Rattle.btr_tour.proofs.Nexts.{stepped}
use Rattle.btr_tour.proofs.tour.step.Goals as goal

pub advance-leaf-requires-clause-hand : goal.advance-leaf-requires-clause-hand
advance-leaf-requires-clause-hand g c = subst (λ l. IfSome l (IsInHand c.args.store.now)) (sym c.take-leaf.ensures.value) c.requires.ready.hand

pub returns-clause-ready : goal.returns-clause-ready
returns-clause-ready g c = record {
  serves = c.advance-leaf.ensures.serves;
  hand = subst (λ l. IfSome l (IsInHand c.advance-leaf.new.store)) (sym c.put_leaf.ensures) c.advance-leaf.ensures.hand;
  shaped = c.advance-leaf.ensures.shaped;
  low = tt;
}

pub returns-clause-others : goal.returns-clause-others
returns-clause-others g c =
    subst (λ l. SameLoans (base c.args.store.now (loan_of c.args.tour.now.leaf)) (base c.advance-leaf.new.store (loan_of l))) (sym c.put_leaf.ensures)
    (subst (λ l. SameLoans (base c.args.store.now (loan_of l)) (base c.advance-leaf.new.store (loan_of c.advance-leaf.result.leaf))) c.take-leaf.ensures.value
    c.advance-leaf.ensures.others)

pub returns-clause-rank_falls : goal.returns-clause-rank_falls
returns-clause-rank_falls g c =
    let place = c.args.tour.now.place in
    let a = c.advance-leaf.result in
    subst (λ l. StepRankFalls (rank_on place c.args.tour.now.leaf) (rank_on c.advance-leaf.new.place l) a.step) (sym c.put_leaf.ensures)
    (subst (λ l. StepRankFalls (rank_on place l) (rank_on c.advance-leaf.new.place a.leaf) a.step) c.take-leaf.ensures.value c.advance-leaf.ensures.rank_falls)

pub returns-clause-step : goal.returns-clause-step
returns-clause-step g c = subst (λ l. HasStep c.args.tour.now.place c.advance-leaf.new.place l c.advance-leaf.result.step) (sym c.put_leaf.ensures)
    c.advance-leaf.ensures.step

pub returns-clause-content : goal.returns-clause-content
returns-clause-content g c =
    let tour = c.args.tour.now in
    let old = c.args.store.now in
    let new = c.advance-leaf.new.store in
    let is = unread_by old.layout (g.R.Rack.seen c.args.rack.now) (g.R.Rack.seen c.advance-leaf.new.rack) in
    drawn old.layout (λ B. AdvancesIn tour.scope is B old tour.place c.take-leaf.result new (arrived c.advance-leaf.new.place c.advance-leaf.result))
    (λ B. IsNextStep is B old new tour (record {
      scope = tour.scope;
      place = c.advance-leaf.new.place;
      leaf = c.put_leaf.new.place;
      level = None;
    }) c.advance-leaf.result.step)
    (λ B h. stepped is B old new tour c.take-leaf.result c.advance-leaf.new.place c.advance-leaf.result c.put_leaf.new.place c.take-leaf.ensures.value
    c.put_leaf.ensures h) c.advance-leaf.ensures.content
