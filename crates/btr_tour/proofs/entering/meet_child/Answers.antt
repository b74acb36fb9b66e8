use Rattle.std.proofs.Common.{◌+◌, ◌∙◌, List, IfSome, ap, Ok, Err, None, Some, sym, subst}
use Rattle.btr_read.specs.declared.want.Want.{Want}
use Rattle.btr_walk.specs.Again.{Rereads}
use Rattle.btr_walk.specs.Reading.{CauseOf, unread_by}
use Rattle.btr_read.specs.Store.{SameLoans}
use Rattle.btr_walk.specs.Lending.{base}
use Rattle.btr_tour.specs.Shape.{rank_on, StepRankFalls}
use Rattle.btr_walk.specs.declared.place.RootPlace.{RootPlace}
use Rattle.btr_walk.specs.declared.going.Where.{Where}
use Rattle.btr_tour.specs.Tour.{Child}
use Rattle.btr_tour.specs.Steps.{Arrived, arrived, HasStep, Advances, Meets, StepCause}
use Rattle.btr_tour.specs.Place.{place_left}
use Rattle.btr_walk.proofs.Joined.{drawn}
use Rattle.btr_tour.proofs.Enters.{frame_here, meets_child, child_fault, low_wanted, out_shaped, out_step, out_leaf, out_cause}
use Rattle.btr_tour.proofs.Ranking.{child_rank_falls, gone_shaped, gone_out}
use Rattle.btr_walk.specs.Going.{IsAlong}
use Rattle.btr_walk.specs.Hand.{IsInHand, loan_of}
use Rattle.btr_walk.specs.Ranks.{IsShaped}
use Rattle.btr_tour.proofs.entering.meet_child.Goals as goal

pub returns-in-Err-clause-rank_falls : goal.returns-in-Err-clause-rank_falls
returns-in-Err-clause-rank_falls g c =
    let place = c.args.place.now in
    subst (λ (a : Arrived). StepRankFalls (rank_on place None) (rank_on a.place a.leaf) a.step) (sym c.left_out.ensures)
    (gone_out place c.args.low.now c.requires.todo c.requires.low c.requires.shaped c.set_frame.new.path c.in-Err.fault c.set_frame.ensures.set)

pub returns-in-Err-clause-shaped : goal.returns-in-Err-clause-shaped
returns-in-Err-clause-shaped g c =
    let place = c.args.place.now in
    let after : Where = record { path = c.set_frame.new.path; todo = None } in
    subst (λ (a : Arrived). IsShaped a.place) (sym c.left_out.ensures)
    (out_shaped place after c.in-Err.fault c.requires.shaped
    (gone_shaped place c.args.low.now c.requires.todo c.requires.low c.requires.shaped c.set_frame.new.path c.set_frame.ensures.set))

pub returns-in-Err-clause-step : goal.returns-in-Err-clause-step
returns-in-Err-clause-step g c =
    let place = c.args.place.now in
    subst (λ (a : Arrived). HasStep place a.place a.leaf a.step) (sym c.left_out.ensures)
    (out_step place (record { path = c.set_frame.new.path; todo = None }) c.in-Err.fault)

pub returns-in-Err-clause-others : goal.returns-in-Err-clause-others
returns-in-Err-clause-others g c =
    let none = ap (λ (a : Arrived). a.leaf) c.left_out.ensures ∙ out_leaf c.args.place.now
    (record { path = c.set_frame.new.path; todo = None }) c.in-Err.fault in
    subst (λ l. SameLoans c.args.store.now (base c.read_again.new.store (loan_of l))) (sym none) c.in-Err.ensures.store

pub returns-in-Err-clause-hand : goal.returns-in-Err-clause-hand
returns-in-Err-clause-hand g c =
    let none = ap (λ (a : Arrived). a.leaf) c.left_out.ensures ∙ out_leaf c.args.place.now
    (record { path = c.set_frame.new.path; todo = None }) c.in-Err.fault in
    subst (λ l. IfSome l (IsInHand c.read_again.new.store)) (sym none) tt

pub returns-in-Err-clause-content : goal.returns-in-Err-clause-content
returns-in-Err-clause-content g c =
    let is = unread_by c.args.store.now.layout (g.R.Rack.seen c.args.rack.now) (g.R.Rack.seen c.read_again.new.rack) in
    let lo = c.args.scope.now.lo in
    let hi = c.args.scope.now.hi in
    let sums = c.args.scope.now.sums in
    let place = c.args.place.now in
    let low = c.args.low.now in
    let store = c.read_again.new.store in
    drawn c.args.store.now.layout (λ B. Rereads is B (low.at + 1) low.frame (Err c.in-Err.fault))
    (λ B. Advances lo hi B is (λ seen. Unit {0}) sums place (place_left lo hi B place) store (arrived c.left_out.new.place c.left_out.result))
    (λ B h. subst (Advances lo hi B is (λ seen. Unit {0}) sums place (place_left lo hi B place) store) (sym c.left_out.ensures)
    (child_fault lo hi B place low c.requires.todo c.requires.low c.requires.shaped is sums
    (record { path = c.set_frame.new.path; todo = None }) store c.in-Err.fault h)) c.in-Err.ensures.content

pub returns-in-Err-clause-cause : goal.returns-in-Err-clause-cause
returns-in-Err-clause-cause g c =
    let layout = c.args.store.now.layout in
    let before = g.R.Rack.seen c.args.rack.now in
    let now = g.R.Rack.seen c.read_again.new.rack in
    let place = c.args.place.now in
    subst (λ (a : Arrived). StepCause layout before now place a.step) (sym c.left_out.ensures)
    (out_cause layout before now place (record { path = c.set_frame.new.path; todo = None }) c.in-Err.fault
    (low_wanted place c.args.low.now (λ want. CauseOf layout want before now c.in-Err.fault) c.requires.todo c.requires.low c.in-Err.ensures.of_want))

pub returns-in-Some-clause-rank_falls : goal.returns-in-Some-clause-rank_falls
returns-in-Some-clause-rank_falls g c =
    (child_rank_falls c.args.place.now c.args.low.now c.requires.todo c.requires.low c.requires.shaped c.in-Ok.below c.in-Some.todo
    c.set_frame-in-Ok.new.path c.in-Ok.ensures.next c.in-Some.is c.set_frame-in-Ok.ensures.set).1

pub returns-in-Some-clause-shaped : goal.returns-in-Some-clause-shaped
returns-in-Some-clause-shaped g c =
    (child_rank_falls c.args.place.now c.args.low.now c.requires.todo c.requires.low c.requires.shaped c.in-Ok.below c.in-Some.todo
    c.set_frame-in-Ok.new.path c.in-Ok.ensures.next c.in-Some.is c.set_frame-in-Ok.ensures.set).0

pub returns-in-Some-clause-content : goal.returns-in-Some-clause-content
returns-in-Some-clause-content g c =
    let is = unread_by c.args.store.now.layout (g.R.Rack.seen c.args.rack.now) (g.R.Rack.seen c.read_again.new.rack) in
    let lo = c.args.scope.now.lo in
    let hi = c.args.scope.now.hi in
    let place = c.args.place.now in
    let low = c.args.low.now in
    let store = c.read_again.new.store in
    let b = c.in-Ok.below in
    let todo = c.in-Some.todo in
    let after : Where = record { path = c.set_frame-in-Ok.new.path; todo = Some todo } in
    drawn c.args.store.now.layout (λ B. Rereads is B (low.at + 1) low.frame (Ok b))
    (λ B. (seen : List Want) → IsAlong lo hi B seen place → Unit {0}
    → Meets lo hi B seen (place_left lo hi B place) store after None (Child low.frame.pointer.addr c.place_of.result))
    (λ B h seen on none. subst (λ (at : RootPlace). Meets lo hi B seen (place_left lo hi B place) store after None (Child low.frame.pointer.addr at))
    (sym c.place_of.ensures) (
    meets_child lo hi B place low c.requires.todo c.requires.low c.requires.shaped seen store b todo c.set_frame-in-Ok.new.path on
    (h seen (frame_here lo hi B place low c.requires.todo c.requires.low c.requires.shaped seen on).node) c.in-Some.is c.set_frame-in-Ok.ensures.set))
    c.in-Ok.ensures.content
