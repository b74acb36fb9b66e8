use Rattle.std.proofs.Common.{None, Ok}
use Rattle.btr_walk.specs.Reading.{unread_by}
use Rattle.btr_walk.proofs.Joined.{unread_on}
use Rattle.btr_tour.specs.declared.step.Step.TheVariants.{End}
use Rattle.btr_tour.specs.Place.{place_left}
use Rattle.btr_tour.specs.Steps.{Advances}
use Rattle.btr_tour.proofs.Enters.{all_met}
use Rattle.btr_tour.proofs.advancing.from_place.Goals as goal

pub returns-in-None-lowest-clause-content : goal.returns-in-None-lowest-clause-content
returns-in-None-lowest-clause-content g c =
    let lo = c.args.scope.now.lo in
    let hi = c.args.scope.now.hi in
    let place = c.args.place.now in
    let is = unread_by c.args.store.now.layout (g.R.Rack.seen c.args.rack.now) (g.R.Rack.seen c.args.rack.now) in
    unread_on c.args.store.now.layout (λ B. Advances lo hi B is (λ seen. Unit {0}) c.args.scope.now.sums place (place_left lo hi B place) c.args.store.now
    (record { place = place; leaf = None; step = Ok End }))
    (λ B seen on none. all_met lo hi B place c.in-None.is c.in-None-lowest.ensures.none)
