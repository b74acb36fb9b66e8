use Rattle.std.proofs.Common.{Ok, Err, None, Some}
use Rattle.std.proofs.lemmas.Result.{err_from_is_err_and}
use Rattle.btr_walk.specs.Hand.{IsLeafAgain}
use Rattle.btr_walk.specs.Reading.{unread_by}
use Rattle.btr_walk.proofs.Joined.{drawn, unread_on}
use Rattle.btr_tour.specs.Rests.{TakesUp}
use Rattle.btr_tour.proofs.Resting.{taken, taken_none, goes_on_none, taken_some, goes_on_some, refused_some}
use Rattle.btr_tour.proofs.rest.Rest.tour.Goals as goal

pub returns-in-None-clause-taken : goal.returns-in-None-clause-taken
returns-in-None-clause-taken g c = taken_none c.args.self.now c.requires.fits (g.R.Rack.seen c.args.rack.now) c.args.store.now c.in-None.is c.requires.serves

pub returns-in-None-clause-content : goal.returns-in-None-clause-content
returns-in-None-clause-content g c =
    let rest = c.args.self.now in
    let store = c.args.store.now in
    let is = unread_by store.layout (g.R.Rack.seen c.args.rack.now) (g.R.Rack.seen c.args.rack.now) in
    unread_on store.layout (λ B. TakesUp is B rest store (Ok (taken rest c.requires.fits None)))
    (λ B seen on. goes_on_none rest c.requires.fits B seen store c.in-None.is on)

pub returns-in_err-hand-in-Some-clause-content : goal.returns-in_err-hand-in-Some-clause-content
returns-in_err-hand-in-Some-clause-content g c =
    let rest = c.args.self.now in
    let store = c.read_leaf.new.store in
    let is = unread_by c.args.store.now.layout (g.R.Rack.seen c.args.rack.now) (g.R.Rack.seen c.read_leaf.new.rack) in
    let p = err_from_is_err_and c.from_residual.result c.from_residual.ensures.1 in
    rw (p.1, p.2)
    (drawn c.args.store.now.layout (λ B. IsLeafAgain is B c.in-Some.frame store (Err c.in_err-hand-in-Some.field-0.0))
    (λ B. TakesUp is B rest store (Err c.in_err-hand-in-Some.field-0.0))
    (λ B h. refused_some rest c.requires.fits c.in-Some.frame c.in-Some.is is B store c.in_err-hand-in-Some.field-0.0 h) c.in_err-hand-in-Some.ensures.content)

pub returns-in_ok-hand-in-Some-clause-taken : goal.returns-in_ok-hand-in-Some-clause-taken
returns-in_ok-hand-in-Some-clause-taken g c =
    taken_some c.args.self.now c.requires.fits c.in-Some.frame c.in-Some.is (g.R.Rack.seen c.read_leaf.new.rack) c.args.store.now
    c.read_leaf.new.store c.in_ok-hand-in-Some.hand c.in_ok-hand-in-Some.ensures.same c.in_ok-hand-in-Some.ensures.lent c.in_ok-hand-in-Some.ensures.serves

pub returns-in_ok-hand-in-Some-clause-content : goal.returns-in_ok-hand-in-Some-clause-content
returns-in_ok-hand-in-Some-clause-content g c =
    let rest = c.args.self.now in
    let store = c.read_leaf.new.store in
    let is = unread_by c.args.store.now.layout (g.R.Rack.seen c.args.rack.now) (g.R.Rack.seen c.read_leaf.new.rack) in
    drawn c.args.store.now.layout (λ B. IsLeafAgain is B c.in-Some.frame store (Ok c.in_ok-hand-in-Some.hand))
    (λ B. TakesUp is B rest store (Ok (taken rest c.requires.fits (Some c.in_ok-hand-in-Some.hand))))
    (λ B h. goes_on_some rest c.requires.fits c.in-Some.frame c.in-Some.is is B store c.in_ok-hand-in-Some.hand c.in_ok-hand-in-Some.ensures.same h)
    c.in_ok-hand-in-Some.ensures.content
