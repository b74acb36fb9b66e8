use Rattle.std.proofs.Common.{◌+◌, Ok, Err, Some, None, refl}
use Rattle.std.proofs.lemmas.Result.{err_from_is_err_and}
use Rattle.btr_walk.specs.Again.{Rereads}
use Rattle.btr_walk.specs.Preorder.{IsAhead}
use Rattle.btr_walk.specs.Reading.{unread_by}
use Rattle.btr_walk.proofs.Joined.{drawn, unread_on}
use Rattle.btr_walk.proofs.Preorders.{at_end, ahead_again, ahead_halts}
use Rattle.btr_walk.proofs.Ranking.{near_again, near_place, near_ahead}
use Rattle.btr_walk.proofs.ahead.ahead_of.Goals as goal

pub returns-in-None-lowest-clause-content : goal.returns-in-None-lowest-clause-content
returns-in-None-lowest-clause-content g c =
    let is = unread_by c.args.store.now.layout (g.R.Rack.seen c.args.rack.now) (g.R.Rack.seen c.args.rack.now) in
    unread_on c.args.store.now.layout (λ B. IsAhead is B c.args.place.now (Ok None))
    (λ B seen on. at_end B c.args.place.now c.in-None.is c.in-None-lowest.ensures.none)

pub returns-in_err-below-in-Some-lowest-clause-content : goal.returns-in_err-below-in-Some-lowest-clause-content
returns-in_err-below-in-Some-lowest-clause-content g c =
    let is = unread_by c.args.store.now.layout (g.R.Rack.seen c.args.rack.now) (g.R.Rack.seen c.read_again.new.rack) in
    let low = c.in-Some-lowest.low in
    let p = err_from_is_err_and c.from_residual.result c.from_residual.ensures.1 in
    rw (p.1, p.2)
    (drawn c.args.store.now.layout (λ B. Rereads is B (low.at + 1) low.frame (Err c.in_err-below-in-Some-lowest.field-0.0))
    (λ B. IsAhead is B c.args.place.now (Err c.in_err-below-in-Some-lowest.field-0.0))
    (λ B h seen on. ahead_halts B c.args.place.now low.at low.frame c.in-None.is c.in-Some-lowest.ensures.here is c.in_err-below-in-Some-lowest.field-0.0 seen
    on h)
    c.in_err-below-in-Some-lowest.ensures.content)

pub returns-in-Some-todo-clause-rank_falls : goal.returns-in-Some-todo-clause-rank_falls
returns-in-Some-todo-clause-rank_falls g c =
    let place = c.args.place.now in
    let low = c.in-Some-lowest.low in
    let b = c.in_ok-below-in-Some-lowest.below in
    near_ahead place c.set_frame.new.path b.todo c.in-Some-todo.todo c.in-Some-todo.is
    (near_place place None (record { path = c.set_frame.new.path; todo = b.todo }) c.in-None.is c.requires.shaped
    (near_again place.path c.set_frame.new.path low.at
    (low.at + 1) low.frame b refl c.in-Some-lowest.ensures.within c.in_ok-below-in-Some-lowest.ensures.next c.set_frame.ensures.set
    c.in-Some-lowest.ensures.here c.in-Some-lowest.ensures.before))

pub returns-in-Some-todo-clause-content : goal.returns-in-Some-todo-clause-content
returns-in-Some-todo-clause-content g c =
    let is = unread_by c.args.store.now.layout (g.R.Rack.seen c.args.rack.now) (g.R.Rack.seen c.read_again.new.rack) in
    let place = c.args.place.now in
    let low = c.in-Some-lowest.low in
    let b = c.in_ok-below-in-Some-lowest.below in
    drawn c.args.store.now.layout (λ B. Rereads is B (low.at + 1) low.frame (Ok b))
    (λ B. IsAhead is B place (Ok (Some (record { todo = c.in-Some-todo.todo; path = c.set_frame.new.path }))))
    (λ B h seen on. ahead_again B place low.at low.frame c.in-None.is c.in-Some-lowest.ensures.here is b c.in-Some-todo.todo c.set_frame.new.path seen
    c.in-Some-lowest.ensures.long c.in-Some-lowest.ensures.within c.in-Some-lowest.ensures.before c.set_frame.ensures.set c.in-Some-todo.is on h)
    c.in_ok-below-in-Some-lowest.ensures.content
