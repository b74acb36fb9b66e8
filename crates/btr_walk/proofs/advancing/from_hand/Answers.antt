use Rattle.std.proofs.Common.{Ok, Some, true, sym, subst, arith}
use Rattle.btr_walk.specs.Advancing.{FromPlace, FromHand}
use Rattle.btr_walk.specs.Reading.{unread_by}
use Rattle.btr_walk.proofs.Hands.{meets_hand, hand_empty, from_as}
use Rattle.btr_walk.proofs.Joined.{drawn, unread_on}
use Rattle.btr_walk.proofs.Lending.{same_then}
use Rattle.btr_walk.proofs.Turns.{same_room}
use Rattle.btr_walk.proofs.advancing.from_hand.Goals as goal

pub returns-then-hand-clause-content : goal.returns-then-hand-clause-content
returns-then-hand-clause-content g c =
    let is = unread_by c.args.store.now.layout (g.R.Rack.seen c.args.rack.now) (g.R.Rack.seen c.args.rack.now) in
    unread_on c.args.store.now.layout
    (λ B. FromHand c.args.lo c.args.hi is B c.args.place.now c.args.place.now c.args.hand c.args.store.now c.args.store.now
    (record { leaf = Some c.behind_next.result; met = Ok true }))
    (λ B. subst (λ l. FromHand c.args.lo c.args.hi is B c.args.place.now c.args.place.now c.args.hand c.args.store.now c.args.store.now
    (record { leaf = Some l; met = Ok true }))
    (sym c.behind_next.ensures) (meets_hand c.args.lo c.args.hi B is c.args.store.now c.args.hand c.args.place.now c.requires.hand c.if-hand.true))

pub returns-clause-content : goal.returns-clause-content
returns-clause-content g c =
    let is = unread_by c.args.store.now.layout (g.R.Rack.seen c.args.rack.now) (g.R.Rack.seen c.from_place.new.rack) in
    drawn c.args.store.now.layout (λ B. FromPlace c.args.lo c.args.hi is B c.args.place.now c.from_place.new.place c.from_place.new.store
    c.from_place.result) (λ B. FromHand c.args.lo c.args.hi is B c.args.place.now c.from_place.new.place c.args.hand c.args.store.now
    c.from_place.new.store c.from_place.result)
    (λ B h. hand_empty c.args.lo c.args.hi B is c.args.store.now c.from_place.new.store c.args.hand c.args.place.now c.from_place.new.place
    c.from_place.result c.requires.hand (omega (arith, c.if-hand.false)) h)
    (from_as c.args.store.now.layout c.give_leaf.new.store.layout (g.R.Rack.seen c.args.rack.now) (g.R.Rack.seen c.from_place.new.rack) c.args.lo c.args.hi
    c.args.place.now c.from_place.new.place c.from_place.new.store c.from_place.result c.give_leaf.ensures.back.layout c.from_place.ensures.content)

pub from_place-requires-clause-serves : goal.from_place-requires-clause-serves
from_place-requires-clause-serves g c = c.give_leaf.ensures.serves _ c.requires.serves

pub returns-clause-others : goal.returns-clause-others
returns-clause-others g c = same_then c.give_leaf.ensures.back c.from_place.ensures.lent.others

pub from_place-requires-clause-room : goal.from_place-requires-clause-room
from_place-requires-clause-room g c = same_room _ _ c.give_leaf.ensures.back c.requires.room
