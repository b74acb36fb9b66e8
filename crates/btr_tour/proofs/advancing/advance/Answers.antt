use Rattle.std.proofs.Common.{◌≡◌, ◌≤◌, IfSome, Ok, Some, None, sym, subst, arith}
use Rattle.btr_read.specs.Layout.{Layout}
use Rattle.btr_walk.specs.Hand.{behind_next, IsInHand}
use Rattle.btr_walk.specs.Reading.{Tells, unread_by}
use Rattle.btr_walk.specs.declared.leaf_at.LeafAt.{LeafAt}
use Rattle.btr_walk.proofs.Joined.{drawn, unread_on}
use Rattle.btr_walk.proofs.Turns.{same_layout}
use Rattle.btr_tour.specs.declared.step.Step.TheVariants.{Item}
use Rattle.btr_tour.specs.Steps.{arrived, AdvancesIn}
use Rattle.btr_tour.proofs.Enters.{hand_steps, hand_over, is_none_of}
use Rattle.btr_tour.proofs.advancing.advance.Goals as goal

pub returns-in_default-clause-content : goal.returns-in_default-clause-content
returns-in_default-clause-content g c =
    let is = unread_by c.args.store.now.layout (g.R.Rack.seen c.args.rack.now) (g.R.Rack.seen c.from_place.new.rack) in
    let then = arrived c.from_place.new.place c.from_place.result in
    let none : c.args.leaf ≡ None = is_none_of c.args.leaf c.in_default.not-Some in
    subst (λ l. Tells c.args.store.now.layout (g.R.Rack.seen c.args.rack.now) (g.R.Rack.seen c.from_place.new.rack)
    (λ B. AdvancesIn c.args.scope.now is B c.args.store.now c.args.place.now l c.from_place.new.store then)) (sym none) c.from_place.ensures.content

pub returns-then-hand-clause-content : goal.returns-then-hand-clause-content
returns-then-hand-clause-content g c =
    let is = unread_by c.args.store.now.layout (g.R.Rack.seen c.args.rack.now) (g.R.Rack.seen c.args.rack.now) in
    let place = c.args.place.now in
    let store = c.args.store.now in
    let hand = c.in-Some.hand in
    let then : LeafAt = behind_next hand in
    let in_hand : IsInHand store hand = subst (λ l. IfSome l (IsInHand store)) c.in-Some.is c.requires.hand in
    let lt = c.if-hand.true in
    unread_on store.layout (λ B. AdvancesIn c.args.scope.now is B store place c.args.leaf store
    (record { place = place; leaf = Some c.behind_next.result; step = Ok (Item hand.next) }))
    (λ B. subst (λ l. AdvancesIn c.args.scope.now is B store place c.args.leaf store (record { place = place; leaf = Some l; step = Ok (Item hand.next) }))
    (sym c.behind_next.ensures)
    (subst (λ l. AdvancesIn c.args.scope.now is B store place l store (record { place = place; leaf = Some then; step = Ok (Item hand.next) }))
    (sym c.in-Some.is) (hand_steps c.args.scope.now is B store place hand in_hand lt)))

pub returns-clause-content : goal.returns-clause-content
returns-clause-content g c =
    let old = c.args.store.now in
    let given = c.give_leaf.new.store in
    let place = c.args.place.now in
    let hand = c.in-Some.hand in
    let in_hand : IsInHand old hand = subst (λ l. IfSome l (IsInHand old)) c.in-Some.is c.requires.hand in
    let before = g.R.Rack.seen c.args.rack.now in
    let now = g.R.Rack.seen c.from_place-2.new.rack in
    let then = arrived c.from_place-2.new.place c.from_place-2.result in
    let same : given.layout ≡ old.layout = same_layout old given (Some hand.loan) None c.give_leaf.ensures.back in
    let le : hand.end ≤ hand.next = omega (arith, c.if-hand.false) in
    drawn old.layout (λ B. AdvancesIn c.args.scope.now (unread_by given.layout before now) B given place None c.from_place-2.new.store then)
    (λ B. AdvancesIn c.args.scope.now (unread_by old.layout before now) B old place c.args.leaf c.from_place-2.new.store then)
    (λ B h. subst (λ l. AdvancesIn c.args.scope.now (unread_by old.layout before now) B old place l c.from_place-2.new.store then) (sym c.in-Some.is)
    (subst (λ (layout : Layout). AdvancesIn c.args.scope.now (unread_by layout before now) B old place (Some hand) c.from_place-2.new.store then) same
    (hand_over c.args.scope.now (unread_by given.layout before now) B old place hand in_hand given le c.from_place-2.new.store then h)))
    (subst (λ (layout : Layout). Tells layout before now (λ B. AdvancesIn c.args.scope.now
    (unread_by given.layout before now) B given place None c.from_place-2.new.store then)) same
    c.from_place-2.ensures.content)
