use Rattle.std.proofs.Common.{Some, None, Ok, Err, sym, subst}
use Rattle.btr_read.specs.Store.{SameLoans}
use Rattle.btr_walk.specs.Advancing.{FromPlace, FromHand, IsAdvanced}
use Rattle.btr_walk.specs.Lending.{base}
use Rattle.btr_walk.specs.Reading.{unread_by}
use Rattle.btr_walk.proofs.Fetched.{since}
use Rattle.btr_walk.proofs.Hands.{with_leaf_in_hand, with_none, with_kept, kept_halts}
use Rattle.btr_walk.proofs.Joined.{drawn, joined}
use Rattle.btr_walk.proofs.Lending.{same_then}
use Rattle.btr_walk.proofs.Turns.{same_layout}
use Rattle.btr_walk.proofs.advancing.advance.Goals as goal
use Rattle.btr_walk.specs.Hand.{loan_of, IsLeafAgain}

pub returns-in-Some-clause-content : goal.returns-in-Some-clause-content
returns-in-Some-clause-content g c =
    let is = unread_by c.args.store.now.layout (g.R.Rack.seen c.args.rack.now) (g.R.Rack.seen c.from_hand.new.rack) in
    drawn c.args.store.now.layout (λ B. FromHand c.args.lo c.args.hi is B c.args.place.now c.from_hand.new.place c.in-Some.hand c.args.store.now
    c.from_hand.new.store c.from_hand.result)
    (λ B. IsAdvanced c.args.lo c.args.hi is B (record {
      leaf = c.args.kept.now;
      rest = c.args.place.now;
    }) c.from_hand.new.place c.args.leaf c.args.store.now c.from_hand.new.store c.from_hand.result)
    (λ B h. with_leaf_in_hand c.args.lo c.args.hi B is c.args.store.now c.from_hand.new.store c.args.leaf c.in-Some.hand
    (record { leaf = c.args.kept.now; rest = c.args.place.now }) c.from_hand.new.place c.from_hand.result c.in-Some.is h) c.from_hand.ensures.content

pub returns-in-None-kept-clause-content : goal.returns-in-None-kept-clause-content
returns-in-None-kept-clause-content g c =
    let is = unread_by c.args.store.now.layout (g.R.Rack.seen c.args.rack.now) (g.R.Rack.seen c.from_place.new.rack) in
    drawn c.args.store.now.layout (λ B. FromPlace c.args.lo c.args.hi is B c.args.place.now c.from_place.new.place c.from_place.new.store c.from_place.result)
    (λ B. IsAdvanced c.args.lo c.args.hi is B (record {
      leaf = c.args.kept.now;
      rest = c.args.place.now;
    }) c.from_place.new.place c.args.leaf c.args.store.now c.from_place.new.store c.from_place.result)
    (λ B h. with_none c.args.lo c.args.hi B is c.args.store.now c.from_place.new.store c.args.leaf
    (record { leaf = c.args.kept.now; rest = c.args.place.now }) c.from_place.new.place c.from_place.result c.in-None.is c.in-None-kept.is
    h) c.from_place.ensures.content

pub returns-in-Ok-clause-others : goal.returns-in-Ok-clause-others
returns-in-Ok-clause-others g c =
    let a = c.from_hand-in-Ok.result in
    let new = c.from_hand-in-Ok.new.store in
    subst (λ l. SameLoans (base c.args.store.now (loan_of l)) (base new (loan_of a.leaf))) (sym c.in-None.is)
    (same_then c.in-Ok.ensures.lent.others c.from_hand-in-Ok.ensures.others)

pub returns-in-Ok-clause-content : goal.returns-in-Ok-clause-content
returns-in-Ok-clause-content g c =
    let was = unread_by c.args.store.now.layout (g.R.Rack.seen c.args.rack.now) (g.R.Rack.seen c.read_leaf.new.rack) in
    let mid = c.read_leaf.new.store in
    let then = unread_by mid.layout (g.R.Rack.seen c.read_leaf.new.rack) (g.R.Rack.seen c.from_hand-in-Ok.new.rack) in
    let is = unread_by c.args.store.now.layout (g.R.Rack.seen c.args.rack.now) (g.R.Rack.seen c.from_hand-in-Ok.new.rack) in
    let kept = c.in-Some-kept.frame in
    let lent = c.in-Ok.ensures.lent in
    joined (λ B. IsLeafAgain was B kept mid (Ok c.in-Ok.hand))
    (λ B. FromHand c.args.lo c.args.hi then B c.args.place.now c.from_hand-in-Ok.new.place c.in-Ok.hand mid c.from_hand-in-Ok.new.store
    c.from_hand-in-Ok.result)
    (λ B. IsAdvanced c.args.lo c.args.hi is B (record {
      leaf = c.args.kept.now;
      rest = c.args.place.now;
    }) c.from_hand-in-Ok.new.place c.args.leaf c.args.store.now c.from_hand-in-Ok.new.store c.from_hand-in-Ok.result)
    (same_layout c.args.store.now mid None (Some c.in-Ok.hand.loan) lent.others)
    (λ B x h. with_kept c.args.lo c.args.hi B c.args.leaf (record {
      leaf = c.args.kept.now;
      rest = c.args.place.now;
    }) kept c.in-None.is c.in-Some-kept.is was then is c.args.store.now mid
    c.from_hand-in-Ok.new.store c.in-Ok.hand c.from_hand-in-Ok.new.place c.from_hand-in-Ok.result
    (since _ _ (same_layout c.args.store.now mid None (Some c.in-Ok.hand.loan) lent.others) c.in-Ok.ensures.reads) c.in-Ok.ensures.same x h)
    c.in-Ok.ensures.content c.from_hand-in-Ok.ensures.content

pub returns-in-Err-clause-content : goal.returns-in-Err-clause-content
returns-in-Err-clause-content g c =
    let is = unread_by c.args.store.now.layout (g.R.Rack.seen c.args.rack.now) (g.R.Rack.seen c.read_leaf.new.rack) in
    let kept = c.in-Some-kept.frame in
    let new = c.read_leaf.new.store in
    drawn c.args.store.now.layout (λ B. IsLeafAgain is B kept new (Err c.in-Err.fault))
    (λ B. IsAdvanced c.args.lo c.args.hi is B (record { leaf = c.args.kept.now; rest = c.args.place.now }) c.args.place.now c.args.leaf c.args.store.now new
    (record { leaf = None; met = Err c.in-Err.fault }))
    (λ B h. kept_halts c.args.lo c.args.hi B c.args.leaf (record {
      leaf = c.args.kept.now;
      rest = c.args.place.now;
    }) kept c.in-None.is c.in-Some-kept.is is c.args.store.now new c.in-Err.fault h) c.in-Err.ensures.content
