use Rattle.std.proofs.Common.{◌≡◌, ◌^◌, ◌*◌, Ok, OnErr, sym, subst}
use Rattle.btr_walk.specs.Reading.{HasCause, unread_by}
use Rattle.btr_walk.specs.Leaving.{IsReached}
use Rattle.btr_walk.specs.Ranks.{rank, StepRankFalls}
use Rattle.btr_walk.specs.Advancing.{HasItem, Lends, FromPlace}
use Rattle.btr_walk.proofs.Joined.{drawn}
use Rattle.btr_walk.proofs.Hands.{lends_arrived, items_arrived, item_arrived, rank_falls_arrived, from_arrived, shaped_arrived, no_fault_arrived}
use Rattle.btr_walk.proofs.Hands.{no_cause_arrived}
use Rattle.btr_walk.proofs.advancing.from_place.Goals as goal

pub arrived-requires : goal.arrived-requires
arrived-requires g c = items_arrived c.args.store.now c.to_leaf.new.store c.in-Ok.reached c.in-Ok.ensures.lent

pub returns-in-Ok : goal.returns-in-Ok
returns-in-Ok g c =
    let old = c.args.store.now in
    let new = c.to_leaf.new.store in
    let place = c.args.place.now in
    let after = c.to_leaf.new.place in
    let o = c.in-Ok.reached in
    let lent = c.in-Ok.ensures.lent in
    let rank_falls = c.in-Ok.ensures.rank_falls in
    let seen = g.R.Rack.seen c.args.rack.now in
    let now = g.R.Rack.seen c.to_leaf.new.rack in
    let is = unread_by old.layout seen now in
    let same = sym c.arrived.ensures in
    record {
      serves = c.in-Ok.ensures.serves;
      reads = c.in-Ok.ensures.reads;
      lent = subst (Lends old new) same (lends_arrived old new o lent);
      stays = subst (λ a. OnErr a.met (after ≡ place)) same (no_fault_arrived o (after ≡ place));
      shaped = (shaped_arrived place after o rank_falls).0;
      on = (shaped_arrived place after o rank_falls).1;
      rank_falls = subst (λ a. StepRankFalls (2 ^ 64 * rank place) after a.leaf a.met) same (rank_falls_arrived old new place after o lent rank_falls);
      item = subst (λ a. HasItem a.leaf a.met) same (item_arrived old new o lent);
      cause = subst (λ a. HasCause old.layout seen now a.met) same (no_cause_arrived old.layout seen now o);
      content = drawn old.layout (λ B. IsReached c.args.lo c.args.hi is B place after new (Ok o))
          (λ B. FromPlace c.args.lo c.args.hi is B place after new c.arrived.result)
          (λ B h. subst (FromPlace c.args.lo c.args.hi is B place after new) same
          (from_arrived old new c.args.lo c.args.hi B is place after o lent h)) c.in-Ok.ensures.content;
    }
