use Rattle.std.proofs.Common.{◌≡◌, Bool, is_ok, Some, refl, sym, ◌∙◌, ap}
use Rattle.std.specs.Bool.{⊤}
use Rattle.btr_walk.proofs.Lending.{given_back, served_back}
use Rattle.btr_walk.proofs.Turns.{same_room}
use Rattle.btr_walk.specs.Reading.{tree_fault}
use Rattle.btr_check.specs.Data.{unread_stop}
use Rattle.btr_check.proofs.Datas.{always_told, fetched_can, fetched_cannot, fetched_unread, stop_outside, stop_reading, stop_tells}
use Rattle.btr_check.proofs.Runs.{stop_more}
use Rattle.btr_check.specs.Running.{IsAnyUnread, IsUnreadOf, StopUnread}
use Rattle.btr_check.proofs.readable.can_fetch.Goals as goal

pub returns-in-Ok : goal.returns-in-Ok
returns-in-Ok g c =
    let vol = c.args.vol.now in
    let want = c.args.want.now in
    let layout = vol.store.layout in
    let before = g.R.Rack.seen c.args.rack.now in
    let now = g.R.Rack.seen c.fetch.new.rack in
    let e = c.in-Ok.ensures in
    let loans = given_back vol.store c.fetch.new.store c.give.new.self want c.in-Ok.loan e.lent c.give.ensures in
    record {
      ran = record {
        reads = e.reads;
        volume = record { sup = refl; store = loans };
        ready = record {
          serves = served_back now c.fetch.new.store c.give.new.self c.in-Ok.loan e.serves c.give.ensures;
          room =
              same_room vol.store c.give.new.self loans c.requires.ready.room;
        };
        cause = tt;
        quiet = tt;
        told = fetched_can layout want before now c.fetch.new.store e.reads c.in-Ok.loan e.answer;
        named = always_told layout before now ⊤ e.reads tt;
      };
    }

pub returns-in-None : goal.returns-in-None
returns-in-None g c =
    let vol = c.args.vol.now in
    let want = c.args.want.now in
    let layout = vol.store.layout in
    let before = g.R.Rack.seen c.args.rack.now in
    let now = g.R.Rack.seen c.fetch.new.rack in
    let fault = c.in-Err.fault in
    let e = c.in-Err.ensures in
    record {
      ran = record {
        reads = e.reads;
        volume = record { sup = refl; store = e.refused };
        ready = record { serves = e.serves; room = same_room vol.store c.fetch.new.store e.refused c.requires.ready.room };
        cause = tt;
        quiet = tt;
        told = fetched_cannot layout want before now c.fetch.new.store e.reads fault (ap unread_stop (sym c.from.ensures) ∙ sym c.in-None.ensures) e.answer;
        named = always_told layout before now ⊤ e.reads tt;
      };
    }

pub returns-in-Some : goal.returns-in-Some
returns-in-Some g c =
    let vol = c.args.vol.now in
    let want = c.args.want.now in
    let layout = vol.store.layout in
    let before = g.R.Rack.seen c.args.rack.now in
    let now = g.R.Rack.seen c.fetch.new.rack in
    let fault = c.in-Err.fault in
    let stop = c.in-Some.stop in
    let e = c.in-Err.ensures in
    let is : unread_stop (tree_fault fault) ≡ Some stop = ap unread_stop (sym c.from.ensures) ∙ sym c.in-Some.ensures in
    let named = fetched_unread layout want before now c.fetch.new.store e.reads fault stop is e.answer in
    record {
      ran = record {
        reads = e.reads;
        volume = record { sup = refl; store = e.refused };
        ready = record { serves = e.serves; room = same_room vol.store c.fetch.new.store e.refused c.requires.ready.room };
        cause = stop_more (IsUnreadOf layout before now (λ w. w ≡ want)) (IsAnyUnread layout before now) (λ u h. (h.0, tt, h.2)) stop named;
        quiet = stop_reading (tree_fault fault) stop is;
        told = stop_tells {A = Bool} layout before now (λ B can. can ≡ is_ok (B want)) stop e.reads (stop_outside (tree_fault fault) stop is);
        named = always_told layout before now (StopUnread (IsUnreadOf layout before now (λ w. w ≡ want)) stop) e.reads named;
      };
    }
