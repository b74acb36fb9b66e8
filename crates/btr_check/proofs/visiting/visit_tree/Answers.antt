use Rattle.std.proofs.Common.{Err, refl}
use Rattle.btr_tour.specs.Visits.{Visits}
use Rattle.btr_walk.proofs.Joined.{drawn}
use Rattle.btr_walk.proofs.Turns.{same_room}
use Rattle.btr_walk.specs.Reading.{Map, unread_by}
use Rattle.btr_check.proofs.Runs.{less_told}
use Rattle.btr_check.proofs.Wants.{fold_unread, visit_unread}
use Rattle.btr_check.specs.Running.{FaultUnread, IsUnreadOf, filesystem}
use Rattle.btr_check.specs.Wanted.{OfTree}
use Rattle.btr_check.proofs.visiting.visit_tree.Goals as goal

pub returns-in-Err-Tree-clause-ran : goal.returns-in-Err-Tree-clause-ran
returns-in-Err-Tree-clause-ran g c =
    let vol = c.args.vol.now in
    let layout = vol.store.layout in
    let before = g.R.Rack.seen c.args.rack.now in
    let now = g.R.Rack.seen c.visit.new.rack in
    let is = unread_by layout before now in
    let place = c.args.place.now in
    let stopped = c.in-Err-Tree.field-0 in
    let fault = c.in-Err-Tree.fault in
    let old = c.args.visitor.now in
    let new = c.visit.new.visitor in
    let e = c.in-Err-Tree.ensures in
    let Visited : Map → Type 0 = λ B. Visits g.V.Visitor.step is B place old new (Err stopped) in
    record {
      reads = e.reads;
      volume = record { sup = refl; store = e.loans };
      ready = record { serves = e.serves; room = same_room vol.store c.visit.new.store e.loans c.requires.ready.room };
      cause = fold_unread layout before now stopped fault c.in-Err-Tree.field-0-is e.cause;
      quiet = tt;
      told = less_told {P = Visited} e.content;
      named = drawn layout Visited (λ (B : Map). FaultUnread (IsUnreadOf layout before now (OfTree place (filesystem vol B))) fault)
          (λ B h. visit_unread g.V.Visitor.step is B place old new stopped fault c.in-Err-Tree.field-0-is h) e.content;
    }
