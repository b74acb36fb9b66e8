use Rattle.std.proofs.Common.{[], Option, Some, None, Result, Ok, Err, sym, ◌∙◌}
use Rattle.btr_base.specs.declared.stored.Sum.{Sum}
use Rattle.btr_files.proofs.AheadLooks.{paired}
use Rattle.btr_files.specs.Aheads.{IsSummed}
use Rattle.btr_files.specs.Content.{want_by}
use Rattle.btr_files.specs.Sums.{kind_in, sum_at, tree_behind}
use Rattle.btr_prog.specs.Answers.{Follows, no_part}
use Rattle.btr_prog.specs.Prog.{exec}
use Rattle.btr_read.specs.declared.want.Want.{Want}
use Rattle.btr_volume.specs.declared.root.TreeRoot.{TreeRoot}
use Rattle.btr_walk.proofs.Joined.{drawn}
use Rattle.btr_walk.proofs.Turns.{same_room}
use Rattle.btr_walk.specs.Reading.{Map, unread_by, answer_of}
use Rattle.btr_walk.specs.declared.fault.TreeFault.{TreeFault}
use Rattle.btr_check.specs.Counting.{Unless}
use Rattle.btr_check.specs.Data.{KeepsSums, ReadsBy}
use Rattle.btr_check.specs.Running.{IsAnyUnread, IsUnreadOf, StopUnread, world, filesystem}
use Rattle.btr_check.specs.Wanted.{OfSector}
use Rattle.btr_check.proofs.Runs.{cause_unread, less_told, ran_none}
use Rattle.btr_check.proofs.Datas.{kept_by, found_by, fault_by, look_unread, stop_outside, stop_reading, stop_unread}
use Rattle.btr_check.proofs.readable.sector_want.Goals as goal

pub returns-in-Some : goal.returns-in-Some
returns-in-Some g c =
    let sums : Option TreeRoot = tree_behind c.args.sums in
    let kept = c.get.ensures.found c.in-Some.sum c.in-Some.is in
    record {
      ran = ran_none (λ fs. KeepsSums fs sums c.args.ahead.now c.args.ahead.now
          (ReadsBy fs sums c.args.sector (Some (want_by c.args.sector (Some c.in-Some.sum))))) (world (g.R.Rack.seen c.args.rack.now) c.args.vol.now)
          (Some (want_by c.args.sector (Some c.in-Some.sum))) c.requires.ready
          (λ B summed. (
            summed,
            kept_by (filesystem c.args.vol.now B) sums c.args.sector c.args.ahead.now c.in-Some.sum
                (kept.0 ∙ c.kind_of.ensures) kept.1 summed,
          ));
    }

pub returns-in-Ok : goal.returns-in-Ok
returns-in-Ok g c =
    let vol = c.args.vol.now in
    let layout = vol.store.layout in
    let before = g.R.Rack.seen c.args.rack.now in
    let now = g.R.Rack.seen c.sum_ahead.new.rack in
    let sums : Option TreeRoot = tree_behind c.args.sums in
    let r : Result (Option Sum) TreeFault = Ok c.in-Ok.sum in
    let e = c.in-Ok.ensures in
    record {
      ran = record {
        reads = e.reads;
        volume = e.volume;
        ready = record { serves = e.serves; room = same_room vol.store c.sum_ahead.new.vol.store e.volume.store c.requires.ready.room };
        cause = tt;
        quiet = tt;
        told = paired layout (λ B. IsSummed B sums c.args.ahead.now → IsSummed B sums c.sum_ahead.new.ahead)
            (λ (B : Map). Follows (unread_by layout before now) no_part [] (exec B (sum_at (kind_in vol.sup) sums c.args.sector)) [] (answer_of r))
            (λ B. KeepsSums (filesystem vol B) sums c.args.ahead.now c.sum_ahead.new.ahead
            (ReadsBy (filesystem vol B) sums c.args.sector (Some c.want_by.result)))
            (λ B keeps h summed. (
              keeps summed,
              found_by (filesystem vol B) sums c.args.sector
                  (unread_by layout before now) c.in-Ok.sum c.want_by.result c.want_by.ensures h,
            )) e.ahead e.content;
        named = less_told e.content;
      };
    }

pub returns-in-None : goal.returns-in-None
returns-in-None g c =
    let vol = c.args.vol.now in
    let layout = vol.store.layout in
    let before = g.R.Rack.seen c.args.rack.now in
    let now = g.R.Rack.seen c.sum_ahead.new.rack in
    let sums : Option TreeRoot = tree_behind c.args.sums in
    let r : Result (Option Sum) TreeFault = Err c.in-Err.fault in
    let e = c.in-Err.ensures in
    record {
      ran = record {
        reads = e.reads;
        volume = e.volume;
        ready = record { serves = e.serves; room = same_room vol.store c.sum_ahead.new.vol.store e.volume.store c.requires.ready.room };
        cause = tt;
        quiet = tt;
        told = paired layout (λ B. IsSummed B sums c.args.ahead.now → IsSummed B sums c.sum_ahead.new.ahead)
            (λ (B : Map). Follows (unread_by layout before now) no_part [] (exec B (sum_at (kind_in vol.sup) sums c.args.sector)) [] (answer_of r))
            (λ B. KeepsSums (filesystem vol B) sums c.args.ahead.now c.sum_ahead.new.ahead (ReadsBy (filesystem vol B) sums c.args.sector None))
            (λ B keeps h summed. (
              keeps summed,
              fault_by (filesystem vol B) sums c.args.sector (unread_by layout before now) c.in-Err.fault
                  (sym c.in-None.ensures) h,
            )) e.ahead e.content;
        named = less_told e.content;
      };
    }

pub returns-in-Some-unread_stop : goal.returns-in-Some-unread_stop
returns-in-Some-unread_stop g c =
    let vol = c.args.vol.now in
    let layout = vol.store.layout in
    let before = g.R.Rack.seen c.args.rack.now in
    let now = g.R.Rack.seen c.sum_ahead.new.rack in
    let sums : Option TreeRoot = tree_behind c.args.sums in
    let fault = c.in-Err.fault in
    let stop = c.in-Some-unread_stop.stop in
    let is = sym c.in-Some-unread_stop.ensures in
    let r : Result (Option Sum) TreeFault = Err fault in
    let e = c.in-Err.ensures in
    record {
      ran = record {
        reads = e.reads;
        volume = e.volume;
        ready = record { serves = e.serves; room = same_room vol.store c.sum_ahead.new.vol.store e.volume.store c.requires.ready.room };
        cause = stop_unread (IsAnyUnread layout before now) fault stop is (cause_unread layout before now fault e.cause);
        quiet = stop_reading fault stop is;
        told = paired layout (λ B. IsSummed B sums c.args.ahead.now → IsSummed B sums c.sum_ahead.new.ahead)
            (λ (B : Map). Follows (unread_by layout before now) no_part [] (exec B (sum_at (kind_in vol.sup) sums c.args.sector)) [] (answer_of r))
            (λ B. KeepsSums (filesystem vol B) sums c.args.ahead.now c.sum_ahead.new.ahead
            (Unless {A = Option Want} (ReadsBy (filesystem vol B) sums c.args.sector) (Err stop)))
            (λ B keeps h summed. (keeps summed, stop_outside fault stop is)) e.ahead e.content;
        named = drawn layout
            (λ (B : Map). Follows (unread_by layout before now) no_part [] (exec B (sum_at (kind_in vol.sup) sums c.args.sector)) [] (answer_of r))
            (λ (B : Map). StopUnread (IsUnreadOf layout before now (OfSector sums c.args.sector (filesystem vol B))) stop)
            (λ B h. look_unread (filesystem vol B) sums c.args.sector (unread_by layout before now) fault stop is h) e.content;
      };
    }
