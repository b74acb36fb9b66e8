use Rattle.std.proofs.Common.{◌≡◌, ℕ, List, Ok, Err, true, refl, sym, ap, subst, ◌∙◌}
use Rattle.std.specs.Bool.{⊤}
use Rattle.btr_rack.specs.Rack.{Seen}
use Rattle.btr_read.specs.Fetch.{AnswersOf, FitsFetch}
use Rattle.btr_read.specs.Layout.{Layout}
use Rattle.btr_read.specs.Store.{Blocks}
use Rattle.btr_read.specs.declared.fault.ReadFault.{ReadFault}
use Rattle.btr_read.specs.declared.fault.ReadFault.TheVariants as read
use Rattle.btr_read.specs.declared.want.Want.{Want}
use Rattle.btr_read.specs.declared.want.Want.TheVariants.{Tree}
use Rattle.btr_walk.specs.Reading.{Map, tree_fault}
use Rattle.btr_walk.specs.declared.fault.TreeFault.{TreeFault}
use Rattle.btr_walk.proofs.Joined.{drawn}
use Rattle.btr_walk.proofs.Lending.{given_back, served_back}
use Rattle.btr_walk.proofs.Turns.{same_room}
use Rattle.btr_volume.specs.declared.stop.Stop.TheVariants as stop
use Rattle.btr_volume.specs.declared.stop.Stop.TheVariants.{Memory}
use Rattle.btr_check.specs.Counting.{BlockCounts}
use Rattle.btr_check.specs.Running.{FaultUnread, IsAnyUnread, IsUnreadOf, is_unread}
use Rattle.btr_check.proofs.Counts.{block_counted}
use Rattle.btr_check.proofs.Runs.{fault_more}
use Rattle.btr_check.proofs.counting.count_block.Goals as goal

-- a block that is there fails for no other reason than that it could not be read
fails_unread : (B : Map) (want : Want) (store : Blocks) (f : ReadFault) (t : TreeFault) → t ≡ tree_fault f → AnswersOf want store (Err f) B
    → (block : List ℕ) → B want ≡ Ok block → is_unread t ≡ true
fails_unread B want store (read.Lost a) t e came block there = absurd (cc (sym came ∙ there))
fails_unread B want store (read.Unread a slot) t e came block there = ap is_unread e
fails_unread B want store (read.Unmapped a) t e came block there = absurd (cc (sym came ∙ there))
fails_unread B want store (read.Crosses a) t e came block there = absurd (cc (sym came ∙ there))

-- and then it is this want, with its cause
has_cause : (layout : Layout) (old new : Seen) (want : Want) (store : Blocks) (f : ReadFault) → FitsFetch layout want old new store (Err f)
    → FaultUnread (IsUnreadOf layout old new (λ w. w ≡ want)) (tree_fault f)
has_cause layout old new want store (read.Lost a) fits = tt
has_cause layout old new want store (read.Unread a slot) fits = (want, refl, fits)
has_cause layout old new want store (read.Unmapped a) fits = tt
has_cause layout old new want store (read.Crosses a) fits = tt

pub returns-in-Err : goal.returns-in-Err
returns-in-Err g c =
    let place = c.args.place.now in
    let want : Want = Tree place.addr place.generation place.level in
    let vol = c.args.vol.now in
    let layout = vol.store.layout in
    let before = g.R.Rack.seen c.args.rack.now in
    let now = g.R.Rack.seen c.fetch.new.rack in
    let e = c.in-Err.ensures in
    let named = subst (FaultUnread (IsUnreadOf layout before now (λ w. w ≡ want))) (sym c.from.ensures)
    (has_cause layout before now want c.fetch.new.store c.in-Err.fault e.answer) in
    record {
      ran = record {
        reads = e.reads;
        volume = record { sup = refl; store = e.refused };
        ready = record { serves = e.serves; room = same_room vol.store c.fetch.new.store e.refused c.requires.ready.room };
        cause = fault_more (IsUnreadOf layout before now (λ w. w ≡ want)) (IsAnyUnread layout before now) (λ u h. (h.0, tt, h.2)) c.from.result named;
        quiet = tt;
        told = drawn layout (AnswersOf want c.fetch.new.store (Err c.in-Err.fault))
            (λ B. BlockCounts B place c.args.by_address c.args.forward.now c.args.forward.now (Err (stop.Tree c.from.result)))
            (λ B came block there. fails_unread B want c.fetch.new.store c.in-Err.fault c.from.result c.from.ensures came block there)
            (record { calls = e.calls tt });
        named = drawn layout (AnswersOf want c.fetch.new.store (Err c.in-Err.fault))
            (λ B. FaultUnread (IsUnreadOf layout before now (λ w. w ≡ want)) c.from.result)
            (λ B came. named) (record { calls = e.calls tt });
      };
    }

pub returns-in-Ok-counted : goal.returns-in-Ok-counted
returns-in-Ok-counted g c =
    let place = c.args.place.now in
    let want : Want = Tree place.addr place.generation place.level in
    let layout = c.args.vol.now.store.layout in
    let e = c.in-Ok.ensures in
    let loans = given_back c.args.vol.now.store c.fetch.new.store c.give.new.self want c.in-Ok.loan e.lent c.give.ensures in
    record {
      ran = record {
        reads = e.reads;
        volume = record { sup = refl; store = loans };
        ready = record {
          serves = served_back (g.R.Rack.seen c.fetch.new.rack) c.fetch.new.store c.give.new.self c.in-Ok.loan e.serves c.give.ensures;
          room =
              same_room c.args.vol.now.store c.give.new.self loans c.requires.ready.room;
        };
        cause = tt;
        quiet = tt;
        told = drawn layout (AnswersOf want c.fetch.new.store (Ok c.in-Ok.loan))
            (λ B. BlockCounts B place c.args.by_address c.args.forward.now c.add_block-counted.new.self (Ok tt))
            (λ B came. block_counted B want place c.fetch.new.store c.in-Ok.loan c.bytes-block.result.now c.args.by_address c.args.forward.now
            c.add_block-counted.new.self c.bytes-block.ensures.value came (λ block there. there) c.in-Ok-counted.ensures)
            (record { calls = e.calls tt });
        named = drawn layout (AnswersOf want c.fetch.new.store (Ok c.in-Ok.loan)) (λ B. ⊤) (λ B came. tt) (record { calls = e.calls tt });
      };
    }

pub returns-in-Err-counted : goal.returns-in-Err-counted
returns-in-Err-counted g c =
    let place = c.args.place.now in
    let want : Want = Tree place.addr place.generation place.level in
    let layout = c.args.vol.now.store.layout in
    let e = c.in-Ok.ensures in
    let loans = given_back c.args.vol.now.store c.fetch.new.store c.give.new.self want c.in-Ok.loan e.lent c.give.ensures in
    record {
      ran = record {
        reads = e.reads;
        volume = record { sup = refl; store = loans };
        ready = record {
          serves = served_back (g.R.Rack.seen c.fetch.new.rack) c.fetch.new.store c.give.new.self c.in-Ok.loan e.serves c.give.ensures;
          room =
              same_room c.args.vol.now.store c.give.new.self loans c.requires.ready.room;
        };
        cause = tt;
        quiet = tt;
        told = drawn layout (AnswersOf want c.fetch.new.store (Ok c.in-Ok.loan))
            (λ B. BlockCounts B place c.args.by_address c.args.forward.now c.add_block-counted.new.self (Err Memory))
            (λ B came block there. refl)
            (record { calls = e.calls tt });
        named = drawn layout (AnswersOf want c.fetch.new.store (Ok c.in-Ok.loan)) (λ B. ⊤) (λ B came. tt) (record { calls = e.calls tt });
      };
    }
