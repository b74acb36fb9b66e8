use Rattle.std.proofs.Common.{false, set, ap, ◌∙◌, inl, inr, arith}
use Rattle.btr_read.specs.Candidates.{Target}
use Rattle.btr_read.specs.Store.{kept_want}
use Rattle.btr_read.proofs.Nodes.{nodes_more, nodes_with}
use Rattle.btr_read.proofs.Taken.{taken_written, taken_back}
use Rattle.btr_read.proofs.fetching.find.Goals as goal

pub returns-in-First : goal.returns-in-First
returns-in-First g c =
    let p0 = c.args.pool.now in
    let w0 = c.args.kept.now.wants in
    let p3 = c.try_all.new.pool in
    let w3 = c.try_all.new.kept.wants in
    let k = c.take_least-slot.result in
    let a = c.take_least-slot.ensures in
    let e = c.in-First.ensures in
    let taken = taken_written p0 c.take_least-slot.new.pool p3 w0 c.take_least-slot.new.kept.wants w3 k a.free a.lent a.forgotten e.pool e.kept in
    let want = c.search.inside.want.now in
    let one = c.keep.ensures.kept ∙ ap (λ n. set w3 n (kept_want want)) c.slot.ensures in
    let nodes = c.keep.ensures.nodes ∙ ap (λ n. set c.try_all.new.kept.nodes n false) c.slot.ensures ∙ ap (λ ns. set ns k false) (e.nodes ∙ a.nodes) in
    record {
      reads = e.reads;
      shape = taken.shape;
      taken = record { free = taken.free; writes = taken.writes };
      refused = tt;
      found = inl (
        record {
          then = w3;
          room = omega (arith, c.keep.ensures.room, c.slot.ensures);
          still = taken.still;
          one = one ∙ ap (λ (t : Target). set w3 k (kept_want t.want)) c.search.view_is;
        },
        e.outcome,
      );
      nodes = nodes_more w0 w3 c.keep.new.self.wants c.args.kept.now.nodes c.keep.new.self.nodes p0 p3 k (kept_want want) taken.still one nodes;
    }

pub returns-in-Later : goal.returns-in-Later
returns-in-Later g c =
    let p0 = c.args.pool.now in
    let w0 = c.args.kept.now.wants in
    let p3 = c.try_all.new.pool in
    let w3 = c.try_all.new.kept.wants in
    let a = c.take_least-slot.ensures in
    let e = c.in-Later.ensures in
    let taken = taken_written p0 c.take_least-slot.new.pool p3 w0 c.take_least-slot.new.kept.wants w3 c.take_least-slot.result a.free a.lent a.forgotten
    e.pool e.kept in
    record {
      reads = e.reads;
      shape = taken.shape;
      taken = record { free = taken.free; writes = taken.writes };
      refused = tt;
      found = inr (taken.still, e.outcome);
      nodes = nodes_with w0 w3 c.args.kept.now.nodes c.try_all.new.kept.nodes p0 p3 taken.still (e.nodes ∙ a.nodes);
    }

pub returns-in-Lost : goal.returns-in-Lost
returns-in-Lost g c =
    let p0 = c.args.pool.now in
    let w0 = c.args.kept.now.wants in
    let p3 = c.try_all.new.pool in
    let w3 = c.try_all.new.kept.wants in
    let k = c.take_least-slot.result in
    let a = c.take_least-slot.ensures in
    let e = c.in-Lost.ensures in
    let taken = taken_written p0 c.take_least-slot.new.pool p3 w0 c.take_least-slot.new.kept.wants w3 k a.free a.lent a.forgotten e.pool e.kept in
    let back = taken_back p0 p3 c.give.new.self w0 w3 k c.requires.whole taken c.give.ensures in
    record {
      reads = e.reads;
      shape = back.shape;
      taken = tt;
      refused = back.loans;
      found = (back.still, e.outcome.0, e.outcome.1);
      nodes = nodes_with w0 w3 c.args.kept.now.nodes c.try_all.new.kept.nodes p0 c.give.new.self back.still (e.nodes ∙ a.nodes);
    }

pub returns-in-Unread : goal.returns-in-Unread
returns-in-Unread g c =
    let p0 = c.args.pool.now in
    let w0 = c.args.kept.now.wants in
    let p3 = c.try_all.new.pool in
    let w3 = c.try_all.new.kept.wants in
    let p4 = c.give-in-Unread.new.self in
    let k = c.take_least-slot.result in
    let a = c.take_least-slot.ensures in
    let e = c.in-Unread.ensures in
    let taken = taken_written p0 c.take_least-slot.new.pool p3 w0 c.take_least-slot.new.kept.wants w3 k a.free a.lent a.forgotten e.pool e.kept in
    let back = taken_back p0 p3 p4 w0 w3 k c.requires.whole taken c.give-in-Unread.ensures in
    record {
      reads = e.reads;
      shape = back.shape;
      taken = tt;
      refused = back.loans;
      found = (back.still, e.outcome);
      nodes = nodes_with w0 w3 c.args.kept.now.nodes c.try_all.new.kept.nodes p0 p4 back.still (e.nodes ∙ a.nodes);
    }
