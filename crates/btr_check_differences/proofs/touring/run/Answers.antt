use Rattle.std.proofs.Common.{◌∙◌, Ok, Err, refl, subst}
use Rattle.std.proofs.lemmas.Result.{err_from_is_err_and}
use Rattle.btr_rack.proofs.Reading.{reads_none, reads_more}
use Rattle.btr_base.specs.declared.memory.Memory.{Memory}
use Rattle.btr_walk.specs.Reading.{unread_by}
use Rattle.btr_walk.proofs.Fetched.{since}
use Rattle.btr_walk.proofs.Joined.{joined, unread_on}
use Rattle.btr_walk.proofs.Lending.{same_none, same_then}
use Rattle.btr_walk.proofs.Turns.{same_layout, same_room}
use Rattle.btr_tour.specs.Visits.{IsMet, IsRun}
use Rattle.btr_tour.proofs.Marks.{Led, led_none, led_more, led_ends, any_fault}
use Rattle.btr_check_differences.proofs.touring.run.Goals as goal

pub loop-init : goal.loop-init
loop-init g c =
    let is = unread_by c.args.store.now.layout (g.R.Rack.seen c.args.rack.now) (g.R.Rack.seen c.args.rack.now) in
    record {
      ready = c.requires.ready;
      reads = reads_none _;
      others = same_none _;
      room = c.requires.room;
      layout = refl;
      tells = unread_on c.args.store.now.layout (λ B. Led g.V.Visitor.step B c.args.store.now c.args.tour.now c.args.visitor.now is c.args.store.now
          c.args.tour.now c.args.visitor.now)
          (λ B. led_none g.V.Visitor.step B c.args.store.now c.args.tour.now c.args.visitor.now is);
    }

pub loop-preserved : goal.loop-preserved
loop-preserved g c =
    let l = c.loop in
    let s = c.in_ok-meet_next.ensures in
    let was = unread_by c.args.store.now.layout (g.R.Rack.seen c.args.rack.now) (g.R.Rack.seen l.rack) in
    let now = unread_by l.store.layout (g.R.Rack.seen l.rack) (g.R.Rack.seen c.meet_next.new.rack) in
    let is = unread_by c.args.store.now.layout (g.R.Rack.seen c.args.rack.now) (g.R.Rack.seen c.meet_next.new.rack) in
    record {
      ready = s.ready;
      reads = reads_more l.invariant.reads s.reads;
      others = same_then l.invariant.others s.others;
      room = same_room _ _ s.others l.invariant.room;
      layout = same_layout l.store c.meet_next.new.store _ _ s.others ∙ l.invariant.layout;
      tells = joined (λ B. Led g.V.Visitor.step B c.args.store.now c.args.tour.now c.args.visitor.now was l.store l.tour l.visitor)
          (λ B. IsMet g.V.Visitor.step now B {E = Memory} l.store c.meet_next.new.store l.tour c.meet_next.new.tour l.visitor
          c.meet_next.new.visitor (Ok c.in_ok-meet_next.field-0))
          (λ B. Led g.V.Visitor.step B c.args.store.now c.args.tour.now c.args.visitor.now is c.meet_next.new.store c.meet_next.new.tour
          c.meet_next.new.visitor) l.invariant.layout
          (λ B led met. led_more g.V.Visitor.step B c.args.store.now c.args.tour.now c.args.visitor.now was is l.store l.tour l.visitor Memory
          now c.meet_next.new.store c.meet_next.new.tour c.meet_next.new.visitor led
          (subst (λ r. IsMet g.V.Visitor.step now B {E = Memory} l.store c.meet_next.new.store l.tour c.meet_next.new.tour l.visitor
          c.meet_next.new.visitor (Ok r)) c.if-branch.true met))
          l.invariant.tells s.content;
    }

pub returns-clause-content : goal.returns-clause-content
returns-clause-content g c =
    let l = c.loop in
    let was = unread_by c.args.store.now.layout (g.R.Rack.seen c.args.rack.now) (g.R.Rack.seen l.rack) in
    let now = unread_by l.store.layout (g.R.Rack.seen l.rack) (g.R.Rack.seen c.meet_next.new.rack) in
    let is = unread_by c.args.store.now.layout (g.R.Rack.seen c.args.rack.now) (g.R.Rack.seen c.meet_next.new.rack) in
    joined (λ B. Led g.V.Visitor.step B c.args.store.now c.args.tour.now c.args.visitor.now was l.store l.tour l.visitor)
    (λ B. IsMet g.V.Visitor.step now B {E = Memory} l.store c.meet_next.new.store l.tour c.meet_next.new.tour l.visitor c.meet_next.new.visitor
    (Ok c.in_ok-meet_next.field-0))
    (λ B. IsRun g.V.Visitor.step is B {E = Memory} c.args.store.now c.args.tour.now c.args.visitor.now c.meet_next.new.visitor (Ok tt))
    l.invariant.layout
    (λ B led met. led_ends g.V.Visitor.step B c.args.store.now c.args.tour.now c.args.visitor.now was is l.store l.tour l.visitor Memory now
    c.meet_next.new.store c.meet_next.new.tour c.meet_next.new.visitor led
    (subst (λ r. IsMet g.V.Visitor.step now B {E = Memory} l.store c.meet_next.new.store l.tour c.meet_next.new.tour l.visitor
    c.meet_next.new.visitor (Ok r)) c.if-branch.false met))
    l.invariant.tells c.in_ok-meet_next.ensures.content

pub returns-in_err-meet_next-clause-content : goal.returns-in_err-meet_next-clause-content
returns-in_err-meet_next-clause-content g c =
    let l = c.loop in
    let was = unread_by c.args.store.now.layout (g.R.Rack.seen c.args.rack.now) (g.R.Rack.seen l.rack) in
    let now = unread_by l.store.layout (g.R.Rack.seen l.rack) (g.R.Rack.seen c.meet_next.new.rack) in
    let is = unread_by c.args.store.now.layout (g.R.Rack.seen c.args.rack.now) (g.R.Rack.seen c.meet_next.new.rack) in
    let p = err_from_is_err_and c.from_residual.result c.from_residual.ensures.1 in
    rw (p.1, p.2)
    (joined (λ B. Led g.V.Visitor.step B c.args.store.now c.args.tour.now c.args.visitor.now was l.store l.tour l.visitor)
    (λ B. IsMet g.V.Visitor.step now B {E = Memory} l.store c.meet_next.new.store l.tour c.meet_next.new.tour l.visitor c.meet_next.new.visitor
    (Err c.in_err-meet_next.field-0.0))
    (λ B. IsRun g.V.Visitor.step is B {E = Memory} c.args.store.now c.args.tour.now c.args.visitor.now c.meet_next.new.visitor
    (Err c.in_err-meet_next.field-0.0)) l.invariant.layout
    (λ B led met. any_fault g.V.Visitor.step B c.args.store.now c.args.tour.now c.args.visitor.now was is l.store l.tour l.visitor Memory now
    c.meet_next.new.store c.meet_next.new.tour c.meet_next.new.visitor c.in_err-meet_next.field-0.0 (since _ _ l.invariant.layout l.invariant.reads) led met)
    l.invariant.tells c.in_err-meet_next.ensures.content)
