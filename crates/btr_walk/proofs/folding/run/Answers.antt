use Rattle.std.proofs.Common.{Ok, Err, Some, None, subst, ◌∙◌}
use Rattle.std.proofs.lemmas.Result.{err_from_is_err_and}
use Rattle.btr_rack.proofs.Reading.{reads_more}
use Rattle.btr_walk.specs.Folding.{IsTurned, IsRun}
use Rattle.btr_walk.specs.Reading.{unread_by}
use Rattle.btr_walk.proofs.Fetched.{since}
use Rattle.btr_walk.proofs.Joined.{joined}
use Rattle.btr_walk.proofs.Lending.{same_then}
use Rattle.btr_walk.proofs.Turns.{Led, led_more, led_ends, same_layout, same_room}
use Rattle.btr_walk.proofs.folding.run.Goals as goal

pub returns-in_err-take_next-clause-content : goal.returns-in_err-take_next-clause-content
returns-in_err-take_next-clause-content g c =
    let f = c.loop-out in
    let is = unread_by c.args.store.now.layout (g.R.Rack.seen c.args.rack.now) (g.R.Rack.seen c.take_next.new.rack) in
    let was = unread_by f.store.layout (g.R.Rack.seen f.rack) (g.R.Rack.seen c.take_next.new.rack) in
    let p = err_from_is_err_and c.from_residual.result c.from_residual.ensures.1 in
    rw (p.1, p.2)
    (joined (λ B. Led g.F.Folder.step g.F.Folder.answer B c.args.store.now c.args.scan.now c.args.state.now f.store f.scan f.state)
    (λ B. IsTurned g.F.Folder.step g.F.Folder.answer {E = g.row.E.Denot} was B f.store c.take_next.new.store f.scan c.take_next.new.scan f.state
    c.take_next.new.state (Err c.in_err-take_next.field-0.0))
    (λ B. IsRun g.F.Folder.step g.F.Folder.answer {E = g.row.E.Denot} is B c.args.store.now c.args.scan.now c.args.state.now c.take_next.new.state
    (Err c.in_err-take_next.field-0.0)) f.invariant.layout
    (λ B l t. led_ends g.F.Folder.step g.F.Folder.answer B c.args.store.now c.args.scan.now c.args.state.now was f.store f.scan f.state f.invariant.lo
    f.invariant.hi {E = g.row.E.Denot} is (Err c.in_err-take_next.field-0.0) (since _ _ f.invariant.layout f.invariant.reads) l t)
    f.invariant.tells c.in_err-take_next.ensures.content)

pub returns-in-Last-clause-content : goal.returns-in-Last-clause-content
returns-in-Last-clause-content g c =
    let f = c.loop-out in
    let is = unread_by c.args.store.now.layout (g.R.Rack.seen c.args.rack.now) (g.R.Rack.seen c.take_next.new.rack) in
    let was = unread_by f.store.layout (g.R.Rack.seen f.rack) (g.R.Rack.seen c.take_next.new.rack) in
    joined (λ B. Led g.F.Folder.step g.F.Folder.answer B c.args.store.now c.args.scan.now c.args.state.now f.store f.scan f.state)
    (λ B. IsTurned g.F.Folder.step g.F.Folder.answer {E = g.row.E.Denot} was B f.store c.take_next.new.store f.scan c.take_next.new.scan f.state
    c.take_next.new.state (Ok c.in_ok-take_next.field-0))
    (λ B. IsRun g.F.Folder.step g.F.Folder.answer {E = g.row.E.Denot} is B c.args.store.now c.args.scan.now c.args.state.now c.take_next.new.state
    (Ok None)) f.invariant.layout
    (λ B l t. led_ends g.F.Folder.step g.F.Folder.answer B c.args.store.now c.args.scan.now c.args.state.now was f.store f.scan f.state f.invariant.lo
    f.invariant.hi {E = g.row.E.Denot} is (Ok (g.F.Folder.answer c.take_next.new.state)) (since _ _ f.invariant.layout f.invariant.reads) l
    (subst (λ r. IsTurned g.F.Folder.step g.F.Folder.answer {E = g.row.E.Denot} was B f.store c.take_next.new.store f.scan c.take_next.new.scan
    f.state c.take_next.new.state (Ok r)) c.in-Last.is t))
    f.invariant.tells c.in_ok-take_next.ensures.content

pub returns-in-Out-clause-content : goal.returns-in-Out-clause-content
returns-in-Out-clause-content g c =
    let f = c.loop-out in
    let is = unread_by c.args.store.now.layout (g.R.Rack.seen c.args.rack.now) (g.R.Rack.seen c.take_next.new.rack) in
    let was = unread_by f.store.layout (g.R.Rack.seen f.rack) (g.R.Rack.seen c.take_next.new.rack) in
    joined (λ B. Led g.F.Folder.step g.F.Folder.answer B c.args.store.now c.args.scan.now c.args.state.now f.store f.scan f.state)
    (λ B. IsTurned g.F.Folder.step g.F.Folder.answer {E = g.row.E.Denot} was B f.store c.take_next.new.store f.scan c.take_next.new.scan f.state
    c.take_next.new.state (Ok c.in_ok-take_next.field-0))
    (λ B. IsRun g.F.Folder.step g.F.Folder.answer {E = g.row.E.Denot} is B c.args.store.now c.args.scan.now c.args.state.now c.take_next.new.state
    (Ok (Some c.in-Out.out))) f.invariant.layout
    (λ B l t. led_ends g.F.Folder.step g.F.Folder.answer B c.args.store.now c.args.scan.now c.args.state.now was f.store f.scan f.state f.invariant.lo
    f.invariant.hi {E = g.row.E.Denot} is (Ok c.in-Out.out) (since _ _ f.invariant.layout f.invariant.reads) l
    (subst (λ r. IsTurned g.F.Folder.step g.F.Folder.answer {E = g.row.E.Denot} was B f.store c.take_next.new.store f.scan c.take_next.new.scan
    f.state c.take_next.new.state (Ok r)) c.in-Out.is t))
    f.invariant.tells c.in_ok-take_next.ensures.content

pub loop-out-preserved : goal.loop-out-preserved
loop-out-preserved g c =
    let f = c.loop-out in
    let is = unread_by c.args.store.now.layout (g.R.Rack.seen c.args.rack.now) (g.R.Rack.seen c.take_next.new.rack) in
    let was = unread_by f.store.layout (g.R.Rack.seen f.rack) (g.R.Rack.seen c.take_next.new.rack) in
    let s = c.in_ok-take_next.ensures in
    record {
      ready = s.ready;
      reads = reads_more f.invariant.reads s.reads;
      others = same_then f.invariant.others s.others;
      room = same_room _ _ s.others f.invariant.room;
      layout = same_layout f.store c.take_next.new.store _ _ s.others ∙ f.invariant.layout;
      lo = s.lo ∙ f.invariant.lo;
      hi = s.hi ∙ f.invariant.hi;
      tells = joined (λ B. Led g.F.Folder.step g.F.Folder.answer B c.args.store.now c.args.scan.now c.args.state.now f.store f.scan f.state)
          (λ B. IsTurned g.F.Folder.step g.F.Folder.answer {E = g.row.E.Denot} was B f.store c.take_next.new.store f.scan c.take_next.new.scan f.state
          c.take_next.new.state (Ok c.in_ok-take_next.field-0))
          (λ B. Led g.F.Folder.step g.F.Folder.answer B c.args.store.now c.args.scan.now c.args.state.now c.take_next.new.store c.take_next.new.scan
          c.take_next.new.state) f.invariant.layout
          (λ B l t. led_more g.F.Folder.step g.F.Folder.answer B c.args.store.now c.args.scan.now c.args.state.now was f.store f.scan f.state
          f.invariant.lo f.invariant.hi g.row.E.Denot c.take_next.new.store c.take_next.new.scan c.take_next.new.state l
          (subst (λ r. IsTurned g.F.Folder.step g.F.Folder.answer {E = g.row.E.Denot} was B f.store c.take_next.new.store f.scan
          c.take_next.new.scan f.state c.take_next.new.state (Ok r)) c.in-More.is t))
          f.invariant.tells s.content;
    }
