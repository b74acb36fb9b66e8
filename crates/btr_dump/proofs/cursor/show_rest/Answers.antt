use Rattle.std.proofs.Common.{◌∙◌, Bool, Ok, Err, refl, subst}
use Rattle.std.proofs.lemmas.Result.{err_from_is_err_and}
use Rattle.btr_rack.proofs.Reading.{reads_none, reads_more}
use Rattle.btr_walk.specs.Reading.{unread_by}
use Rattle.btr_walk.proofs.Fetched.{since}
use Rattle.btr_walk.proofs.Joined.{joined, unread_on}
use Rattle.btr_walk.proofs.Lending.{same_none, same_then}
use Rattle.btr_walk.proofs.Staying.{room_same}
use Rattle.btr_walk.proofs.Turns.{same_layout}
use Rattle.btr_dump.specs.Showing.{TurnRankFalls}
use Rattle.btr_dump.proofs.Growing.{grows_none, grows_twice}
use Rattle.btr_dump.proofs.Loops.{Led, Turned, Shows, goes_none, led_more, led_ends, led_stops}
use Rattle.btr_dump.proofs.Telling.{stop_cause_since, counts_since}
use Rattle.btr_dump.proofs.cursor.show_rest.Goals as goal

pub loop-init : goal.loop-init
loop-init g c =
    let store = c.args.store.now in
    let cursor = c.args.cursor.now in
    let text = g.O.Out.text c.args.out.now in
    let waits = c.args.text.now in
    record {
      ready = c.requires.ready;
      reads = reads_none (g.R.Rack.seen c.args.rack.now);
      others = same_none _;
      room = c.requires.room;
      layout = refl;
      account = refl;
      grows = grows_none text;
      tells = unread_on store.layout (λ B. Led g.C.Cursor.on g.C.Cursor.left B store store cursor cursor text text waits waits)
          (λ B seen on. goes_none (λ ws. g.C.Cursor.on B ws cursor) _ seen text waits on);
    }

pub show_next-requires-clause-ready : goal.show_next-requires-clause-ready
show_next-requires-clause-ready g c = c.loop.invariant.ready

pub show_next-requires-clause-room : goal.show_next-requires-clause-room
show_next-requires-clause-room g c = c.loop.invariant.room

pub loop-smaller : goal.loop-smaller
loop-smaller g c =
    subst (λ r. TurnRankFalls (g.C.Cursor.rank c.loop.cursor) (g.C.Cursor.rank c.show_next.new.self) (Ok r)) c.if-not-branch.false
    c.in_ok-show_next.ensures.rank_falls

pub loop-preserved : goal.loop-preserved
loop-preserved g c =
    let l = c.loop in
    let s = c.in_ok-show_next.ensures in
    let new = c.show_next.new in
    let was = unread_by l.store.layout (g.R.Rack.seen l.rack) (g.R.Rack.seen new.rack) in
    let begun = g.O.Out.text c.args.out.now in
    let mid = g.O.Out.text l.out in
    let text = g.O.Out.text new.out in
    let on = g.C.Cursor.on in
    let left = g.C.Cursor.left in
    record {
      ready = s.ready;
      reads = reads_more l.invariant.reads s.reads;
      others = same_then l.invariant.others s.others;
      room = room_same _ _ g.C.Cursor.room s.others l.invariant.room;
      layout = same_layout l.store new.store _ _ s.others ∙ l.invariant.layout;
      account = s.account ∙ l.invariant.account;
      grows = grows_twice l.invariant.grows s.grows;
      tells = joined (λ B. Led on left B c.args.store.now l.store c.args.cursor.now l.cursor begun mid c.args.text.now l.text)
          (λ B. Turned on left was B l.store new.store l.cursor new.self mid text l.text new.text (Ok c.in_ok-show_next.field-0))
          (λ B. Led on left B c.args.store.now new.store c.args.cursor.now new.self begun text c.args.text.now new.text) l.invariant.layout
          (λ B led turned. led_more on left B c.args.store.now l.store new.store c.args.cursor.now l.cursor new.self begun mid text c.args.text.now
          l.text new.text was led
          (subst (λ r. Turned on left was B l.store new.store l.cursor new.self mid text l.text new.text (Ok r)) c.if-not-branch.false turned))
          l.invariant.tells s.content;
    }

pub returns-in_err-show_next-clause-reads : goal.returns-in_err-show_next-clause-reads
returns-in_err-show_next-clause-reads g c = reads_more c.loop.invariant.reads c.in_err-show_next.ensures.reads

pub returns-in_err-show_next-clause-others : goal.returns-in_err-show_next-clause-others
returns-in_err-show_next-clause-others g c = same_then c.loop.invariant.others c.in_err-show_next.ensures.others

pub returns-in_err-show_next-clause-account : goal.returns-in_err-show_next-clause-account
returns-in_err-show_next-clause-account g c =
    let p = err_from_is_err_and c.from_residual.result c.from_residual.ensures.1 in
    rw (p.1, p.2)
    (counts_since Bool (Unit {0}) _ _ _ c.in_err-show_next.field-0.0 c.loop.invariant.account c.in_err-show_next.ensures.account)

pub returns-in_err-show_next-clause-cause : goal.returns-in_err-show_next-clause-cause
returns-in_err-show_next-clause-cause g c =
    let p = err_from_is_err_and c.from_residual.result c.from_residual.ensures.1 in
    rw (p.1, p.2)
    (stop_cause_since Bool (Unit {0}) _ c.args.store.now.layout c.loop.store.layout c.in_err-show_next.field-0.0
    c.loop.invariant.layout c.loop.invariant.reads c.in_err-show_next.ensures.cause)

pub returns-in_err-show_next-clause-grows : goal.returns-in_err-show_next-clause-grows
returns-in_err-show_next-clause-grows g c = grows_twice c.loop.invariant.grows c.in_err-show_next.ensures.grows

pub returns-in_err-show_next-clause-content : goal.returns-in_err-show_next-clause-content
returns-in_err-show_next-clause-content g c =
    let l = c.loop in
    let new = c.show_next.new in
    let is = unread_by c.args.store.now.layout (g.R.Rack.seen c.args.rack.now) (g.R.Rack.seen new.rack) in
    let was = unread_by l.store.layout (g.R.Rack.seen l.rack) (g.R.Rack.seen new.rack) in
    let begun = g.O.Out.text c.args.out.now in
    let mid = g.O.Out.text l.out in
    let text = g.O.Out.text new.out in
    let on = g.C.Cursor.on in
    let left = g.C.Cursor.left in
    let p = err_from_is_err_and c.from_residual.result c.from_residual.ensures.1 in
    rw (p.1, p.2)
    (joined (λ B. Led on left B c.args.store.now l.store c.args.cursor.now l.cursor begun mid c.args.text.now l.text)
    (λ B. Turned on left was B l.store new.store l.cursor new.self mid text l.text new.text (Err c.in_err-show_next.field-0.0))
    (λ B. Shows on left is B c.args.store.now c.args.cursor.now begun text c.args.text.now new.text (Err c.in_err-show_next.field-0.0)) l.invariant.layout
    (λ B led turned. led_stops on left B c.args.store.now l.store new.store c.args.cursor.now l.cursor new.self begun mid text c.args.text.now l.text
    new.text was is (since _ _ l.invariant.layout l.invariant.reads) led c.in_err-show_next.field-0.0 turned)
    l.invariant.tells c.in_err-show_next.ensures.content)

pub returns-then-not-branch-clause-reads : goal.returns-then-not-branch-clause-reads
returns-then-not-branch-clause-reads g c = reads_more c.loop.invariant.reads c.in_ok-show_next.ensures.reads

pub returns-then-not-branch-clause-others : goal.returns-then-not-branch-clause-others
returns-then-not-branch-clause-others g c = same_then c.loop.invariant.others c.in_ok-show_next.ensures.others

pub returns-then-not-branch-clause-account : goal.returns-then-not-branch-clause-account
returns-then-not-branch-clause-account g c = c.in_ok-show_next.ensures.account ∙ c.loop.invariant.account

pub returns-then-not-branch-clause-grows : goal.returns-then-not-branch-clause-grows
returns-then-not-branch-clause-grows g c = grows_twice c.loop.invariant.grows c.in_ok-show_next.ensures.grows

pub returns-then-not-branch-clause-content : goal.returns-then-not-branch-clause-content
returns-then-not-branch-clause-content g c =
    let l = c.loop in
    let new = c.show_next.new in
    let is = unread_by c.args.store.now.layout (g.R.Rack.seen c.args.rack.now) (g.R.Rack.seen new.rack) in
    let was = unread_by l.store.layout (g.R.Rack.seen l.rack) (g.R.Rack.seen new.rack) in
    let begun = g.O.Out.text c.args.out.now in
    let mid = g.O.Out.text l.out in
    let text = g.O.Out.text new.out in
    let on = g.C.Cursor.on in
    let left = g.C.Cursor.left in
    joined (λ B. Led on left B c.args.store.now l.store c.args.cursor.now l.cursor begun mid c.args.text.now l.text)
    (λ B. Turned on left was B l.store new.store l.cursor new.self mid text l.text new.text (Ok c.in_ok-show_next.field-0))
    (λ B. Shows on left is B c.args.store.now c.args.cursor.now begun text c.args.text.now new.text (Ok tt)) l.invariant.layout
    (λ B led turned. led_ends on left B c.args.store.now l.store new.store c.args.cursor.now l.cursor new.self begun mid text c.args.text.now l.text
    new.text was is (since _ _ l.invariant.layout l.invariant.reads) led
    (subst (λ r. Turned on left was B l.store new.store l.cursor new.self mid text l.text new.text (Ok r)) c.if-not-branch.true turned))
    l.invariant.tells c.in_ok-show_next.ensures.content
