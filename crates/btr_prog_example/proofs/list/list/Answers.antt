use Rattle.btr_prog.proofs.Successive.{calls_as, calls_then}
use Rattle.btr_prog_example.specs.Blocks.{copies}
use Rattle.btr_prog_example.proofs.Shows.{err_is}
use Rattle.btr_prog_example.proofs.Lists.{far_none, loop_more, loop_early, loop_stops, loop_all, stops_at_once}
use Rattle.btr_prog_example.proofs.list.list.Goals as goal

pub loop-page-init : goal.loop-page-init
loop-page-init g c = rw c.deref-page-items.ensures.value (calls_as
    (λ sure held h. far_none (copies sure held) c.args.catalogue c.in_ok-pages.pages (g.S.Sink.rows c.args.sink.now) h) c.in_ok-pages.ensures)

pub loop-page-preserved : goal.loop-page-preserved
loop-page-preserved g c = calls_then (λ sure held f p. loop_more (copies sure held) c.args.catalogue c.deref-page-items.result.now
    c.loop-page.page-index c.loop-page.last (g.S.Sink.rows c.args.sink.now) (g.S.Sink.rows c.loop-page.sink) (g.S.Sink.rows c.show.new.sink)
    c.loop-page-test.true f c.in_ok-more.more c.if-not-more.false p) c.loop-page.invariant c.in_ok-more.ensures

pub returns-in_err-pages : goal.returns-in_err-pages
returns-in_err-pages g c =
    let e = err_is c.from_residual.result c.in_err-pages.field-0.0 c.from_residual.ensures.1 in
    rw e (calls_as (λ sure held h. stops_at_once (copies sure held) c.args.catalogue (g.S.Sink.rows c.args.sink.now) c.in_err-pages.field-0.0 h)
    c.in_err-pages.ensures)

pub returns-in_err-more : goal.returns-in_err-more
returns-in_err-more g c =
    let e = err_is c.from_residual-in_err-more.result c.in_err-more.field-0.0 c.from_residual-in_err-more.ensures.1 in
    rw e (calls_then (λ sure held f p. loop_stops (copies sure held) c.args.catalogue c.deref-page-items.result.now c.loop-page.page-index
    c.loop-page.last (g.S.Sink.rows c.args.sink.now) (g.S.Sink.rows c.loop-page.sink) (g.S.Sink.rows c.show.new.sink) c.loop-page-test.true f
    c.in_err-more.field-0.0 p) c.loop-page.invariant c.in_err-more.ensures)

pub returns-then-not-more : goal.returns-then-not-more
returns-then-not-more g c = calls_then (λ sure held f p. loop_early (copies sure held) c.args.catalogue c.deref-page-items.result.now
    c.loop-page.page-index c.loop-page.last (g.S.Sink.rows c.args.sink.now) (g.S.Sink.rows c.loop-page.sink) (g.S.Sink.rows c.show.new.sink)
    c.loop-page-test.true f c.in_ok-more.more c.if-not-more.true p) c.loop-page.invariant c.in_ok-more.ensures

pub returns : goal.returns
returns g c = calls_as (λ sure held f. loop_all (copies sure held) c.args.catalogue c.deref-page-items.result.now c.loop-page.page-index
    c.loop-page.last (g.S.Sink.rows c.args.sink.now) (g.S.Sink.rows c.loop-page.sink) c.loop-page-test.false f) c.loop-page.invariant
