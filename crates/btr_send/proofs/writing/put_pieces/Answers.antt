use Rattle.std.proofs.Common.{Option, Ok, subst}
use Rattle.std.proofs.lemmas.Result.{err_from_is_err_and}
use Rattle.btr_restore.specs.Running.{outside, world}
use Rattle.btr_send.specs.declared.progress.SentPart.{SentPart}
use Rattle.btr_send.specs.Sending.{put}
use Rattle.btr_restore.specs.Writing.{WritesOn}
use Rattle.btr_send.proofs.writing.put_pieces.Goals as goal

pub returns-in_err-put_next-clause-writes : goal.returns-in_err-put_next-clause-writes
returns-in_err-put_next-clause-writes g c whole x text calls l =
    let p = err_from_is_err_and c.from_residual.result c.from_residual.ensures.1 in
    rw (p.1, p.2) (c.in_err-put_next.ensures.writes whole x text calls (c.loop-after.invariant.3 whole x text calls l))

pub returns-in-None-clause-writes : goal.returns-in-None-clause-writes
returns-in-None-clause-writes g c whole x text calls l =
    subst (λ (o : Option SentPart). WritesOn (put c.args.path.now) whole x (world (g.R.Rack.seen c.put_next.new.rack) c.put_next.new.vol (outside
    (g.T.TreeSink.sink c.put_next.new.tree) (g.T.TreeSink.account c.put_next.new.tree) text calls)) c.loop-after.now c.put_next.new.file
    (Ok o)) c.in-None.is
    (c.in_ok-put_next.ensures.writes whole x text calls (c.loop-after.invariant.3 whole x text calls l))
