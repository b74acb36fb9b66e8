use Rattle.std.proofs.Common.{Bool, Ok, subst}
use Rattle.std.proofs.lemmas.Result.{err_from_is_err_and}
use Rattle.btr_walk.proofs.Lending.{same_then}
use Rattle.btr_salvage.specs.Reading.{PassesBy}
use Rattle.btr_salvage.proofs.reading.pass_pieces.Goals as goal

pub returns-in_err-pass_next-clause-passes : goal.returns-in_err-pass_next-clause-passes
returns-in_err-pass_next-clause-passes g c whole start began l =
    let p = err_from_is_err_and c.from_residual.result c.from_residual.ensures.1 in
    rw (p.1, p.2) (c.in_err-pass_next.ensures.passes whole start began (c.loop.invariant.2 whole start began l))

pub loop-preserved : goal.loop-preserved
loop-preserved g c = (
  c.in_ok-pass_next.ensures.ready,
  same_then c.loop.invariant.1 c.in_ok-pass_next.ensures.room,
  λ whole start began l. subst (λ (b : Bool). PassesBy whole start began (g.R.Rack.seen c.pass_next.new.rack) c.pass_next.new.vol c.pass_next.new.file (Ok b))
      c.if-branch.true
      (c.in_ok-pass_next.ensures.passes whole start began (c.loop.invariant.2 whole start began l)),
)

pub returns-clause-passes : goal.returns-clause-passes
returns-clause-passes g c whole start began l =
    subst (λ (b : Bool). PassesBy whole start began (g.R.Rack.seen c.pass_next.new.rack) c.pass_next.new.vol c.pass_next.new.file (Ok b))
    c.if-branch.false
    (c.in_ok-pass_next.ensures.passes whole start began (c.loop.invariant.2 whole start began l))
