use Rattle.std.proofs.Common.{arith}
use Rattle.std.proofs.lemmas.List.Elements.{AllWithin-upto, All-from_all_within}
use Rattle.btr_ahead.specs.Reader.{HasRead}
use Rattle.btr_ahead.proofs.runs.clear_all.Goals as goal

pub returns : goal.returns
returns c = λ held. All-from_all_within (HasRead held) _ (AllWithin-upto (HasRead held) _ 0 c.loop-i.i _ (omega (arith, c.loop-i-test.false))
    (c.loop-i.invariant held))
