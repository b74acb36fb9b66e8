use Rattle.btr_ahead.proofs.ahead_rack.AheadRackRack.open.Goals as goal

-- nothing is kept any more
pub invariant_of-self-in_default-answer-2 : goal.invariant_of-self-in_default-answer-2
invariant_of-self-in_default-answer-2 g c = c.clear.ensures (g.R.Rack.seen c.open-answer.new.self).held
