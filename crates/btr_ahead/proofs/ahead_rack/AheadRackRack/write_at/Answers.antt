use Rattle.btr_ahead.proofs.ahead_rack.AheadRackRack.write_at.Goals as goal

-- nothing is kept any more
pub invariant_of-self : goal.invariant_of-self
invariant_of-self g c = c.clear.ensures (g.R.Rack.seen c.write_at-answer.new.self).held
