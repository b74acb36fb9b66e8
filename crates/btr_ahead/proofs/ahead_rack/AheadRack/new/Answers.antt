use Rattle.btr_ahead.proofs.ahead_rack.AheadRack.new.Goals as goal

-- nothing is kept yet
pub invariant_of-result : goal.invariant_of-result
invariant_of-result g c = c.new-runs.ensures (g.R.Rack.seen c.args.rack).held
