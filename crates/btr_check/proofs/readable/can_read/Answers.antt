use Rattle.std.proofs.Common.{◌≡◌, Bool, true, is_ok}
use Rattle.std.specs.Prelude.{IsTrue}
use Rattle.btr_check.specs.Counting.{Unless}
use Rattle.btr_check.specs.Running.{world}
use Rattle.btr_check.proofs.Runs.{ran_then}
use Rattle.btr_check.proofs.readable.can_read.Goals as goal

pub returns-clause-ran : goal.returns-clause-ran
returns-clause-ran g c =
    let want = c.args.want.now in
    let vol = c.args.vol.now in
    ran_then {A = Bool} {C = Bool} (λ fs. IsTrue c.is_ahead.result → is_ok (fs.blocks want) ≡ true)
    (λ fs. Unless (λ can. can ≡ is_ok (fs.blocks want)) c.can_fetch.result) (λ fs. Unless (λ can. can ≡ is_ok (fs.blocks want)) c.can_fetch.result)
    (world (g.R.Rack.seen c.args.rack.now) vol) (world (g.R.Rack.seen c.is_ahead.new.rack) vol)
    (world (g.R.Rack.seen c.can_fetch.new.rack) c.can_fetch.new.vol) c.is_ahead.result c.can_fetch.result c.is_ahead.ensures.ran c.can_fetch.ensures.ran
    (λ B p q. q) (λ B p want w. w)
