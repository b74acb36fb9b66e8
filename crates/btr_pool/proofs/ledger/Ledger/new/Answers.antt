use Rattle.btr_pool.proofs.Bits.{all_free}
use Rattle.std.proofs.Common.{arith}
use Rattle.btr_pool.proofs.ledger.Ledger.new.Goals as goal

pub invariant_of-result : goal.invariant_of-result
invariant_of-result c =
    let fresh = all_free c.args.count c.requires.few in
    record { few = c.requires.few; within = fresh.within; start = omega arith }

pub returns : goal.returns
returns c = let fresh = all_free c.args.count c.requires.few in fresh.view
