use Rattle.std.proofs.Common.{◌<◌, length, ap, arith}
use Rattle.btr_pool.proofs.Bits.{length-lent_of, freed}
use Rattle.btr_pool.proofs.ledger.Ledger.release.Goals as goal

pub overflow_shl-self : goal.overflow_shl-self
overflow_shl-self c = omega (arith, length-lent_of c.self.inside.count c.self.inside.free, ap length c.self.view_is, c.requires, c.self.invariant.few)

pub invariant_of-self : goal.invariant_of-self
invariant_of-self c =
    let ledger = c.self.inside in
    let below : c.args.slot < ledger.count = omega (arith, length-lent_of ledger.count ledger.free, ap length c.self.view_is, c.requires) in
    let after = freed ledger.count ledger.free c.args.slot c.args.self.now c.self.view_is c.self.invariant.within c.self.invariant.few below in
    record { few = c.self.invariant.few; within = after.within; start = c.self.invariant.start }

pub returns : goal.returns
returns c =
    let ledger = c.self.inside in
    let below : c.args.slot < ledger.count = omega (arith, length-lent_of ledger.count ledger.free, ap length c.self.view_is, c.requires) in
    let after = freed ledger.count ledger.free c.args.slot c.args.self.now c.self.view_is c.self.invariant.within c.self.invariant.few below in
    after.after
