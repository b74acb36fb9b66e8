use Rattle.std.proofs.Common.{arith, w64}
use Rattle.std.proofs.lemmas.Nat.Bits.{bit_at-trailing_zeros}
use Rattle.btr_pool.proofs.Bits.{lowest_is_one}
use Rattle.btr_pool.proofs.ledger.lowest_one.Goals as goal

pub returns-then-ahead-ne0-clause-one : goal.returns-then-ahead-ne0-clause-one
returns-then-ahead-ne0-clause-one c = lowest_is_one c.args.bits _ (omega arith) c.if-ahead-ne0.true

pub returns-then-bits-ne0-clause-one : goal.returns-then-bits-ne0-clause-one
returns-then-bits-ne0-clause-one c = let lowest = bit_at-trailing_zeros w64 c.args.bits (omega arith) (omega arith) in lowest.1
