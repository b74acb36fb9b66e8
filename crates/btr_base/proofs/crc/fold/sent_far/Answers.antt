use Rattle.std.proofs.Common.{◌+◌, bit_xor, arith}
use lib.Lanes.{zip2}
use Rattle.btr_base.specs.Fold.{far, sent}
use Rattle.btr_base.proofs.Lanes.{IsBlock, far_block}
use Rattle.btr_base.proofs.crc.fold.sent_far.Given as given
use Rattle.btr_base.proofs.crc.fold.sent_far.Goals as goal

block : (g : given.Over) (c : goal.After-load-5 g) → IsBlock g.row.N (λ i. sent far c.args.dropped.now (c.args.j + i))
    (zip2 bit_xor (zip2 bit_xor (zip2 bit_xor (zip2 bit_xor c.load.result c.load-2.result) c.load-3.result) c.load-4.result) c.load-5.result)
block g c =
    far_block g.row.N c.args.j c.args.dropped.now c.load.result c.load-2.result c.load-3.result c.load-4.result c.load-5.result
    (omega (arith, c.requires, c.told-dropped))
    c.load.ensures c.load-2.ensures c.load-3.ensures c.load-4.ensures c.load-5.ensures

pub returns-clause-long : goal.returns-clause-long
returns-clause-long g c = (block g c).long

pub returns-clause-sums : goal.returns-clause-sums
returns-clause-sums g c = (block g c).lanes
