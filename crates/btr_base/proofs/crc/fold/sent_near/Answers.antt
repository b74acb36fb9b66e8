use Rattle.std.proofs.Common.{◌+◌, bit_xor, arith}
use lib.Lanes.{zip2}
use Rattle.btr_base.specs.Fold.{near, sent}
use Rattle.btr_base.proofs.Lanes.{IsBlock, near_block}
use Rattle.btr_base.proofs.crc.fold.sent_near.Goals as goal

block : (c : goal.After-load-7) → IsBlock 16 (λ i. sent near c.args.dropped.now (c.args.j + i)) (zip2 bit_xor (zip2 bit_xor (zip2 bit_xor
    (zip2 bit_xor (zip2 bit_xor (zip2 bit_xor c.load.result c.load-2.result) c.load-3.result) c.load-4.result) c.load-5.result) c.load-6.result)
    c.load-7.result)
block c =
    near_block 16 c.args.j c.args.dropped.now c.load.result c.load-2.result c.load-3.result c.load-4.result c.load-5.result c.load-6.result c.load-7.result
    (omega (arith, c.requires, c.told-dropped))
    c.load.ensures c.load-2.ensures c.load-3.ensures c.load-4.ensures c.load-5.ensures c.load-6.ensures c.load-7.ensures

pub returns-clause-long : goal.returns-clause-long
returns-clause-long c = (block c).long

pub returns-clause-sums : goal.returns-clause-sums
returns-clause-sums c = (block c).lanes
