use Rattle.std.proofs.Common.{◌+◌, get_or, bit_xor}
use lib.Lanes.{zip2}
use Rattle.btr_base.specs.Fold.{far, sent, received}
use Rattle.btr_base.proofs.Lanes.{IsBlock, loaded, summed}
use Rattle.btr_base.proofs.crc.fold.received_at.Given as given
use Rattle.btr_base.proofs.crc.fold.received_at.Goals as goal

block : (g : given.Over) (c : goal.After-sent_far g) → IsBlock g.row.N (λ i. received c.args.dropped.now c.args.bytes.now (c.args.j + i))
    (zip2 bit_xor c.load.result c.sent_far.result)
block g c =
    let j = c.args.j in
    summed g.row.N (λ i. get_or c.args.bytes.now (j + i) 0) (λ i. sent far c.args.dropped.now (j + i)) c.load.result c.sent_far.result
    (loaded g.row.N j c.args.bytes.now c.load.result c.requires.bytes c.load.ensures)
    (record { long = c.sent_far.ensures.long; lanes = c.sent_far.ensures.sums })

pub returns-clause-long : goal.returns-clause-long
returns-clause-long g c = (block g c).long

pub returns-clause-sums : goal.returns-clause-sums
returns-clause-sums g c = (block g c).lanes
