use Rattle.std.proofs.Common.{◌≡◌, ℕ, ◌+◌, ap, bit_xor, arith}
use lib.Lanes.{zip2}
use Rattle.btr_base.specs.Fold.{near, sent, received}
use Rattle.btr_base.proofs.Lanes.{IsBlock, summed, relaned}
use Rattle.btr_base.proofs.crc.fold.kept_at.Goals as goal

block : (c : goal.After-sent_near) → IsBlock 16 (λ i. bit_xor (received c.args.dropped.now c.args.bytes.now (c.args.from + (c.args.j + i)))
    (sent near c.args.nearer.now (c.args.j + i)))
    (zip2 bit_xor c.received_at.result c.sent_near.result)
block c =
    let j = c.args.j in
    let from = c.args.from in
    let far_byte : ℕ → ℕ = received c.args.dropped.now c.args.bytes.now in
    let near_sum : ℕ → ℕ = sent near c.args.nearer.now in
    relaned 16 (λ i. bit_xor (far_byte (from + j + i)) (near_sum (j + i))) (λ i. bit_xor (far_byte (from + (j + i))) (near_sum (j + i)))
    (zip2 bit_xor c.received_at.result c.sent_near.result)
    (λ i. let place : from + j + i ≡ from + (j + i) = omega arith in ap (λ p. bit_xor (far_byte p) (near_sum (j + i))) place)
    (summed 16 (λ i. far_byte (from + j + i)) (λ i. near_sum (j + i)) c.received_at.result c.sent_near.result
    (record { long = c.received_at.ensures.long; lanes = c.received_at.ensures.sums })
    (record { long = c.sent_near.ensures.long; lanes = c.sent_near.ensures.sums }))

pub returns-clause-long : goal.returns-clause-long
returns-clause-long c = (block c).long

pub returns-clause-sums : goal.returns-clause-sums
returns-clause-sums c = (block c).lanes
