use Rattle.std.proofs.Common.{◌≡◌, ℕ, ◌+◌, ◌*◌, ◌/◌, length, sym, ap, ◌∙◌, arith, bit_xor}
use Rattle.std.specs.Simd.Lanes.{zip2, chunk}
use Rattle.btr_parity.specs.Field.{product}
use Rattle.btr_parity.proofs.Slicewise.{over, over_step, over_lanes, over_all, zip2-map_right}
use Rattle.btr_parity.proofs.multiples.Multiples.add_scaled.Goals as goal

pub loop-k-preserved : goal.loop-k-preserved
loop-k-preserved c =
    let f = c.args.self.now.factor in
    let at : ℕ = 16 * c.loop-k.k in
    let next : at + 16 ≡ 16 * (c.loop-k.k + 1) = omega arith in
    over_lanes (λ x y. bit_xor x (product f y)) c.args.acc.now c.args.piece.now c.loop-k.acc _ at 16 _ c.requires c.loop-k.invariant next
    (ap (zip2 bit_xor (chunk at 16 c.loop-k.acc)) c.times-lanes.ensures
    ∙ sym (zip2-map_right bit_xor (product f) (chunk at 16 c.loop-k.acc) (chunk at 16 c.args.piece.now)))

pub loop-i-init : goal.loop-i-init
loop-i-init c =
    let f = c.args.self.now.factor in
    let all : c.loop-k.k ≡ length c.args.acc.now / 16 = omega arith in
    c.loop-k.invariant ∙ ap (λ k. over (λ x y. bit_xor x (product f y)) (16 * k) c.args.acc.now c.args.piece.now) all

pub loop-i-preserved : goal.loop-i-preserved
loop-i-preserved c =
    let f = c.args.self.now.factor in
    over_step (λ x y. bit_xor x (product f y)) c.args.acc.now c.args.piece.now c.loop-i.acc c.loop-i.i _ c.requires (omega arith) c.loop-i.invariant
    (ap (bit_xor _) c.product.ensures)

pub returns : goal.returns
returns c =
    let f = c.args.self.now.factor in
    c.loop-i.invariant ∙ over_all (λ x y. bit_xor x (product f y)) c.args.acc.now c.args.piece.now c.loop-i.i c.requires (omega arith)
    ∙ zip2-map_right bit_xor (product f) c.args.acc.now c.args.piece.now
