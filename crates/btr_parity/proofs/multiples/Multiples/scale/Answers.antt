use Rattle.std.proofs.Common.{◌≡◌, ℕ, ◌+◌, ◌*◌, ◌/◌, length, refl, sym, ap, ◌∙◌, arith}
use Rattle.std.specs.Simd.Lanes.{zip2, chunk}
use Rattle.btr_parity.specs.Field.{product}
use Rattle.btr_parity.proofs.Slicewise.{over, over_step, over_lanes, over_all, chunk-over, zip2_of_first}
use Rattle.btr_parity.proofs.multiples.Multiples.scale.Goals as goal

pub loop-k-preserved : goal.loop-k-preserved
loop-k-preserved c =
    let f = c.args.self.now.factor in
    let at : ℕ = 16 * c.loop-k.k in
    let next : at + 16 ≡ 16 * (c.loop-k.k + 1) = omega arith in
    over_lanes (λ x y. product f x) c.args.slice.now c.args.slice.now c.loop-k.slice _ at 16 _ refl c.loop-k.invariant next
    (c.times-lanes.ensures ∙ sym (zip2_of_first (product f) (chunk at 16 c.loop-k.slice))
    ∙ ap (λ b. zip2 (λ x y. product f x) (chunk at 16 c.loop-k.slice) b)
    (ap (chunk at 16) c.loop-k.invariant ∙ chunk-over (λ x y. product f x) at 16 c.args.slice.now c.args.slice.now refl))

pub loop-i-init : goal.loop-i-init
loop-i-init c =
    let f = c.args.self.now.factor in
    let all : c.loop-k.k ≡ length c.args.slice.now / 16 = omega arith in
    c.loop-k.invariant ∙ ap (λ k. over (λ x y. product f x) (16 * k) c.args.slice.now c.args.slice.now) all

pub loop-i-preserved : goal.loop-i-preserved
loop-i-preserved c =
    let f = c.args.self.now.factor in
    over_step (λ x y. product f x) c.args.slice.now c.args.slice.now c.loop-i.slice c.loop-i.i _ refl (omega arith) c.loop-i.invariant (c.product.ensures)

pub returns : goal.returns
returns c =
    let f = c.args.self.now.factor in
    c.loop-i.invariant ∙ over_all (λ x y. product f x) c.args.slice.now c.args.slice.now c.loop-i.i refl (omega arith)
    ∙ zip2_of_first (product f) c.args.slice.now
