use Rattle.std.proofs.Common.{◌≡◌, ℕ, ◌%◌, ◌/◌, ◌^◌, bit_xor, sym, ap, ap₂, ◌∙◌, arith}
use Rattle.std.specs.Int.Bits.{xor_zero_r}
use Rattle.std.proofs.lemmas.Nat.Bits.{shr_and_one}
use Rattle.btr_parity.specs.Field.{product}
use Rattle.btr_parity.proofs.Products.{product_more, product_same, product-power_more, product-power_none, product-zero}
use Rattle.btr_parity.proofs.field.product.Goals as goal
use Rattle.btr_parity.proofs.field.product.Goals.{then-b-k-eq1, else-b-k-eq1}

pub loop-k-init : goal.loop-k-init
loop-k-init c =
    let nothing : c.args.b % 2 ^ 0 ≡ 0 = omega arith in
    (sym (product-power_none c.args.a (omega arith)), sym (ap (product c.args.a) nothing ∙ product-zero c.args.a))

not_one : (n : ℕ) → (n % 2 ≡ 1 → ⊥) → n % 2 ≡ 0
not_one n h = omega arith

pub loop-k-preserved : goal.loop-k-preserved
loop-k-preserved c = (
  c.doubled-multiple.ensures ∙ ap (product 2) c.loop-k.invariant.0 ∙ product-power_more c.args.a c.loop-k.k (omega arith),
  elim c.if-b-k-eq1.branch [
    | then-b-k-eq1 w ↦
        ap₂ bit_xor c.loop-k.invariant.1 (w.sum-is ∙ c.loop-k.invariant.0)
        ∙ product_more c.args.a c.args.b c.loop-k.k (omega arith) (sym (shr_and_one c.args.b c.loop-k.k) ∙ w.if-b-k-eq1.true)
    | else-b-k-eq1 w ↦
        let bit : c.args.b / 2 ^ c.loop-k.k % 2 ≡ 0 = not_one (c.args.b / 2 ^ c.loop-k.k) (λ e. w.if-b-k-eq1.false (shr_and_one c.args.b c.loop-k.k ∙ e)) in
        ap (bit_xor c.loop-k.sum) w.sum-is ∙ xor_zero_r c.loop-k.sum ∙ c.loop-k.invariant.1 ∙ product_same c.args.a c.args.b c.loop-k.k bit
  ],
)

pub returns : goal.returns
returns c =
    let end : c.loop-k.k ≡ 8 = omega arith in
    let whole : c.args.b % 2 ^ 8 ≡ c.args.b = omega arith in
    c.loop-k.invariant.1 ∙ ap (product c.args.a) (ap (λ k. c.args.b % 2 ^ k) end ∙ whole)
