use Rattle.std.proofs.Common.{◌≡◌, ℕ, get_or, length, subst, sym, ap, ap₂, ◌∙◌, arith, rules, bit_xor, Fits, w8}
use Rattle.std.specs.Simd.Lanes.{zip2}
use Rattle.std.proofs.lemmas.Nat.{xor_lt}
use Rattle.btr_parity.specs.Field.{product}
use Rattle.btr_parity.specs.Slices.{plus, scaled}
use Rattle.btr_parity.specs.Solutions.{IsTheOne, WeighsWith}
use Rattle.btr_parity.proofs.Entries.{powers_differ}
use Rattle.btr_parity.proofs.Products.{product_comm}
use Rattle.btr_parity.proofs.Slicewise.{zip2-map_map}
use Rattle.btr_parity.proofs.Solving.{bytes_of, sum_pos, first_of_pair, pair_one}
use Rattle.btr_parity.proofs.rebuild.rebuild_pq.Goals as goal

pub inverse-quotient-requires : goal.inverse-quotient-requires
inverse-quotient-requires c =
    sum_pos c.power.result c.power-2.result
    (λ same. powers_differ c.args.x c.args.y (omega arith) (omega arith) c.requires.differ (sym c.power.ensures ∙ same ∙ c.power-2.ensures))

pub returns : goal.returns
returns c =
    let p = c.args.p.now in
    let q = c.args.q.now in
    let a = c.power.result in
    let b = c.power-2.result in
    let w = c.inverse-quotient.result in
    let fits : (i : ℕ) → Fits w8 (get_or p i 0) = search rules in
    let one : product w (bit_xor a b) ≡ 1 =
    product_comm w (bit_xor a b) (omega arith) (xor_lt 8 a b (omega arith) (omega arith)) ∙ c.inverse-quotient.ensures in
    let first : c.of.result.factor ≡ product w b = c.of.ensures ∙ c.product.ensures ∙ ap (product w) (c.power-3.ensures ∙ sym c.power-2.ensures) in
    let same : c.add_scaled.new.acc ≡ zip2 (first_of_pair a b w) p q =
    c.add_scaled.ensures ∙ ap₂ (λ s f. plus s (scaled f q)) (c.scale.ensures ∙ ap (λ f. scaled f p) first) c.of-2.ensures
    ∙ sym (zip2-map_map bit_xor (product (product w b)) (product w) p q) in
    subst (λ X. IsTheOne (length p) (WeighsWith p q c.args.x c.args.y) X) (sym same)
    (pair_one a b w (omega arith) (omega arith) (omega arith) one p q c.args.x c.args.y c.power.ensures c.power-2.ensures c.requires.same_length
    (bytes_of p fits) (bytes_of q c.type_inv.q))
