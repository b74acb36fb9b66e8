use Rattle.std.proofs.Common.{◌≡◌, ℕ, get_or, length, subst, sym, ap, ◌∙◌, arith, rules, Fits, w8}
use Rattle.btr_parity.specs.Field.{product, power}
use Rattle.btr_parity.specs.Slices.{scaled}
use Rattle.btr_parity.specs.Solutions.{IsTheOne, Weighs}
use Rattle.btr_parity.proofs.Entries.{power_pos}
use Rattle.btr_parity.proofs.Solving.{bytes_of, weighs_one}
use Rattle.btr_parity.proofs.rebuild.rebuild_q.Goals as goal

pub inverse-requires : goal.inverse-requires
inverse-requires c = omega (arith, power_pos c.args.index (omega arith))

pub returns : goal.returns
returns c =
    let fits : (i : ℕ) → Fits w8 (get_or c.args.acc.now i 0) = search rules in
    let one : product (power c.args.index) c.inverse.result ≡ 1 = sym (ap (λ a. product a c.inverse.result) c.power.ensures) ∙ c.inverse.ensures in
    subst (λ X. IsTheOne (length c.args.acc.now) (Weighs c.args.index c.args.acc.now) X)
    (sym (c.scale.ensures ∙ ap (λ f. scaled f c.args.acc.now) c.of.ensures))
    (weighs_one c.args.index c.inverse.result c.args.acc.now (omega arith) one (bytes_of c.args.acc.now fits))
