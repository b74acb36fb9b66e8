use Rattle.std.proofs.Common.{◌≡◌, ◌*◌, ◌%◌, cond, ltb, ap, ◌∙◌, arith, bit_xor}
use Rattle.std.proofs.lemmas.Bool.Decides.{nat_tests}
use Rattle.btr_parity.proofs.Products.{doubles}
use Rattle.btr_parity.proofs.field.doubled.Goals as goal
use Rattle.btr_parity.proofs.field.doubled.Goals.{then-b-lt128, else-b-lt128}

pub returns : goal.returns
returns c =
    let chosen : c.if-b-lt128.result ≡ cond (ltb c.args.b 128) 0 0x1D =
    elim c.if-b-lt128.branch [ then-b-lt128 w ↦ grind (arith, nat_tests) | else-b-lt128 w ↦ grind (arith, nat_tests) ] in
    ap (bit_xor (c.args.b * 2 % 256)) chosen ∙ doubles c.args.b (omega arith)
