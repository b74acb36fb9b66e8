use Rattle.std.proofs.Common.{◌≡◌, ◌<◌, ◌+◌, ◌*◌, ◌%◌, ◌∙◌, ap, arith, refl, true, bit_and}
use Rattle.std.proofs.lemmas.Nat.{and_mask}
use Rattle.btr_base.specs.Crc.{shifted_by}
use Rattle.btr_base.specs.declared.crc.tables.TheConstants.{AFTER_ZEROS}
use Rattle.btr_base.proofs.Tables.{tables_from, table_from}
use Rattle.btr_base.proofs.crc.words.after_zeros.Goals as goal

tables_fit : tables_from 0 AFTER_ZEROS ≡ true
unfolding shifted_by
tables_fit = refl

pub returns : goal.returns
returns c =
    let low : bit_and c.args.word 255 ≡ c.args.word % 256 = and_mask c.args.word 8 in
    let small : bit_and c.args.word 255 < 256 = omega (arith, low) in
    table_from 0 AFTER_ZEROS c.args.zeros (bit_and c.args.word 255) tables_fit c.requires small
    ∙ ap (λ n. shifted_by (8 * (n + 1)) (bit_and c.args.word 255)) (omega arith) ∙ ap (shifted_by (8 * (c.args.zeros + 1))) low
