use Rattle.std.proofs.Common.{◌∙◌, bit_xor, arith}
use Rattle.btr_base.proofs.Tables.{word_by_bytes}
use Rattle.btr_base.proofs.crc.words.after_word.Goals as goal

pub returns : goal.returns
returns c =
    (λ i. bit_xor (bit_xor (bit_xor (c.after_zeros.ensures i) (c.after_zeros-2.ensures i)) (c.after_zeros-3.ensures i)) (c.after_zeros-4.ensures i))
    ∙ word_by_bytes c.args.zeros c.args.word (omega arith)
