use Rattle.std.proofs.Common.{◌∙◌, bit_xor, slice_index}
use Rattle.btr_base.specs.Fold.{after}
use Rattle.btr_base.proofs.Tables.{four_taken}
use Rattle.btr_base.proofs.crc.words.take_four.Goals as goal

pub returns : goal.returns
unfolding after
returns c =
    let word = slice_index c.args.words in
    (λ i. bit_xor (bit_xor (bit_xor (c.after_word.ensures i) (c.after_word-2.ensures i)) (c.after_word-3.ensures i)) (c.after_word-4.ensures i))
    ∙ four_taken (bit_xor c.args.reg (word 0)) (word 1) (word 2) (word 3)
