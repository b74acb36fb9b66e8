use Rattle.std.proofs.Common.{◌∙◌, ◌/◌, sym, ap, bit_xor}
use Rattle.btr_base.specs.Crc.{shifted_by}
use Rattle.btr_base.proofs.Linear.{shifted_byte_low}
use Rattle.btr_base.proofs.crc.words.take_byte.Goals as goal

pub returns : goal.returns
returns c =
    let sum = bit_xor c.args.reg c.from.result in
    ap (λ low. bit_xor low (sum / 256)) c.after_zeros.ensures
    ∙ sym (shifted_byte_low sum) ∙ ap (λ byte. shifted_by 8 (bit_xor c.args.reg byte)) c.from.ensures
