use Rattle.std.proofs.Common.{◌∙◌, refl, ap, arith}
use Rattle.std.proofs.lemmas.Nat.{one_shl}
use Rattle.btr_base.specs.Crc.{shifted_by}
use Rattle.btr_send.proofs.Shifting.{register_zeros}
use Rattle.btr_send.proofs.shift.word_of.Goals as goal

pub returns : goal.returns
returns c = c.crc_register.ensures.value ∙ register_zeros _ _ (omega arith) refl ∙ ap (shifted_by 32768) (one_shl c.args.bit 32 c.requires)
