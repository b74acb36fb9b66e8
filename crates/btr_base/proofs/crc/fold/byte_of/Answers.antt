use Rattle.std.proofs.Common.{◌*◌, ◌/◌, ◌%◌, ◌^◌, ◌∙◌, ap}
use Rattle.std.proofs.lemmas.Nat.{and_mask}
use Rattle.btr_base.proofs.Words.{pow_bytes}
use Rattle.btr_base.proofs.crc.fold.byte_of.Goals as goal

pub returns : goal.returns
returns c = and_mask (c.args.reg / 2 ^ (8 * c.args.number)) 8 ∙ ap (λ n. c.args.reg / n % 256) (pow_bytes c.args.number)
