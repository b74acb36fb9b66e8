use Rattle.std.proofs.Common.{◌-◌, ◌∙◌, ap, arith}
use Rattle.std.specs.Int.Bits.{bit_xor}
use Rattle.btr_send.proofs.Shifting.{register_joined}
use Rattle.btr_send.proofs.shift.SectorShift.register_behind.Goals as goal

pub returns : goal.returns
returns c bytes are_bytes long is =
    ap (λ x. bit_xor x (4294967295 - c.args.crc)) c.append_zeros.ensures
    ∙ register_joined c.args.reg c.args.crc bytes (omega arith) are_bytes long is
