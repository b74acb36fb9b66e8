use Rattle.std.proofs.Common.{ℕ, ◌+◌, ◌-◌, ◌∙◌, Option, IfSome, length, drop, length-drop, ap, subst, arith}
use Rattle.std.proofs.lemmas.List.{get_or-drop}
use Rattle.btr_base.specs.Crc.{register}
use Rattle.btr_send.specs.Command.{IsLastCrc}
use Rattle.btr_send.proofs.Shifting.{register_parted}
use Rattle.btr_send.proofs.buffer.register_of.Goals as goal

pub returns-in-Some : goal.returns-in-Some
returns-in-Some c =
    let bytes = c.args.bytes.now in
    let n = length bytes - 4096 in
    let known : IsLastCrc bytes c.in-Some.crc = subst (λ (o : Option ℕ). IfSome o (IsLastCrc bytes)) c.in-Some.is c.requires in
    c.register_behind.ensures (drop n bytes) (λ i. omega (arith, get_or-drop n bytes i 0, c.type_inv.bytes (n + i)))
    (omega (arith, length-drop n bytes, known.0)) known.1
    ∙ ap (λ r. register r (drop n bytes)) c.crc_register-in-Some.ensures.value
    ∙ register_parted 0 n bytes (omega arith) (λ i. omega (arith, c.type_inv.bytes i)) (omega arith)
