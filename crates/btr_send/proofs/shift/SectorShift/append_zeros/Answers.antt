use Rattle.std.proofs.Common.{◌≡◌, ◌%◌, ◌∙◌, ap, sym, arith}
use Rattle.btr_base.specs.Crc.{shifted_by}
use Rattle.btr_base.proofs.Linear.{shifted_by-zero}
use Rattle.btr_send.proofs.Shifting.{bit_in, bit_out}
use Rattle.btr_send.proofs.shift.SectorShift.append_zeros.Goals as goal
use Rattle.btr_send.proofs.shift.SectorShift.append_zeros.Goals.{then-reg-bit-eq1, else-reg-bit-eq1}

pub loop-bit-init : goal.loop-bit-init
loop-bit-init c =
    let none : c.args.reg % 1 ≡ 0 = omega arith in
    sym (ap (shifted_by 32768) none ∙ shifted_by-zero 32768)

pub loop-bit-preserved : goal.loop-bit-preserved
loop-bit-preserved c =
    let before = c.loop-bit.invariant in
    let bit = c.loop-bit.bit in
    elim c.if-reg-bit-eq1.branch [
      | then-reg-bit-eq1 w ↦ w.sum-is ∙ bit_in c.args.reg bit c.loop-bit.sum _ before (c.args.self.now.shifted bit c.loop-bit-test.true) w.if-reg-bit-eq1.true
      | else-reg-bit-eq1 w ↦ w.sum-is ∙ bit_out c.args.reg bit c.loop-bit.sum before w.if-reg-bit-eq1.false
    ]
