use Rattle.std.proofs.Common.{◌∙◌, ◌+◌, ◌-◌, ◌/◌, ◌%◌, false, drop, refl, sym, ap, arith}
use Rattle.std.specs.Fmt.{digits_onto}
use Rattle.std.proofs.lemmas.List.{length-set}
use Rattle.btr_text.proofs.Octal.{octal_begins, octal_step, digit_before}
use Rattle.btr_text.proofs.digits.octal.Goals as goal

pub loop-start-init : goal.loop-start-init
loop-start-init c = record { within = omega arith; size = refl; written = octal_begins c.args.n }

pub loop-start-preserved : goal.loop-start-preserved
loop-start-preserved c =
    let l = c.loop-start in
    record {
      within = omega arith;
      size = length-set l.bytes (l.start - 1) (48 + l.rest % 8) ∙ l.invariant.size;
      written = ap (digits_onto (l.start - 1) 8 false (l.rest / 8)) (digit_before l.bytes l.start (48 + l.rest % 8) c.loop-start-test.true (omega arith))
          ∙ sym (octal_step l.start l.rest (drop l.start l.bytes) c.loop-start-test.true c.if-rest-eq0.false) ∙ l.invariant.written;
    }
