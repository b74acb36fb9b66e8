use Rattle.std.proofs.Common.{◌≡◌, ◌<◌, ◌^◌, ◌∙◌, sym, ap, arith}
use Rattle.std.specs.Fmt.{decimal}
use Rattle.std.proofs.lemmas.Fmt.{parse-decimal}
use Rattle.std.proofs.lemmas.Slice.Eq.{bytes_eq-Decides}
use Rattle.btr_run.proofs.Numerals.{number_read, number_none}
use Rattle.btr_run.proofs.place.number.Goals as goal

pub returns-in_default : goal.returns-in_default
returns-in_default c = sym (number_none c.args.word.now
    (λ n is. absurd (cc (parse-decimal 64 n c.args.word.now c.parse.result is.0 is.0 is.1 c.parse.ensures.value.0, c.in_default.is))))

pub returns-then-eq : goal.returns-then-eq
returns-then-eq c =
    let small : c.in-Ok.n < 2 ^ 64 = omega arith in
    let same = (bytes_eq-Decides c.format.result.now c.args.word.now).0 (sym c.eq.ensures ∙ c.if-eq.true) in
    sym (number_read c.in-Ok.n c.args.word.now (small, sym same ∙ c.format.ensures.text))

pub returns-else-eq : goal.returns-else-eq
returns-else-eq c =
    sym (number_none c.args.word.now (λ n is.
    let read : c.in-Ok.n ≡ n = cc (parse-decimal 64 n c.args.word.now c.parse.result is.0 is.0 is.1 c.parse.ensures.value.0, c.in-Ok.is) in
    let same = c.format.ensures.text ∙ ap decimal read ∙ sym is.1 in
    absurd (cc (sym c.if-eq.false ∙ c.eq.ensures ∙ (bytes_eq-Decides c.format.result.now c.args.word.now).1 same))))
