use Rattle.std.proofs.Common.{List, ℕ, ◌<◌, length, drop, sym, ap, ◌∙◌, arith}
use Rattle.std.proofs.lemmas.Bool.{eqb-false}
use Rattle.std.proofs.lemmas.List.{take_rest}
use Rattle.std.proofs.lemmas.Result.{err_from_is_err_and}
use Rattle.btr_chunk.specs.Array.{array_after, array_of, first_pair}
use Rattle.btr_chunk.proofs.Arrays.{array_after-more, array_after-refused, IsArrayReading-refused}
use Rattle.btr_chunk.proofs.array.read_array.Goals as goal

pub returns-in_err-size : goal.returns-in_err-size
returns-in_err-size c =
    let p = err_from_is_err_and c.from_residual.result c.from_residual.ensures.1 in
    let rest = c.loop-rest.rest.now in
    let filled = eqb-false (length rest) 0 (sym c.loop-rest-test.ensures) in
    let some : 0 < length rest = omega arith in
    let fault = c.in_err-size.field-0.0 in
    rw (p.1, p.2)
    (IsArrayReading-refused ℕ (array_of c.args.bytes.now) (first_pair c.loop-rest.table rest) fault c.add_pair.new.table c.in_err-size.ensures.pair
    (λ first. sym c.loop-rest.invariant ∙ array_after-refused c.loop-rest.table rest fault some first))

pub loop-rest-preserved : goal.loop-rest-preserved
loop-rest-preserved c =
    let rest = c.loop-rest.rest.now in
    let filled = eqb-false (length rest) 0 (sym c.loop-rest-test.ensures) in
    let some : 0 < length rest = omega arith in
    let table = c.add_pair.new.table in
    ap (λ (r : List ℕ). array_after (length r) table r) (take_rest rest c.in_ok-size.size)
    ∙ ap (λ (size : ℕ). array_after (length (drop size rest)) table (drop size rest)) c.in_ok-size.ensures.size.0
    ∙ sym (array_after-more c.loop-rest.table rest table some c.in_ok-size.ensures.pair) ∙ c.loop-rest.invariant
