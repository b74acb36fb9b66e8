use Rattle.std.proofs.Common.{◌||◌, false, get_or, ap, ◌∙◌, arith}
use Rattle.btr_scrub_row.proofs.Common.{meets_piece}
use Rattle.std.proofs.lemmas.List.{get_or-set_other, length-set}
use Rattle.btr_scrub_copies.proofs.Lists.{flag_more}
use Rattle.btr_scrub_row.proofs.judged.marked.Goals as goal

pub loop-column-preserved : goal.loop-column-preserved
loop-column-preserved c = record {
  long = length-set c.loop-column.flags c.loop-column.column c.either.result ∙ c.loop-column.invariant.long;
  done = λ k lt.
      flag_more c.loop-column.flags c.loop-column.column k c.either.result (λ j. get_or c.args.flags j false || meets_piece j c.args.piece.now)
      (omega (arith, c.loop-column.invariant.long, c.loop-column-test.true)) c.loop-column.invariant.done
      (c.either.ensures ∙ ap (λ a. a || c.meets.result) (c.loop-column.invariant.rest c.loop-column.column (omega arith))
      ∙ ap (λ b. get_or c.args.flags c.loop-column.column false || b) c.meets.ensures) lt;
  rest = λ k le. get_or-set_other c.loop-column.flags c.loop-column.column k c.either.result false (λ e. absurd (omega (arith, e, le)))
      ∙ c.loop-column.invariant.rest k (omega (arith, le));
}
