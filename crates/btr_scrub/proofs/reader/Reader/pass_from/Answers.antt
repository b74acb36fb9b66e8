use Rattle.std.proofs.Common.{◌-◌, ◌+◌, ◌*◌, ◌/◌, ◌≡◌, ◌++◌, sym, ◌∙◌, ap, arith}
use Rattle.btr_scrub.proofs.Common.{plains_from, slice_get_within}
use Rattle.btr_scrub.specs.Listed.{left_in}
use Rattle.btr_scrub.proofs.Reading.{IsInRun, at_plain_last, at_plain_next, one_plain, plain_end_fits, plain_fits}
use Rattle.btr_scrub.proofs.reader.Reader.pass_from.Goals.{In-Some}
use Rattle.btr_scrub.proofs.reader.Reader.pass_from.Goals as goal

-- the reader stands in the run that it read
in_run : (c : In-Some) → IsInRun c.self.inside.listed.now c.self.inside.run c.self.inside.past c.self.inside.sum c.self.inside.mark c.in-Some.run'
in_run c = record { stands = c.self.invariant; there = sym c.in-Some.ensures.run }

pub overflow_add-run : goal.overflow_add-run
overflow_add-run c = omega (arith, c.from.ensures, plain_fits (in_run (goal.at.overflow_add-run c).In-Some) c.in-Unsummed.is)

pub overflow_sub-count : goal.overflow_sub-count
overflow_sub-count c = omega (arith, one_plain (in_run (goal.at.overflow_sub-count c).In-Some) c.in-Unsummed.is)

pub overflow_add-self : goal.overflow_add-self
overflow_add-self c =
    omega (arith, c.in-Some.ensures.few, slice_get_within c.self.inside.listed.now.runs c.self.inside.run c.in-Some.run' (sym c.in-Some.ensures.run))

pub overflow_add-result : goal.overflow_add-result
overflow_add-result c = omega (
  arith,
  c.from.ensures,
  c.from-left.ensures,
  c.if-run-from.false,
  one_plain (in_run (goal.at.overflow_add-result c).In-Some) c.in-Unsummed.is,
  plain_end_fits (in_run (goal.at.overflow_add-result c).In-Some) c.in-Unsummed.is,
)

pub invariant_of-self : goal.invariant_of-self
invariant_of-self c =
    let one = one_plain (in_run (goal.at.invariant_of-self c).In-Some) c.in-Unsummed.is in
    (at_plain_last (in_run (goal.at.invariant_of-self c).In-Some) c.in-Unsummed.is (c.in-Unsummed.count - c.self.inside.past) (omega (arith, one))).1

pub returns-then-below-left : goal.returns-then-below-left
returns-then-below-left c =
    let one = one_plain (in_run (goal.at.returns-then-below-left c).In-Some) c.in-Unsummed.is in
    let n = c.in-Unsummed.count - c.self.inside.past in
    let here : c.in-Some.run'.addr + c.self.inside.past * 4096 ≡ c.args.from = omega (arith, c.from.ensures, c.if-run-from.false) in
    record {
      count = n;
      split = sym c.self.view_is
          ∙ (at_plain_last (in_run (goal.at.returns-then-below-left c).In-Some) c.in-Unsummed.is n (omega (arith, one))).0
          ∙ ap (λ a. plains_from a n ++ left_in c.self.inside.listed.now (c.self.inside.run + 1) 0 c.self.inside.sum c.self.inside.mark) here;
      ends = omega (arith, c.from-left.ensures);
      below = λ i lt. omega (arith, lt, c.from-left.ensures, c.if-from-bound.false, c.if-below-left.true);
    }

pub overflow_add-result-2 : goal.overflow_add-result-2
overflow_add-result-2 c = omega (
  arith,
  c.from.ensures,
  c.from-left.ensures,
  c.if-run-from.false,
  c.if-below-left.false,
  one_plain (in_run (goal.at.overflow_add-result-2 c).In-Some) c.in-Unsummed.is,
  plain_end_fits (in_run (goal.at.overflow_add-result-2 c).In-Some) c.in-Unsummed.is,
)

pub invariant_of-self-2 : goal.invariant_of-self-2
invariant_of-self-2 c =
    let n = (c.args.bound - c.args.from - 1) / 4096 + 1 in
    (at_plain_next (in_run (goal.at.invariant_of-self-2 c).In-Some) c.in-Unsummed.is n (omega (arith, c.if-below-left.false, c.from-left.ensures))).1

pub returns : goal.returns
returns c =
    let n = (c.args.bound - c.args.from - 1) / 4096 + 1 in
    let here : c.in-Some.run'.addr + c.self.inside.past * 4096 ≡ c.args.from = omega (arith, c.from.ensures, c.if-run-from.false) in
    record {
      count = n;
      split = sym c.self.view_is
          ∙ (at_plain_next (in_run (goal.at.returns c).In-Some) c.in-Unsummed.is n (omega (arith, c.if-below-left.false, c.from-left.ensures))).0
          ∙ ap (λ a. plains_from a n ++ left_in c.self.inside.listed.now c.self.inside.run (c.self.inside.past + n) c.self.inside.sum c.self.inside.mark) here;
      ends = omega arith;
      below = λ i lt. omega (arith, lt, c.if-from-bound.false);
    }
