use Rattle.std.proofs.Common.{◌+◌, ◌-◌, arith}
use Rattle.btr_read.proofs.InOrder.{pair_at, others_below, others_above}
use Rattle.btr_scrub_row.proofs.accepting.way_of.Goals as goal

pub returns-then-other-index : goal.returns-then-other-index
returns-then-other-index c = record {
  one = λ slices few. absurd (omega (arith, c.in_default, few));
  two = λ slices lt below.
      pair_at slices c.args.index c.args.k (c.args.k - 3) (c.args.k - 3) lt (omega (arith, c.in_default)) (omega (arith, c.in_default, below))
      (others_below slices c.args.index (c.args.k - 3) 0 c.if-other-index.true);
  parts = λ slices lt below. (omega (arith, lt, c.if-other-index.true), λ e. omega (arith, e, c.if-other-index.true));
  first = λ few reads. omega (arith, c.in_default, few);
}

pub returns-else-other-index : goal.returns-else-other-index
returns-else-other-index c = record {
  one = λ slices few. absurd (omega (arith, c.in_default, few));
  two = λ slices lt below.
      pair_at slices c.args.index c.args.k (c.args.k - 3) (c.args.k - 3 + 1) lt (omega (arith, c.in_default)) (omega (arith, c.in_default, below))
      (others_above slices c.args.index (c.args.k - 3) 0 c.if-other-index.false (omega (arith, c.in_default, below)));
  parts = λ slices lt below. (omega (arith, c.in_default, below), λ e. omega (arith, e, c.if-other-index.false));
  first = λ few reads. omega (arith, c.in_default, few);
}
