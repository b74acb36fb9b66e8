use Rattle.std.proofs.Common.{◌≡◌, ◌∙◌, ◌+◌, ◌%◌, get_or, sym, arith}
use Rattle.btr_trial.proofs.Patterns.{one_more, other_byte, other_length, same_bytes}
use Rattle.btr_trial.proofs.content.is_pattern.Goals as goal

pub returns-then-bytes-len : goal.returns-then-bytes-len
returns-then-bytes-len c = other_length c.args.bytes.now c.args.first c.args.len c.if-bytes-len.true

pub loop-p-init : goal.loop-p-init
loop-p-init c = λ k below. absurd (omega (arith, below))

pub returns-then-from-first : goal.returns-then-from-first
returns-then-from-first c =
    other_byte c.args.bytes.now c.args.first c.args.len c.loop-p.p (omega (arith, c.loop-p-test.true, c.if-bytes-len.false))
    (λ e. c.if-from-first.true (c.from.ensures ∙ e))

pub loop-p-preserved : goal.loop-p-preserved
loop-p-preserved c = one_more (λ k. get_or c.args.bytes.now k 0 ≡ (c.args.first + k) % 251) c.loop-p.p c.loop-p.invariant
    (sym c.from.ensures ∙ c.if-from-first.false)

pub returns : goal.returns
returns c = same_bytes c.args.bytes.now c.args.first c.args.len c.if-bytes-len.false
    (λ k below. c.loop-p.invariant k (omega (arith, below, c.loop-p-test.false, c.if-bytes-len.false)))
