use Rattle.std.proofs.Common.{◌≡◌, ◌+◌, ◌∙◌, arith}
use Rattle.btr_scrub_copies.proofs.Common.{IsOfCopy}
use Rattle.btr_scrub_copies.proofs.Doing.{does_halt, does_passed, does_then}
use Rattle.btr_scrub_copies.proofs.Flags.{written_first, written_more}
use Rattle.btr_scrub_copies.proofs.overwriting.write_over.Goals as goal

pub overwrite_if-requires-clause-open : goal.overwrite_if-requires-clause-open
overwrite_if-requires-clause-open g c = rw c.loop-mirror.invariant.slots c.requires.open

pub returns-in_err-overwrite_if-clause-writes : goal.returns-in_err-overwrite_if-clause-writes
returns-in_err-overwrite_if-clause-writes g c t bytes e block =
    let flags = c.args.judged.now.bad.flags in
    let m = c.loop-mirror.mirror in
    let first = written_first t bytes flags (m + 1) c.args.judged.now.block.copies (omega (arith, c.loop-mirror-test.true)) in
    does_passed c.from_residual.ensures.1 (rw (first.1, written_more t bytes flags m) (does_halt (IsOfCopy t) (Unit {0}) (Unit {0}) _ first.0 _ _ _ _ _
    (does_then (IsOfCopy t) _ _ _ _ _ _ _ _ _ _ _ _ (c.loop-mirror.invariant.done t bytes e block) (c.in_err-overwrite_if.ensures.writes t bytes e block))))

pub loop-mirror-preserved : goal.loop-mirror-preserved
loop-mirror-preserved g c = record {
  slots = c.overwrite_if.ensures.slots ∙ c.loop-mirror.invariant.slots;
  done = λ t bytes e block. rw (written_more t bytes c.args.judged.now.bad.flags c.loop-mirror.mirror) (does_then (IsOfCopy t) _ _ _ _ _ _ _ _ _ _ _ _
      (c.loop-mirror.invariant.done t bytes e block) (c.in_ok-overwrite_if.ensures.writes t bytes e block));
}

pub returns-clause-writes : goal.returns-clause-writes
returns-clause-writes g c t bytes e block =
    let whole : c.loop-mirror.mirror ≡ c.args.judged.now.block.copies = omega arith in
    rw whole at (c.loop-mirror.invariant.done t bytes e block)
