use Rattle.btr_scrub_copies.proofs.Common.{IsOfCopy}
use Rattle.btr_scrub_copies.proofs.Doing.{does_nothing}
use Rattle.btr_scrub_copies.proofs.overwriting.overwrite_if.Goals as goal

pub returns-then-not-bad-clause-writes : goal.returns-then-not-bad-clause-writes
returns-then-not-bad-clause-writes g c t bytes e block = rw c.if-not-bad.true (does_nothing (IsOfCopy t) _ _)
