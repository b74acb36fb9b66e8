use Rattle.std.proofs.Common.{Ok, Err, arith}
use Rattle.btr_scrub_row.proofs.Common.{IsOfRow}
use Rattle.btr_rack.specs.declared.error.RackError.TheVariants.{Failed, Memory}
use Rattle.btr_scrub_copies.proofs.Wrote.{wrote}
use Rattle.btr_scrub_row.proofs.writing.write_in.Goals as goal

pub returns-in-Ok-clause-writes : goal.returns-in-Ok-clause-writes
returns-in-Ok-clause-writes g c = λ layout row lies.
    wrote (IsOfRow layout row) _ _ _ _ _ _ lies (omega (arith, c.requires.is_open, c.requires.slots)) (Ok tt) c.write_at.ensures.rest
    c.in-Ok.ensures.held c.in-Ok.ensures.account c.in-Ok.ensures.sure

pub returns-in-Err-Failed-clause-writes : goal.returns-in-Err-Failed-clause-writes
returns-in-Err-Failed-clause-writes g c = λ layout row lies.
    wrote (IsOfRow layout row) _ _ _ _ _ _ lies (omega (arith, c.requires.is_open, c.requires.slots)) (Err Failed) c.write_at.ensures.rest
    (rw c.in-Err-Failed.field-0-is at c.in-Err-Failed.ensures.held) (rw c.in-Err-Failed.field-0-is at c.in-Err-Failed.ensures.account)
    (rw c.in-Err-Failed.field-0-is at c.in-Err-Failed.ensures.sure)

pub returns-in-Err-Memory-clause-writes : goal.returns-in-Err-Memory-clause-writes
returns-in-Err-Memory-clause-writes g c = λ layout row lies.
    wrote (IsOfRow layout row) _ _ _ _ _ _ lies (omega (arith, c.requires.is_open, c.requires.slots)) (Err Memory) c.write_at.ensures.rest
    (rw c.in-Err-Memory.field-0-is at c.in-Err-Memory.ensures.held) (rw c.in-Err-Memory.field-0-is at c.in-Err-Memory.ensures.account)
    (rw c.in-Err-Memory.field-0-is at c.in-Err-Memory.ensures.sure)
