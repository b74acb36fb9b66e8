use Rattle.std.proofs.Common.{Ok, Err, sym, ◌∙◌, arith}
use Rattle.btr_rack.specs.declared.error.RackError.TheVariants.{Failed, Memory}
use Rattle.btr_scrub_copies.proofs.Standing.{placed_copy, wrote_loan}
use Rattle.btr_scrub_copies.proofs.overwriting.overwrite.Goals as goal

pub bounds-marks-place : goal.bounds-marks-place
bounds-marks-place g c =
    let is = placed_copy c.args.mirror _ c.requires.open c.requires.copied c.place_of_copy-place.ensures in omega (arith, is.slot, c.requires.slots)

pub write_at-requires-clause-open : goal.write_at-requires-clause-open
write_at-requires-clause-open g c = let is = placed_copy c.args.mirror _ c.requires.open c.requires.copied c.place_of_copy-place.ensures in is.slot

pub write_at-requires-clause-range : goal.write_at-requires-clause-range
write_at-requires-clause-range g c =
    let is = placed_copy c.args.mirror _ c.requires.open c.requires.copied c.place_of_copy-place.ensures in
    omega (arith, is.within, is.len, c.bytes-bytes.ensures.len, c.requires.len)

pub returns-in-Ok-clause-writes : goal.returns-in-Ok-clause-writes
returns-in-Ok-clause-writes g c t bytes e block =
    wrote_loan _ c.args.want.now t c.args.mirror _ _ bytes _ _ _ c.requires.open c.requires.slots e (c.place_of_copy-place.ensures t e)
    (c.requires.mirror t e) (c.bytes-bytes.ensures.len ∙ c.requires.len) (sym c.bytes-bytes.ensures.value ∙ block) (Ok tt) c.write_at.ensures.rest
    c.in-Ok.ensures.held c.in-Ok.ensures.account c.in-Ok.ensures.sure

pub returns-in-Err-Failed-clause-writes : goal.returns-in-Err-Failed-clause-writes
returns-in-Err-Failed-clause-writes g c t bytes e block =
    wrote_loan _ c.args.want.now t c.args.mirror _ _ bytes _ _ _ c.requires.open c.requires.slots e (c.place_of_copy-place.ensures t e)
    (c.requires.mirror t e) (c.bytes-bytes.ensures.len ∙ c.requires.len) (sym c.bytes-bytes.ensures.value ∙ block) (Err Failed) c.write_at.ensures.rest
    (rw c.in-Err-Failed.field-0-is at c.in-Err-Failed.ensures.held) (rw c.in-Err-Failed.field-0-is at c.in-Err-Failed.ensures.account)
    (rw c.in-Err-Failed.field-0-is at c.in-Err-Failed.ensures.sure)

pub returns-in-Err-Memory-clause-writes : goal.returns-in-Err-Memory-clause-writes
returns-in-Err-Memory-clause-writes g c t bytes e block =
    wrote_loan _ c.args.want.now t c.args.mirror _ _ bytes _ _ _ c.requires.open c.requires.slots e (c.place_of_copy-place.ensures t e)
    (c.requires.mirror t e) (c.bytes-bytes.ensures.len ∙ c.requires.len) (sym c.bytes-bytes.ensures.value ∙ block) (Err Memory) c.write_at.ensures.rest
    (rw c.in-Err-Memory.field-0-is at c.in-Err-Memory.ensures.held) (rw c.in-Err-Memory.field-0-is at c.in-Err-Memory.ensures.account)
    (rw c.in-Err-Memory.field-0-is at c.in-Err-Memory.ensures.sure)
