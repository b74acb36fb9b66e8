use Rattle.std.proofs.Common.{refl, ◌∙◌, arith}
use Rattle.btr_scrub_row.proofs.Common.{IsOfRow, column_writes, does_nothing, does_passed, length-range_with_len, part_of, range_with_len, take_all}
use Rattle.btr_scrub_row.proofs.Columns.{column_at, columns_told}
use Rattle.btr_scrub_row.proofs.Wrote.{can_still, flat_cut, flat_next, flat_told-none, tells_still}
use Rattle.btr_scrub_row.proofs.sectors.write_parity.Goals as goal

pub loop-column-init : goal.loop-column-init
loop-column-init g c = record {
  slots = refl;
  done = λ told row of tells.
      rw (flat_told-none (column_writes c.args.store.now.layout row (part_of c.args.parity)) told)
      (does_nothing (IsOfRow c.args.store.now.layout row) _ _);
}

pub write_sector-requires-clause-can : goal.write_sector-requires-clause-can
write_sector-requires-clause-can g c = can_still c.loop-column.invariant.slots c.loop-column.auto.marks c.requires.can

pub loop-column-preserved : goal.loop-column-preserved
loop-column-preserved g c = record {
  slots = c.write_sector.ensures.slots ∙ c.loop-column.invariant.slots;
  done = λ told row of tells.
      let i = c.loop-column.column in
      let h = c.loop-column.invariant.done told row of tells in
      flat_next (column_writes c.args.store.now.layout row (part_of c.args.parity)) told (range_with_len 0 16) i i
      (omega (arith, c.loop-column-test.true, length-range_with_len 0 16)) (column_at i i c.loop-column-test.true) h
      (c.in_ok-write_sector.ensures.writes told row of (tells_still h tells));
}

pub returns-in_err-write_sector-clause-writes : goal.returns-in_err-write_sector-clause-writes
returns-in_err-write_sector-clause-writes g c told row of tells =
    let layout = c.args.store.now.layout in
    let i = c.loop-column.column in
    let part = part_of c.args.parity in
    let h = c.loop-column.invariant.done told row of tells in
    does_passed c.from_residual.ensures.1 (rw (← columns_told layout row part told)
    (flat_cut (column_writes layout row part) told (range_with_len 0 16) i i (omega (arith, c.loop-column-test.true, length-range_with_len 0 16))
    (column_at i i c.loop-column-test.true) h (c.in_err-write_sector.ensures.writes told row of (tells_still h tells))))

pub returns-clause-writes : goal.returns-clause-writes
returns-clause-writes g c told row of tells =
    let layout = c.args.store.now.layout in
    let part = part_of c.args.parity in
    let all = take_all c.loop-column.column (range_with_len 0 16) (omega (arith, c.loop-column-test.false, length-range_with_len 0 16)) in
    rw (← columns_told layout row part told) (rw all at (c.loop-column.invariant.done told row of tells))
