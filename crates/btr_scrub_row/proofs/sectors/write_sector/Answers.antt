use Rattle.std.proofs.Common.{◌≡◌, ◌+◌, ◌*◌, ◌≤◌, length, slice_range, take, Some, sym, ap, ◌∙◌, subst, arith}
use Rattle.btr_scrub_row.proofs.Common.{HasPart, IsOfRow, column_writes, does_nothing, part_of, range_in_element, telling}
use Rattle.btr_scrub_row.proofs.Applied.{knows_of, sums_long}
use Rattle.btr_scrub_row.proofs.Columns.{in_the_row, written, writes_none, writes_sector}
use Rattle.btr_scrub_row.proofs.Parts.{parity_there}
use Rattle.btr_scrub_row.proofs.Pasted.{length-range}
use Rattle.btr_scrub_row.proofs.Wrote.{does_told}
use Rattle.btr_scrub_row.proofs.sectors.write_sector.Goals as goal

pub place_of_part-element-requires-clause-part : goal.place_of_part-element-requires-clause-part
place_of_part-element-requires-clause-part g c =
    λ row of. subst (HasPart row.chunk.profile (length row.chunk.stripes)) (sym c.part.ensures)
    (parity_there c.args.store.now.layout c.args.prepared.now.stripe row of c.args.parity c.requires.has)

pub write_range-requires-clause-fits : goal.write_range-requires-clause-fits
write_range-requires-clause-fits g c =
    omega (arith, c.requires.column, ap length c.sums_of-sums.ensures, sums_long c.args.parity c.args.prepared.now c.requires.whole)

pub write_range-requires-clause-can : goal.write_range-requires-clause-can
write_range-requires-clause-can g c =
    let layout = c.args.store.now.layout in
    let stripe = c.args.prepared.now.stripe in
    let s = c.requires.stripe in
    written layout stripe s.row s.of (part_of c.args.parity) (parity_there layout stripe s.row s.of c.args.parity c.requires.has)
    c.place_of_part-element.result (ap (λ q. range_in_element layout s.row q 0 65536) (sym c.part.ensures) ∙ c.place_of_part-element.ensures s.row s.of)
    c.args.column c.requires.column c.requires.can

pub returns-then-not-is_wrong-clause-writes : goal.returns-then-not-is_wrong-clause-writes
returns-then-not-is_wrong-clause-writes g c told row of tells =
    let layout = c.args.store.now.layout in
    let part = part_of c.args.parity in
    does_told (λ images. column_writes layout row part images c.args.column) told
    (λ images is. writes_none images layout row part c.args.column
    (sym (c.is_wrong.ensures layout images row of (telling _ _ tells.known images is)) ∙ c.if-not-is_wrong.true))
    tells.untold (does_nothing (IsOfRow layout row) _ _)

pub returns-clause-writes : goal.returns-clause-writes
returns-clause-writes g c told row of tells =
    let layout = c.args.store.now.layout in
    let p = c.args.prepared.now in
    let part = part_of c.args.parity in
    let has = parity_there layout p.stripe row of c.args.parity c.requires.has in
    let column = c.args.column in
    let element = c.place_of_part-element.result in
    let sums = c.sums_of-sums.result.now in
    let room : 65536 ≤ length sums = omega (arith, ap length c.sums_of-sums.ensures, sums_long c.args.parity p c.requires.whole) in
    let at : range_in_element layout row part 0 65536 ≡ Some element =
    ap (λ q. range_in_element layout row q 0 65536) (sym c.part.ensures) ∙ c.place_of_part-element.ensures row of in
    let bytes = slice_range sums (column * 4096) (column * 4096 + 4096) in
    let long : length bytes ≡ 4096 = length-range sums (column * 4096) 4096 (omega (arith, room, c.requires.column)) in
    does_told (λ images. column_writes layout row part images column) told
    (λ images is.
    let prepared = telling _ _ tells.known images is in
    let k = knows_of images layout p.stripe row of p.judged.now p.buffer.now prepared c.args.parity c.requires.has in
    writes_sector layout p.stripe row of part has element at column c.requires.column images sums room
    (ap (take 65536) c.sums_of-sums.ensures ∙ k.new_is)
    (sym (c.is_wrong.ensures layout images row of prepared) ∙ c.if-not-is_wrong.false))
    tells.untold (c.write_range.ensures.writes layout row (in_the_row layout p.stripe row of part has element at column c.requires.column (length bytes) long))
