use Rattle.std.proofs.Common.{◌≡◌, ◌+◌, ◌*◌, ◌&&◌, Bool, true, false, not, get_or, take, refl, sym, ap, ◌∙◌}
use Rattle.btr_scrub_row.proofs.Common.{differs, element_in, element_of, is_decided, part_of, slice_count}
use Rattle.btr_scrub_row.proofs.Applied.{knows_of}
use Rattle.btr_scrub_row.proofs.Columns.{differs_is}
use Rattle.btr_scrub_row.proofs.sectors.is_wrong.Goals as goal

and_not : (m b : Bool) → m ≡ true → b ≡ false → (m && not b) ≡ true
and_not m b e h = ap (λ x. x && not b) e ∙ ap not h

pub returns : goal.returns
returns c = λ layout images row of is.
    let column = c.args.column in
    let part = part_of c.args.parity in
    let start = c.element_of.result * 65536 + column * 4096 in
    let judged = c.args.prepared.now.judged.now in
    let old = c.deref.result.now in
    let sums = c.sums_of-sums.result.now in
    let k = knows_of images layout c.args.prepared.now.stripe row of judged c.args.prepared.now.buffer.now is c.args.parity c.requires.has in
    let met = get_or judged.met column false in
    let broken = get_or judged.broken column false in
    let decided : is_decided images layout row column ≡ true =
    sym (k.decided column c.requires.column) ∙ and_not met broken c.if-not-prepared-column.false c.if-prepared-column.false in
    let differ : not c.same_pieces.result ≡ differs images layout row part column =
    ap not c.same_pieces.ensures
    ∙ differs_is images layout row part column c.element_of.result start old sums c.requires.column refl
    (ap (element_in old) (c.element_of.ensures ∙ ap (element_of c.args.parity) of.shape.slices)
    ∙ ap (λ bytes. element_in bytes (element_of c.args.parity (slice_count row))) c.deref.ensures.value ∙ k.old_is)
    (ap (take 65536) c.sums_of-sums.ensures ∙ k.new_is) in
    differ ∙ sym (ap (λ b. b && differs images layout row part column) decided)
