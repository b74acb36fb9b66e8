use Rattle.std.proofs.Common.{◌<◌, sym, ◌∙◌, arith}
use Rattle.btr_chunk.specs.declared.place.Part.TheVariants.{Slice}
use Rattle.btr_read.specs.Candidates.{is_on_older, reads_slice, slice_count}
use Rattle.btr_read.proofs.Order.{none_slice, one_slice}
use Rattle.btr_read.proofs.Standing.{both}
use Rattle.btr_read.proofs.search.Search.reads_older_slice.Goals as goal

pub returns-then-is_on_older : goal.returns-then-is_on_older
returns-then-is_on_older c =
    let t = c.args.self.now in
    let slice = c.loop-slice.slice in
    let lt : slice < slice_count t = omega (arith, c.loop-slice-test.true, c.slice_count-slice-end.ensures.value) in
    sym (one_slice (is_on_older t) (reads_slice t.at.index c.args.candidate) (slice_count t) slice lt
    (both (reads_slice t.at.index c.args.candidate slice) (is_on_older t (Slice slice)) (sym c.reads.ensures ∙ c.if-reads.true)
    (sym c.is_on_older.ensures ∙ c.if-is_on_older.true)))

pub returns : goal.returns
returns c =
    let t = c.args.self.now in
    sym (none_slice (is_on_older t) (reads_slice t.at.index c.args.candidate) (slice_count t)
    (λ s lt. c.loop-slice.invariant s (omega (arith, lt, c.loop-slice-test.false, c.slice_count-slice-end.ensures.value))))
