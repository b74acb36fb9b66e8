use Rattle.std.proofs.Common.{◌≡◌, sym, ap, ◌∙◌, arith}
use Rattle.btr_read.specs.Candidates.{slice_count, slices_read}
use Rattle.btr_read.specs.Comparing.{least_of, lesser}
use Rattle.btr_read.proofs.Compared.{least_read, least_passed}
use Rattle.btr_read.proofs.search.Search.least_slice.Goals as goal
use Rattle.btr_read.proofs.search.Search.least_slice.Goals.{then-reads, else-reads}

pub loop-slice-preserved : goal.loop-slice-preserved
loop-slice-preserved c =
    let t = c.args.self.now in
    let slice = c.loop-slice.slice in
    elim c.if-reads.branch [
      | then-reads w ↦ least_read t c.args.least c.loop-slice.least _ c.args.candidate slice (sym c.reads.ensures ∙ w.if-reads.true)
          c.loop-slice.invariant (w.least-is ∙ w.lesser-least.ensures ∙ ap (lesser c.loop-slice.least) w.range.ensures)
      | else-reads w ↦ least_passed t c.args.least c.loop-slice.least _ c.args.candidate slice (sym c.reads.ensures ∙ w.if-reads.false)
          c.loop-slice.invariant w.least-is
    ]

pub returns : goal.returns
returns c =
    let t = c.args.self.now in
    let all : c.loop-slice.slice ≡ slice_count t = omega (arith, c.loop-slice-test.false, c.slice_count-slice-end.ensures.value) in
    c.loop-slice.invariant ∙ ap (λ n. least_of t c.args.least (slices_read n t.at.index c.args.candidate)) all
