use Rattle.std.proofs.Common.{◌+◌, ◌*◌, take, sym, ap, ◌∙◌, subst}
use Rattle.btr_scrub_row.proofs.Common.{GatheredSoFar, bytes_of}
use Rattle.btr_scrub_row.proofs.Gathered.{left_begun, left_more, left_same}
use Rattle.btr_scrub_row.proofs.gathering.gather.Goals.{then-reads, else-reads}
use Rattle.btr_scrub_row.proofs.gathering.gather.Goals as goal

pub loop-slice-init : goal.loop-slice-init
loop-slice-init c = λ images t h.
    left_begun images t c.args.piece.now c.args.bytes.now (bytes_of c.args.bytes.now c.type_inv.bytes) c.requires.within h c.args.candidate
    c.args.parity c.start.result (take c.args.piece.now.len c.copy_front.new.front) c.requires.has
    (c.start.ensures ∙ ap (λ e. e * 65536 + c.args.piece.now.rest) c.element_of-element.ensures) c.copy_front.ensures

pub loop-slice-preserved : goal.loop-slice-preserved
loop-slice-preserved c = λ images t h.
    let piece = c.args.piece.now in
    let bytes = c.args.bytes.now in
    elim c.if-reads.branch [
      | then-reads w ↦
          left_more images t piece bytes (bytes_of c.args.bytes.now c.type_inv.bytes) c.requires.within h c.args.candidate c.args.parity
          c.loop-slice.slice w.start-then-reads.result (take piece.len c.loop-slice.sum) (take piece.len c.if-reads.sum)
          c.loop-slice-test.true (c.loop-slice.invariant images t h) (sym c.reads.ensures ∙ w.if-reads.true) w.start-then-reads.ensures
          (ap (take piece.len) w.sum-is ∙ w.add_front.ensures)
      | else-reads w ↦
          left_same images t piece bytes (bytes_of c.args.bytes.now c.type_inv.bytes) c.requires.within h c.args.candidate c.args.parity
          c.loop-slice.slice (take piece.len c.if-reads.sum)
          (subst (λ s. GatheredSoFar images t c.args.candidate c.args.parity c.loop-slice.slice (take piece.len s)) (sym w.sum-is)
          (c.loop-slice.invariant images t h)) (sym c.reads.ensures ∙ w.if-reads.false)
    ]
