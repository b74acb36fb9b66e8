use Rattle.std.proofs.Common.{◌≡◌, ℕ, ◌<◌, [], ◌∷◌, take, sym, ap, ◌∙◌, arith}
use Rattle.std.proofs.lemmas.Result.{err_from_is_err_and}
use Rattle.btr_chunk.specs.declared.place.Part.TheVariants.{Slice}
use Rattle.btr_pool.specs.Slots.{bytes_at}
use Rattle.btr_read.specs.Candidates.{size_of, slice_count, range_of, element}
use Rattle.btr_read.specs.Gathering.{part_of, IsAdded, IsGathered}
use Rattle.btr_read.proofs.Several.{writes_one, writes_more}
use Rattle.btr_rack.proofs.Reading.{reads_more}
use Rattle.btr_read.proofs.ReadsOn.{same_held, same_sure, open_still}
use Rattle.btr_read.proofs.Keeping.{none_more, one_after}
use Rattle.btr_read.proofs.Trials.{told, telling}
use Rattle.btr_read.proofs.Sums.{gathered_none, gathered_more, gathered_past, gathered_all}
use Rattle.btr_read.proofs.Parts.{slice_in, parity_in, part_stands, range_in_candidate}
use Rattle.btr_read.proofs.gathering.gather.Goals as goal
use Rattle.btr_read.proofs.gathering.gather.Goals.{then-reads+in_ok-add_slice, else-reads}

pub returns-in_err-read_part-clause-account : goal.returns-in_err-read_part-clause-account
returns-in_err-read_part-clause-account g c =
    let t = c.args.search.now in
    let e = c.in_err-read_part.ensures.account in
    let part = range_in_candidate t c.args.candidate (part_of c.args.parity) e.0
    (parity_in (slice_count t) t.at.index c.args.parity c.args.candidate c.requires.uses) (ap (range_of t) (sym c.part.ensures) ∙ e.3) in
    let p = err_from_is_err_and c.from_residual.result c.from_residual.ensures.1 in
    rw (p.1, p.2) (e.0, e.1, e.2, part)

pub add_slice-requires-clause-stands : goal.add_slice-requires-clause-stands
add_slice-requires-clause-stands g c =
    let t = c.args.search.now in
    let lt : c.loop-slice.slice < slice_count t = omega (arith, c.loop-slice-test.true, c.slice_count-slice-end.ensures.value) in
    part_stands t c.args.candidate (Slice c.loop-slice.slice) c.requires.stands
    (slice_in (slice_count t) t.at.index c.args.candidate c.loop-slice.slice lt (sym c.reads.ensures ∙ c.if-reads.true))

pub add_slice-requires-clause-open : goal.add_slice-requires-clause-open
add_slice-requires-clause-open g c = open_still c.args.search.now.devices c.loop-slice.invariant.reads c.requires.open

pub loop-slice-init : goal.loop-slice-init
loop-slice-init g c =
    let t = c.args.search.now in
    let n : ℕ = size_of t in
    let e = c.in_ok-read_part.ensures in
    let new = c.read_part.new.pool in
    let sum = c.args.sum.now in
    let held = (g.R.Rack.seen c.args.rack.now).held in
    record {
      reads = e.reads;
      writes = writes_one c.args.pool.now new sum (c.args.spare.now ∷ sum ∷ []) (λ j none. none.1.0) e.kept;
      unfailed = e.account;
      sum = λ images is. gathered_none images t c.args.candidate c.args.parity (take n (bytes_at new sum))
          (telling held (λ images. take n (bytes_at new sum) ≡ element images t c.part.result) e.bytes images is
          ∙ ap (element images t) c.part.ensures) e.slice;
    }

pub loop-slice-preserved : goal.loop-slice-preserved
loop-slice-preserved g c =
    let t = c.args.search.now in
    let k = c.loop-slice.slice in
    let inv = c.loop-slice.invariant in
    let n : ℕ = size_of t in
    elim c.if-reads.branch [
      | then-reads+in_ok-add_slice w ↦
          let e = w.in_ok-add_slice.ensures in
          rw w.rack-is (rw w.pool-is (record {
            reads = reads_more inv.reads e.reads;
            writes = writes_more c.args.pool.now c.loop-slice.pool w.add_slice.new.pool _ inv.writes e.pool;
            unfailed = none_more (g.R.Rack.seen c.args.rack.now).account (g.R.Rack.seen c.loop-slice.rack).account
                (g.R.Rack.seen w.add_slice.new.rack).account inv.unfailed e.account;
            sum = λ images is.
                let old = bytes_at c.loop-slice.pool c.args.sum.now in
                let new = bytes_at w.add_slice.new.pool c.args.sum.now in
                let added = telling (g.R.Rack.seen c.loop-slice.rack).held (λ images. IsAdded images t k c.args.parity old new) e.bytes images
                (same_held inv.reads ∙ is) in
                gathered_more images t c.args.candidate c.args.parity k (take n old) (take n new) (inv.sum images is)
                (sym c.reads.ensures ∙ w.if-reads.true) added.slice added.sum;
          }))
      | else-reads w ↦
          rw w.rack-is (rw w.pool-is (record {
            reads = inv.reads;
            writes = inv.writes;
            unfailed = inv.unfailed;
            sum = λ images is. gathered_past images t c.args.candidate c.args.parity k (take n (bytes_at c.loop-slice.pool c.args.sum.now))
                (inv.sum images is) (sym c.reads.ensures ∙ w.if-reads.false);
          }))
    ]

pub returns-in_err-add_slice-clause-account : goal.returns-in_err-add_slice-clause-account
returns-in_err-add_slice-clause-account g c =
    let t = c.args.search.now in
    let k = c.loop-slice.slice in
    let e = c.in_err-add_slice.ensures.account in
    let lt : k < slice_count t = omega (arith, c.loop-slice-test.true, c.slice_count-slice-end.ensures.value) in
    let one = one_after e.0 (g.R.Rack.seen c.args.rack.now) (g.R.Rack.seen c.loop-slice.rack) (g.R.Rack.seen c.add_slice.new.rack)
    (same_sure c.loop-slice.invariant.reads) c.loop-slice.invariant.unfailed e.1 in
    let part = range_in_candidate t c.args.candidate (Slice k) e.0
    (slice_in (slice_count t) t.at.index c.args.candidate k lt (sym c.reads.ensures ∙ c.if-reads.true)) e.3 in
    let p = err_from_is_err_and c.from_residual-in_err-add_slice.result c.from_residual-in_err-add_slice.ensures.1 in
    rw (p.1, p.2) (e.0, one, e.2, part)

pub returns-clause-bytes : goal.returns-clause-bytes
returns-clause-bytes g c =
    let t = c.args.search.now in
    let bytes = take (size_of t) (bytes_at c.loop-slice.pool c.args.sum.now) in
    told (g.R.Rack.seen c.args.rack.now).held (λ images. IsGathered images t c.args.candidate c.args.parity bytes)
    (λ images is. gathered_all images t c.args.candidate c.args.parity c.loop-slice.slice bytes
    (omega (arith, c.loop-slice-test.false, c.loop-slice.auto.slice-end, c.slice_count-slice-end.ensures.value)) (c.loop-slice.invariant.sum images is))
