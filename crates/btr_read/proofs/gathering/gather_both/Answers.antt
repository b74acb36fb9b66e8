use Rattle.std.proofs.Common.{◌≡◌, ℕ, ◌<◌, List, [], ◌∷◌, take, subst, sym, ap, ◌∙◌, refl, arith, length}
use Rattle.std.proofs.lemmas.Result.{err_from_is_err_and}
use Rattle.btr_chunk.specs.Mapping.{HasPart}
use Rattle.btr_chunk.specs.declared.place.Part.TheVariants.{Slice, P, Q}
use Rattle.btr_pool.specs.Slots.{bytes_at}
use Rattle.btr_pool.proofs.Loans.{bytes_at-with_bytes_other}
use Rattle.btr_read.specs.declared.candidate.Candidate.{Candidate}
use Rattle.btr_read.specs.declared.parity.Parity.TheVariants as parity
use Rattle.btr_read.specs.Candidates.{size_of, slice_count, range_of, element}
use Rattle.btr_read.specs.Gathering.{IsAdded, IsGathered, IsOfRow}
use Rattle.btr_read.proofs.Several.{writes_one, writes_more}
use Rattle.btr_rack.proofs.Reading.{reads_more}
use Rattle.btr_read.proofs.ReadsOn.{same_held, same_sure, open_still}
use Rattle.btr_read.proofs.Keeping.{none_more}
use Rattle.btr_read.proofs.Trials.{told, telling}
use Rattle.btr_read.proofs.Sums.{GatheredSoFar, gathered_none, gathered_more, gathered_past, gathered_all}
use Rattle.btr_read.proofs.Parts.{row_missed}
use Rattle.btr_read.proofs.gathering.gather_both.Goals as goal
use Rattle.btr_read.proofs.gathering.gather_both.Goals.{then-reads+in_ok-add_slice_to_both, else-reads}

pub read_part-requires-2-clause-open : goal.read_part-requires-2-clause-open
read_part-requires-2-clause-open g c = open_still c.args.search.now.devices c.in_ok-read_part.ensures.reads c.requires.open

pub read_part-requires-clause-part : goal.read_part-requires-clause-part
read_part-requires-clause-part g c = subst (λ p. HasPart p (length c.args.search.now.chunk.stripes) P) (sym c.requires.profile) refl

pub read_part-requires-clause-stands : goal.read_part-requires-clause-stands
read_part-requires-clause-stands g c = c.requires.stands P tt

pub read_part-requires-clause-live : goal.read_part-requires-clause-live
read_part-requires-clause-live g c = c.requires.loans.a_live

pub read_part-requires-2-clause-stands : goal.read_part-requires-2-clause-stands
read_part-requires-2-clause-stands g c = c.requires.stands Q tt

pub returns-in_err-read_part-clause-account : goal.returns-in_err-read_part-clause-account
returns-in_err-read_part-clause-account g c =
    let e = c.in_err-read_part.ensures.account in
    let p = err_from_is_err_and c.from_residual.result c.from_residual.ensures.1 in
    rw (p.1, p.2) (e.0, e.1, e.2, ap (range_of c.args.search.now) e.4 ∙ e.3, subst (IsOfRow c.args.search.now c.args.candidate) (sym e.4) tt)

pub returns-in_err-read_part-2-clause-account : goal.returns-in_err-read_part-2-clause-account
returns-in_err-read_part-2-clause-account g c =
    let t = c.args.search.now in
    let e = c.in_err-read_part-2.ensures.account in
    let p = err_from_is_err_and c.from_residual-in_err-read_part-2.result c.from_residual-in_err-read_part-2.ensures.1 in
    rw (p.1, p.2) (row_missed t c.args.candidate Q _ (g.R.Rack.seen c.args.rack.now) (g.R.Rack.seen c.read_part.new.rack)
    (g.R.Rack.seen c.read_part-2.new.rack) (same_sure c.in_ok-read_part.ensures.reads) c.in_ok-read_part.ensures.account e tt)

pub add_slice_to_both-requires-clause-stands : goal.add_slice_to_both-requires-clause-stands
add_slice_to_both-requires-clause-stands g c =
    let t = c.args.search.now in
    let lt : c.loop-slice.slice < slice_count t = omega (arith, c.loop-slice-test.true, c.slice_count-slice-end.ensures.value) in
    c.requires.stands (Slice c.loop-slice.slice) (lt, sym c.reads.ensures ∙ c.if-reads.true)

pub add_slice_to_both-requires-clause-open : goal.add_slice_to_both-requires-clause-open
add_slice_to_both-requires-clause-open g c = open_still c.args.search.now.devices c.loop-slice.invariant.reads c.requires.open

pub loop-slice-init : goal.loop-slice-init
loop-slice-init g c =
    let t = c.args.search.now in
    let n : ℕ = size_of t in
    let both : Candidate = c.args.candidate in
    let first = c.in_ok-read_part.ensures in
    let second = c.in_ok-read_part-2.ensures in
    let pool = c.read_part.new.pool in
    let new = c.read_part-2.new.pool in
    let p = c.args.p.now in
    let q = c.args.q.now in
    let three : List ℕ = q ∷ c.args.spare.now ∷ p ∷ [] in
    let writes = writes_more c.args.pool.now pool new three (writes_one c.args.pool.now pool p three (λ j none. none.1.1.0) first.kept)
    (writes_one pool new q three (λ j none. none.0) second.kept) in
    let same : bytes_at new p ≡ bytes_at pool p =
    ap (λ pool. bytes_at pool p) second.kept.1 ∙ bytes_at-with_bytes_other pool p q second.kept.0 c.requires.loans.ab in
    record {
      reads = reads_more first.reads second.reads;
      writes = writes;
      unfailed = none_more (g.R.Rack.seen c.args.rack.now).account (g.R.Rack.seen c.read_part.new.rack).account
          (g.R.Rack.seen c.read_part-2.new.rack).account first.account second.account;
      of_p = λ images is.
          let read = telling (g.R.Rack.seen c.args.rack.now).held (λ images. take n (bytes_at pool p) ≡ element images t P) first.bytes images is in
          subst (λ bytes. GatheredSoFar images t both parity.P 0 (take n bytes)) (sym same)
          (gathered_none images t both parity.P (take n (bytes_at pool p)) read first.slice);
      of_q = λ images is.
          let read = telling (g.R.Rack.seen c.read_part.new.rack).held (λ images. take n (bytes_at new q) ≡ element images t Q) second.bytes images
          (same_held first.reads ∙ is) in
          gathered_none images t both parity.Q (take n (bytes_at new q)) read second.slice;
    }

pub loop-slice-preserved : goal.loop-slice-preserved
loop-slice-preserved g c =
    let t = c.args.search.now in
    let k = c.loop-slice.slice in
    let inv = c.loop-slice.invariant in
    let n : ℕ = size_of t in
    let both : Candidate = c.args.candidate in
    let held = (g.R.Rack.seen c.loop-slice.rack).held in
    let p_old = bytes_at c.loop-slice.pool c.args.p.now in
    let q_old = bytes_at c.loop-slice.pool c.args.q.now in
    elim c.if-reads.branch [
      | then-reads+in_ok-add_slice_to_both w ↦
          let e = w.in_ok-add_slice_to_both.ensures in
          let reads = sym c.reads.ensures ∙ w.if-reads.true in
          rw w.rack-is (rw w.pool-is (record {
            reads = reads_more inv.reads e.reads;
            writes = writes_more c.args.pool.now c.loop-slice.pool w.add_slice_to_both.new.pool _ inv.writes e.pool;
            unfailed = none_more (g.R.Rack.seen c.args.rack.now).account (g.R.Rack.seen c.loop-slice.rack).account
                (g.R.Rack.seen w.add_slice_to_both.new.rack).account inv.unfailed e.account;
            of_p = λ images is.
                let new = bytes_at w.add_slice_to_both.new.pool c.args.p.now in
                let added = telling held (λ images. IsAdded images t k parity.P p_old new) e.of_p images (same_held inv.reads ∙ is) in
                gathered_more images t both parity.P k (take n p_old) (take n new) (inv.of_p images is) reads added.slice added.sum;
            of_q = λ images is.
                let new = bytes_at w.add_slice_to_both.new.pool c.args.q.now in
                let added = telling held (λ images. IsAdded images t k parity.Q q_old new) e.of_q images (same_held inv.reads ∙ is) in
                gathered_more images t both parity.Q k (take n q_old) (take n new) (inv.of_q images is) reads added.slice added.sum;
          }))
      | else-reads w ↦
          let passes = sym c.reads.ensures ∙ w.if-reads.false in
          rw w.rack-is (rw w.pool-is (record {
            reads = inv.reads;
            writes = inv.writes;
            unfailed = inv.unfailed;
            of_p = λ images is. gathered_past images t both parity.P k (take n p_old) (inv.of_p images is) passes;
            of_q = λ images is. gathered_past images t both parity.Q k (take n q_old) (inv.of_q images is) passes;
          }))
    ]

pub returns-in_err-add_slice_to_both-clause-account : goal.returns-in_err-add_slice_to_both-clause-account
returns-in_err-add_slice_to_both-clause-account g c =
    let t = c.args.search.now in
    let k = c.loop-slice.slice in
    let e = c.in_err-add_slice_to_both.ensures.account in
    let lt : k < slice_count t = omega (arith, c.loop-slice-test.true, c.slice_count-slice-end.ensures.value) in
    let p = err_from_is_err_and c.from_residual-in_err-add_slice_to_both.result c.from_residual-in_err-add_slice_to_both.ensures.1 in
    rw (p.1, p.2) (row_missed t c.args.candidate (Slice k) _ (g.R.Rack.seen c.args.rack.now) (g.R.Rack.seen c.loop-slice.rack)
    (g.R.Rack.seen c.add_slice_to_both.new.rack) (same_sure c.loop-slice.invariant.reads) c.loop-slice.invariant.unfailed e
    (lt, sym c.reads.ensures ∙ c.if-reads.true))

pub returns-clause-of_p : goal.returns-clause-of_p
returns-clause-of_p g c =
    let t = c.args.search.now in
    let both : Candidate = c.args.candidate in
    let bytes : List ℕ = take (size_of t) (bytes_at c.loop-slice.pool c.args.p.now) in
    told (g.R.Rack.seen c.args.rack.now).held (λ images. IsGathered images t both parity.P bytes)
    (λ images is. gathered_all images t both parity.P c.loop-slice.slice bytes
    (omega (arith, c.loop-slice-test.false, c.loop-slice.auto.slice-end, c.slice_count-slice-end.ensures.value)) (c.loop-slice.invariant.of_p images is))

pub returns-clause-of_q : goal.returns-clause-of_q
returns-clause-of_q g c =
    let t = c.args.search.now in
    let both : Candidate = c.args.candidate in
    let bytes : List ℕ = take (size_of t) (bytes_at c.loop-slice.pool c.args.q.now) in
    told (g.R.Rack.seen c.args.rack.now).held (λ images. IsGathered images t both parity.Q bytes)
    (λ images is. gathered_all images t both parity.Q c.loop-slice.slice bytes
    (omega (arith, c.loop-slice-test.false, c.loop-slice.auto.slice-end, c.slice_count-slice-end.ensures.value)) (c.loop-slice.invariant.of_q images is))
