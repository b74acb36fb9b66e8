use Rattle.std.proofs.Common.{◌≡◌, ◌<◌, ◌&&◌, not, false, is_some, subst, sym, ◌∙◌, arith, inl, inr}
use Rattle.std.proofs.lemmas.Bool.{cases_lt}
use Rattle.btr_chunk.specs.declared.place.Part.TheVariants.{Slice}
use Rattle.btr_read.specs.Candidates.{reads_slice, range_of, slice_count}
use Rattle.btr_read.proofs.Standing.{all_have, one_lacks}
use Rattle.btr_read.proofs.search.Search.slices_stand.Goals as goal

pub returns-then-lacks : goal.returns-then-lacks
returns-then-lacks c =
    let t = c.args.self.now in
    let lt : c.loop-slice.slice < slice_count t = omega (arith, c.loop-slice-test.true, c.slice_count-slice-end.ensures.value) in
    sym (one_lacks (λ part. is_some (range_of t part)) (reads_slice t.at.index c.args.candidate) (slice_count t) c.loop-slice.slice lt
    (sym c.lacks.ensures ∙ c.if-lacks.true))

pub loop-slice-preserved : goal.loop-slice-preserved
loop-slice-preserved c = λ s lt. elim (cases_lt s c.loop-slice.slice) [
  | inl earlier ↦ c.loop-slice.invariant s earlier
  | inr here ↦
      let t = c.args.self.now in
      let same : c.loop-slice.slice ≡ s = omega (arith, here, lt) in
      subst (λ s. (reads_slice t.at.index c.args.candidate s && not (is_some (range_of t (Slice s)))) ≡ false) same (sym c.lacks.ensures ∙ c.if-lacks.false)
]

pub returns : goal.returns
returns c =
    let t = c.args.self.now in
    sym (all_have (λ part. is_some (range_of t part)) (reads_slice t.at.index c.args.candidate) (slice_count t)
    (λ s lt. c.loop-slice.invariant s (omega (arith, lt, c.loop-slice-test.false, c.slice_count-slice-end.ensures.value))))
