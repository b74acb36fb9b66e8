use Rattle.std.proofs.Common.{◌-◌, arith, inl, inr}
use Rattle.std.proofs.lemmas.Bool.{lt-ltb, le-ltb, ne_eqb, cases_lt}
use Rattle.btr_chunk.proofs.Ranges.{NoneMeets-last, SomeMeets-last}
use Rattle.btr_chunk.specs.Extents.{extent_of}
use Rattle.btr_chunk.proofs.extents.meets.Goals as goal

pub returns-then-stripe-place : goal.returns-then-stripe-place
returns-then-stripe-place c =
    let s = c.args.stripe.now in
    let p = c.in-Some.place.now in
    let entry = (c.range.ensures.in_range tt).3 _ _ c.in-Some.ensures.steps in
    rw (lt-ltb s.offset p.offset c.if-stripe-place.true)
    (SomeMeets-last (extent_of c.args.extents.now) c.args.length s p c.in-Some.taken.now entry.1 entry.0.1 c.if-place-stripe.true (omega arith))

pub returns-else-stripe-place : goal.returns-else-stripe-place
returns-else-stripe-place c =
    let s = c.args.stripe.now in
    let p = c.in-Some.place.now in
    let n = c.in-Some.taken.now in
    let in_range = c.range.ensures.in_range tt in
    let entry = in_range.3 _ _ c.in-Some.ensures.steps in
    elim (cases_lt (s.offset - p.offset) n) [
      | inl below ↦
          rw (lt-ltb (s.offset - p.offset) n below)
          (SomeMeets-last (extent_of c.args.extents.now) c.args.length s p n entry.1 entry.0.1 c.if-place-stripe.true (omega arith))
      | inr above ↦
          rw (le-ltb (s.offset - p.offset) n above)
          (NoneMeets-last (extent_of c.args.extents.now) c.args.length s p n c.requires.spaced entry.1 entry.0.1
          (λ q before is. in_range.4 _ _ c.in-Some.ensures.steps q (tt, before) is) (λ _. omega arith))
    ]

pub returns-else-place-stripe : goal.returns-else-place-stripe
returns-else-place-stripe c =
    let s = c.args.stripe.now in
    let p = c.in-Some.place.now in
    let in_range = c.range.ensures.in_range tt in
    let entry = in_range.3 _ _ c.in-Some.ensures.steps in
    rw (ne_eqb p.devid s.devid c.if-place-stripe.false)
    (NoneMeets-last (extent_of c.args.extents.now) c.args.length s p c.in-Some.taken.now c.requires.spaced entry.1 entry.0.1
    (λ q before is. in_range.4 _ _ c.in-Some.ensures.steps q (tt, before) is) (λ device. absurd (c.if-place-stripe.false device)))
