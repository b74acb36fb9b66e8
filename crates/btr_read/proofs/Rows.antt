-- The parts of a row with P and Q, and the candidates that read them.
use Rattle.std.proofs.Common.{◌≡◌, true, length, Some, refl, sym, subst, ap, inl, arith}
use Rattle.std.specs.List.{Any}
use Rattle.btr_rack.specs.declared.place.Place.{Place as Range}
use Rattle.btr_chunk.specs.declared.place.Part.{Part}
use Rattle.btr_chunk.specs.declared.place.Part.TheVariants.{Mirror, Slice, P, Q}
use Rattle.btr_chunk.specs.declared.profile.Profile.TheVariants.{Raid6}
use Rattle.btr_read.specs.declared.candidate.Candidate.TheVariants.{ByP, ByQ}
use Rattle.btr_read.specs.Candidates.{Target, slice_count, candidates, ways, range_of, stands}
use Rattle.btr_read.specs.Cause.{IsOf}
use Rattle.btr_read.specs.Gathering.{IsOfRow, RowStands}
use Rattle.btr_read.proofs.InOrder.{with_p_and_q, second_is_p, third_is_q}
use Rattle.btr_read.proofs.Parts.{slice_in, range_in_candidate, stands_in_row}

-- a range of a part is one that a candidate reads, which stands where the row does
of_ways : (t : Target) (part : Part) (m : Range) → t.chunk.profile ≡ Raid6 → RowStands t ByP → IsOfRow t ByP part → range_of t part ≡ Some m
    → Any (λ c. (stands t c ≡ true) × IsOf t m c) (ways t)
of_ways t (Mirror i) m six rows of range = absurd of
of_ways t (Slice s) m six rows of range = (
  1,
  ByP,
  omega (arith, ap length (with_p_and_q t six)),
  second_is_p t six ByP,
  (stands_in_row t ByP rows tt, range_in_candidate t ByP (Slice s) m (slice_in (slice_count t) t.at.index ByP s of.0 of.1) range),
)
of_ways t P m six rows of range =
    (1, ByP, omega (arith, ap length (with_p_and_q t six)), second_is_p t six ByP, (stands_in_row t ByP rows tt, range_in_candidate t ByP P m (inl refl) range))
of_ways t Q m six rows of range =
    (2, ByQ, omega (arith, ap length (with_p_and_q t six)), third_is_q t six ByQ, (stands_in_row t ByQ rows tt, range_in_candidate t ByQ Q m (inl refl) range))

-- where the whole row stands, the range of each part of it is one that a candidate that stands reads
pub of_row : (t : Target) (part : Part) (m : Range) → candidates t ≡ ways t → t.chunk.profile ≡ Raid6 → RowStands t ByP → IsOfRow t ByP part
    → range_of t part ≡ Some m → Any (λ c. (stands t c ≡ true) × IsOf t m c) (candidates t)
of_row t part m order six rows of range = subst (Any (λ c. (stands t c ≡ true) × IsOf t m c)) (sym order) (of_ways t part m six rows of range)
