-- What the value of a candidate hangs on.
use Rattle.std.specs.Prelude.{◌≡◌, ℕ, true, List}
use Rattle.std.specs.List.{Contains}
use Rattle.btr_chunk.specs.declared.place.Part.{Part}
use Rattle.btr_parity.specs.Slices.{IsSlice}
use Rattle.btr_parity.specs.Solutions.{IsTheOne}
use Rattle.btr_rack.specs.Rack.{bytes_of}
use Rattle.btr_rack.specs.declared.place.Place.{Place as Range}
use Rattle.btr_read.specs.declared.candidate.Candidate.{Candidate}
use Rattle.btr_read.specs.declared.candidate.Candidate.TheVariants.{Read, ByP, ByQ, ByBoth}
use Rattle.btr_read.specs.Candidates.{Target, size_of, slice_count, parts_read, ranges_of, element, fits_p, fits_q, fits_both, value_of}
use Rattle.btr_read.specs.Sought.{IsTarget, IsRebuilt}

-- a slice solves the equations of a candidate by parities: with it, and for two parities with some slice in the place
-- of the other one, the row has these parities
abbrev pub Solves : List (List ℕ) → Target → Candidate → List ℕ → Type 0
Solves images t (Read part) X = X ≡ element images t part
Solves images t ByP X = fits_p images t X ≡ true
Solves images t ByQ X = fits_q images t X ≡ true
Solves images t (ByBoth j) X = (Y : List ℕ) × IsSlice (size_of t) Y × (fits_both images t j X Y ≡ true)

-- the parts that a candidate reads are as long as what is sought
abbrev pub AreWhole : List (List ℕ) → Target → Candidate → Type 0
AreWhole images t candidate =
    (part : Part) → Contains (parts_read (slice_count t) t.at.index candidate) part → IsSlice (size_of t) (element images t part)

-- the value of a candidate by parities is the one slice that solves its equations
abbrev pub ValueIsTheOne : Type 0
ValueIsTheOne =
    (images : List (List ℕ)) (t : Target) (candidate : Candidate) → IsTarget t.setting t.chunk t.at → IsRebuilt t candidate
    → AreWhole images t candidate
    → IsTheOne (size_of t) (Solves images t candidate) (value_of images t candidate)

-- images that agree on a candidate's ranges give it the same value
abbrev pub ValueByRanges : Type 0
ValueByRanges = (images others : List (List ℕ)) (t : Target) (candidate : Candidate)
    → ((range : Range) → Contains (ranges_of t candidate) range → bytes_of images range.slot range.off range.len
    ≡ bytes_of others range.slot range.off range.len)
    → value_of images t candidate ≡ value_of others t candidate
