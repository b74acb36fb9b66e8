-- What each search keeps.
use Rattle.std.specs.Prelude.{◌≡◌, ◌≢◌, ℕ, ◌+◌, ◌<◌, ◌≤◌, List, [], ◌∷◌, length, slice_get, Some, IsNone}
use Rattle.btr_chunk.specs.declared.chunk.Chunk.{Chunk}
use Rattle.btr_chunk.specs.declared.position.Elements.{Elements}
use Rattle.btr_chunk.specs.declared.place.Part.{Part}
use Rattle.btr_chunk.specs.declared.place.Part.TheVariants.{Slice, P, Q}
use Rattle.btr_chunk.specs.declared.profile.Profile.TheVariants.{Raid6}
use Rattle.btr_chunk.specs.Chunk.{IsChunk, mirror_count}
use Rattle.btr_chunk.specs.Mapping.{IsPosition, HasPart}
use Rattle.btr_read.specs.declared.candidate.Candidate.{Candidate}
use Rattle.btr_read.specs.declared.candidate.Candidate.TheVariants.{Read, ByP, ByQ, ByBoth}
use Rattle.btr_read.specs.declared.parity.Parity.{Parity}
use Rattle.btr_read.specs.declared.parity.Parity.TheVariants as parity
use Rattle.btr_read.specs.declared.setting.Setting.{Setting}
use Rattle.btr_read.specs.Candidates.{Target, rebuilt, slice_count}

-- the position is one of the chunk, and a node has room for a header, and at most 65536 bytes
pub record IsTarget (setting : Setting) (chunk : Chunk) (at : Elements) : Type 0 where
  pub keeps_rule : IsChunk chunk
  pub position : IsPosition chunk at
  pub node : 101 ≤ setting.nodesize
  pub small : setting.nodesize ≤ 65536

-- a candidate for slice i of a row with P
abbrev pub IsOneParity : ℕ → Candidate → Type 0
IsOneParity i (Read part) = part ≡ Slice i
IsOneParity i ByP = Unit {0}
IsOneParity i ByQ = ⊥
IsOneParity i (ByBoth j) = ⊥

-- a candidate for slice i of a row of k slices with P and Q
abbrev pub IsTwoParities : ℕ → ℕ → Candidate → Type 0
IsTwoParities k i (Read part) = part ≡ Slice i
IsTwoParities k i ByP = Unit {0}
IsTwoParities k i ByQ = Unit {0}
IsTwoParities k i (ByBoth j) = (j < k) × (j ≢ i)

-- the candidate at a place in the order of those for slice i of a row with P and Q, however many slices it has
abbrev pub IsInPlace : ℕ → ℕ → Candidate → Type 0
IsInPlace i place c = (k : ℕ) → i < k → place < k + 2 → slice_get (rebuilt Raid6 k i) place ≡ Some c

-- a candidate by parities, whose parts are there
abbrev pub IsRebuilt : Target → Candidate → Type 0
IsRebuilt t (Read part) = ⊥
IsRebuilt t ByP = IsNone (mirror_count t.chunk.profile (length t.chunk.stripes))
IsRebuilt t ByQ = t.chunk.profile ≡ Raid6
IsRebuilt t (ByBoth j) = (t.chunk.profile ≡ Raid6) × (j < slice_count t) × (j ≢ t.at.index)

-- the parts that a candidate reads are there
abbrev pub CanTry : Target → Candidate → Type 0
CanTry t (Read part) = HasPart t.chunk.profile (length t.chunk.stripes) part
CanTry t candidate = IsRebuilt t candidate

-- a candidate by parities, of whatever parts
abbrev pub IsByParities : Candidate → Type 0
IsByParities (Read part) = ⊥
IsByParities ByP = Unit {0}
IsByParities ByQ = Unit {0}
IsByParities (ByBoth j) = Unit {0}

-- the parities that a candidate reads
abbrev pub parities_read : Candidate → List Part
parities_read (Read part) = []
parities_read ByP = P ∷ []
parities_read ByQ = Q ∷ []
parities_read (ByBoth j) = P ∷ Q ∷ []

-- a candidate reads a parity
abbrev pub Uses : Parity → Candidate → Type 0
Uses parity.P (Read part) = ⊥
Uses parity.P ByP = Unit {0}
Uses parity.P ByQ = ⊥
Uses parity.P (ByBoth j) = Unit {0}
Uses parity.Q (Read part) = ⊥
Uses parity.Q ByP = ⊥
Uses parity.Q ByQ = Unit {0}
Uses parity.Q (ByBoth j) = Unit {0}
