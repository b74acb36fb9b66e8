-- Blocks as they were committed, and what the images have of them.
use Rattle.std.specs.Prelude.{◌≡◌, ℕ, Bool, true, false, IsTrue, if◌then◌else◌, List, Option, Some, IsSome, Contains, Result, Ok, Err}
use Rattle.btr_prog.specs.Prog.{exec, needs}
use Rattle.btr_prog.specs.Maps.{Each, IsWhole, EndsWell}
use Rattle.btr_prog.specs.Stages.{Early, Late}
use Rattle.btr_chunk.specs.declared.chunk.Chunk.{Chunk}
use Rattle.btr_files.specs.declared.plan.RestorePlan.{RestorePlan}
use Rattle.btr_read.specs.Candidates.{Target}
use Rattle.btr_read.specs.Fate.{Fault, Lost, sought, passing, passing_for, or_lost, fate, is_plain, chosen}
use Rattle.btr_read.specs.Layout.{Layout}
use Rattle.btr_read.specs.Want.{addr_of}
use Rattle.btr_read.specs.declared.want.Want.{Want}
use Rattle.btr_volume.specs.Maps.{VolumeWant, Maps, volume_map, array_layout}
use Rattle.btr_volume.specs.Start.{Images, Start}
use Rattle.btr_volume.specs.Table.{table_scan}
use Rattle.btr_volume.specs.Tree.{root_want}
use Rattle.btr_restore.specs.Journey.{journey}

-- the committed blocks: for each checked want its bytes, if it has any; what is said of other wants isn't looked at
abbrev pub Commit : Type 0
Commit = Want → Option (List ℕ)

-- of what is sought the committed bytes, and without a test the candidate of a
-- number, or the first where there aren't so many
abbrev pub committed_of : Commit → Images → ℕ → Want → Result Target Fault → Result (List ℕ) Fault
committed_of C images n want (Err fault) = Err fault
committed_of C images n want (Ok t) = or_lost (addr_of want) (if is_plain want then chosen n (passing images t) else C want)

-- what may become of a want in the committed blocks, by choice of a candidate where there is no test
abbrev pub committed_choices : Commit → Images → ℕ → Maps
committed_choices C images n layout want = committed_of C images n want (sought layout want)

-- what becomes of a want in the committed blocks: without a test it is the first candidate
abbrev pub committed : Commit → Images → Maps
committed C images = committed_choices C images 0

-- each candidate that passes its test is the committed block
abbrev pub IsHonest : Commit → Images → Layout → Type 0
IsHonest C images layout =
    (want : Want) (bytes candidate : List ℕ) → C want ≡ Some bytes → Contains (passing_for images (sought layout want)) candidate
    → candidate ≡ bytes

-- a checked want has committed bytes
abbrev pub IsIn : Commit → Want → Type 0
IsIn C want = is_plain want ≡ false → IsSome (C want)

-- a want without the table that it is looked up in
abbrev pub want_of : VolumeWant → Want
want_of (Early want) = want
want_of (Late table want) = want

-- nothing but candidates is missing
abbrev pub is_lost : Fault → Bool
is_lost (Lost addr) = true
is_lost fault = false

-- there is a value, or bytes, or it ends for want of a candidate
abbrev pub EndsInOrder : {A : Type 0} → Result A Fault → Type 0
EndsInOrder = EndsWell (λ fault. IsTrue (is_lost fault))

-- the committed table of a volume
abbrev pub IsCommittedTable : Commit → Images → Start → List Chunk → Type 0
IsCommittedTable C images start table = (exec (committed C images (array_layout start)) (table_scan start)).ending ≡ Ok (Ok table)

module _ (plan : RestorePlan) (dest : List ℕ) (images : Images) (start : Start) (C : Commit) where
  -- the committed blocks hold all that restore needs, and the root tree's root block, and their trees are well formed
  pub record IsClosed (table : List Chunk) : Type 0 where
    pub stands : IsCommittedTable C images start table
    pub root : IsSome (C (root_want start.sup))
    pub holds : Each (λ want. IsIn C (want_of want)) (needs (volume_map start (committed C images)) (journey plan dest start))
    pub well : EndsInOrder (exec (volume_map start (committed C images)) (journey plan dest start)).ending

  -- the images have a candidate that passes for each need
  abbrev pub AreWhole : Type 0
  AreWhole =
      Each (λ want. IsWhole (volume_map start (fate images) want)) (needs (volume_map start (committed C images)) (journey plan dest start))
