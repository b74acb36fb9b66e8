-- The blocks and sectors as they are listed in memory: runs of what follows each other, and apart from them the checksums
-- of the sectors that have one, one behind another, and what is wanted of the tree blocks.
use Rattle.std.specs.Prelude.{◌≡◌, ◌≢◌, ℕ, zero, suc, ◌+◌, ◌-◌, ◌*◌, ◌^◌, ◌<◌, ◌≤◌, Bool, true, false, List, [], ◌∷◌, ◌++◌, length, drop, Option}
use Rattle.std.specs.Prelude.{Some, None, IsSomeAnd}
use Rattle.btr_base.specs.Sum.{sum_size, stored_sum}
use Rattle.btr_base.specs.declared.kind.SumKind.{SumKind}
use Rattle.btr_read.specs.Fate.{is_plain}
use Rattle.btr_read.specs.Want.{addr_of}
use Rattle.btr_read.specs.declared.want.Want.{Want}
use Rattle.btr_read.specs.declared.want.Want.TheVariants.{Tree, Block, Sector, Plain}
use Rattle.btr_scrub_copies.specs.Writes.{In}
use Rattle.btr_scrub.specs.declared.run.Run.{Run}
use Rattle.btr_scrub.specs.declared.run.RunKind.{RunKind}
use Rattle.btr_scrub.specs.declared.run.RunKind.TheVariants.{TreeBlock, Sectors, Unsummed}
use Rattle.btr_scrub.specs.declared.run.TreeMark.{TreeMark}

-- how many sectors with a checksum a run has
abbrev pub sectors_of : RunKind → ℕ
sectors_of TreeBlock = 0
sectors_of (Sectors n) = n
sectors_of (Unsummed n) = 0

-- how many tree blocks a run has
abbrev pub trees_of : RunKind → ℕ
trees_of TreeBlock = 1
trees_of (Sectors n) = 0
trees_of (Unsummed n) = 0

-- how many sectors without a checksum a run has
abbrev pub plains_of : RunKind → ℕ
plains_of TreeBlock = 0
plains_of (Sectors n) = 0
plains_of (Unsummed n) = n

-- how many sectors with a checksum some runs have
abbrev pub all_sectors : List Run → ℕ
all_sectors [] = 0
all_sectors (run ∷ runs) = sectors_of run.kind + all_sectors runs

-- how many tree blocks some runs have
abbrev pub all_trees : List Run → ℕ
all_trees [] = 0
all_trees (run ∷ runs) = trees_of run.kind + all_trees runs

-- how many sectors without a checksum some runs have
abbrev pub all_plains : List Run → ℕ
all_plains [] = 0
all_plains (run ∷ runs) = plains_of run.kind + all_plains runs

-- a run of sectors has one, and their addresses are numbers of 64 bits; of plain ones also the
-- address behind them
abbrev pub IsRun : ℕ → RunKind → Type 0
IsRun addr TreeBlock = Unit {0}
IsRun addr (Sectors n) = (1 ≤ n) × (addr + (n - 1) * 4096 < 2 ^ 64)
IsRun addr (Unsummed n) = (1 ≤ n) × (addr + n * 4096 < 2 ^ 64)

-- the tree block at an address, of the first of some marks
abbrev pub tree_from : ℕ → List TreeMark → List Want
tree_from addr [] = []
tree_from addr (mark ∷ marks) = Tree addr mark.generation mark.level ∷ []

-- n sectors without a checksum from an address on
abbrev pub plains_from : ℕ → ℕ → List Want
plains_from addr zero = []
plains_from addr (suc n) = Plain addr ∷ plains_from (addr + 4096) n

-- all runs stand at an address that they may begin at
abbrev pub AreRuns : List Run → Type 0
AreRuns [] = Unit {0}
AreRuns (run ∷ runs) = IsRun run.addr run.kind × AreRuns runs

module _ (kind : SumKind) where
  -- n sectors from an address on, with the first n checksums of some bytes
  abbrev pub sectors_from : ℕ → ℕ → List ℕ → List Want
  sectors_from addr zero sums = []
  sectors_from addr (suc n) sums = Sector addr (stored_sum kind sums) ∷ sectors_from (addr + 4096) n (drop (sum_size kind) sums)

  -- the blocks of a run
  abbrev pub run_wants : ℕ → RunKind → List ℕ → List TreeMark → List Want
  run_wants addr TreeBlock sums marks = tree_from addr marks
  run_wants addr (Sectors n) sums marks = sectors_from addr n sums
  run_wants addr (Unsummed n) sums marks = plains_from addr n

  -- the blocks of runs, each run with those of the checksums and marks that come behind the ones of the runs before it
  abbrev pub wants_of : List Run → List ℕ → List TreeMark → List Want
  wants_of [] sums marks = []
  wants_of (run ∷ runs) sums marks =
      run_wants run.addr run.kind sums marks ++ wants_of runs (drop (sectors_of run.kind * sum_size kind) sums) (drop (trees_of run.kind) marks)

  -- there are as many checksums and marks as sectors and tree blocks
  pub record IsWholeList (runs : List Run) (sums : List ℕ) (marks : List TreeMark) : Type 0 where
    pub runs_fit : AreRuns runs
    pub sums_fit : length sums ≡ all_sectors runs * sum_size kind
    pub marks_fit : length marks ≡ all_trees runs

-- a list of blocks
pub record KeptBlocks : Type 0 where
  pub kind : SumKind
  pub runs : List Run
  pub sums : List ℕ
  pub marks : List TreeMark

-- the blocks that a list has
abbrev pub kept_wants : KeptBlocks → List Want
kept_wants kept = wants_of kept.kind kept.runs kept.sums kept.marks

-- it has a checksum and a mark for each of them
abbrev pub IsList : KeptBlocks → Type 0
IsList kept = IsWholeList kept.kind kept.runs kept.sums kept.marks

-- blocks were put behind the others
pub record AddsAll (old new : KeptBlocks) (more : List Want) : Type 0 where
  pub is_list : IsList new
  pub kind : new.kind ≡ old.kind
  pub wants : kept_wants new ≡ kept_wants old ++ more

-- one block was put behind the others
abbrev pub AddsTo : KeptBlocks → KeptBlocks → Want → Type 0
AddsTo old new want = AddsAll old new (want ∷ [])

-- a want can be put into a list with checksums of a kind: a sector has one of it, a plain one ends
-- at an address, and no tree block is of any generation
abbrev pub IsOfKind : SumKind → Want → Type 0
IsOfKind kind (Tree addr generation level) = Unit {0}
IsOfKind kind (Block addr) = ⊥
IsOfKind kind (Sector addr sum) = stored_sum kind sum.bytes ≡ sum
IsOfKind kind (Plain addr) = addr + 4096 < 2 ^ 64

-- all of some wants can
abbrev pub AreOfKind : SumKind → List Want → Type 0
AreOfKind kind [] = Unit {0}
AreOfKind kind (want ∷ wants) = IsOfKind kind want × AreOfKind kind wants

-- a run was put behind the others
pub record Begins (old new : KeptBlocks) (run : Run) : Type 0 where
  pub kind : new.kind ≡ old.kind
  pub runs : new.runs ≡ old.runs ++ run ∷ []
  pub sums : new.sums ≡ old.sums
  pub marks : new.marks ≡ old.marks

-- a run of sectors has one more, at an address
pub record Lengthens (run : Run) (addr : ℕ) (longer : Run) : Type 0 where
  pub count : ℕ
  pub sectors : run.kind ≡ Sectors count
  pub more : longer ≡ record { addr = run.addr; kind = Sectors (count + 1) }
  pub next : addr ≡ run.addr + count * 4096

-- the run that comes last has one more sector, if the address is the next of its sectors
abbrev pub IsLonger : Option Run → ℕ → Option Run → Type 0
IsLonger last addr None = Unit {0}
IsLonger last addr (Some longer) = IsSomeAnd last (λ run. Lengthens run addr longer)

-- a run of plain sectors has n more, from an address on
pub record Extends (run : Run) (addr n : ℕ) (longer : Run) : Type 0 where
  pub count : ℕ
  pub sectors : run.kind ≡ Unsummed count
  pub more : longer ≡ record { addr = run.addr; kind = Unsummed (count + n) }
  pub next : addr ≡ run.addr + count * 4096

-- the run that comes last has n more plain sectors, if the address is the next of its sectors
abbrev pub IsExtended : Option Run → ℕ → ℕ → Option Run → Type 0
IsExtended last addr n None = Unit {0}
IsExtended last addr n (Some longer) = IsSomeAnd last (λ run. Extends run addr n longer)

-- fewer sectors of the first run are past than it has; of a tree block none
abbrev pub IsPast : List Run → ℕ → Type 0
IsPast [] past = past ≡ 0
IsPast (run ∷ runs) past = past + 1 ≤ sectors_of run.kind + trees_of run.kind + plains_of run.kind

-- how many checksums are past with some sectors of a run
abbrev pub sums_past : RunKind → ℕ → ℕ
sums_past TreeBlock past = 0
sums_past (Sectors n) past = past
sums_past (Unsummed n) past = 0

-- the same with some sectors of the first of some runs
abbrev pub first_past : List Run → ℕ → ℕ
first_past [] past = 0
first_past (run ∷ runs) past = sums_past run.kind past

module _ (kind : SumKind) where
  -- what is left of a run behind some of its sectors
  abbrev pub run_left : ℕ → RunKind → ℕ → List ℕ → List TreeMark → List Want
  run_left addr TreeBlock past sums marks = tree_from addr marks
  run_left addr (Sectors n) past sums marks = sectors_from kind (addr + past * 4096) (n - past) sums
  run_left addr (Unsummed n) past sums marks = plains_from (addr + past * 4096) (n - past)

  -- what is left of runs behind some sectors of the first, of the checksums and marks from there on
  abbrev pub wants_left : List Run → ℕ → List ℕ → List TreeMark → List Want
  wants_left [] past sums marks = []
  wants_left (run ∷ runs) past sums marks =
      run_left run.addr run.kind past sums marks ++ wants_of kind runs (drop ((sectors_of run.kind - past) * sum_size kind) sums)
      (drop (trees_of run.kind) marks)

  -- a place in a list: there are as many checksums and marks behind it as sectors and tree blocks
  pub record IsPlace (runs : List Run) (past : ℕ) (sums : List ℕ) (marks : List TreeMark) : Type 0 where
    pub is_past : IsPast runs past
    pub runs_fit : AreRuns runs
    pub sums_fit : length sums + first_past runs past * sum_size kind ≡ all_sectors runs * sum_size kind
    pub marks_fit : length marks ≡ all_trees runs

-- what a reader has still to give, which stands at these places
abbrev pub left_in : KeptBlocks → ℕ → ℕ → ℕ → ℕ → List Want
left_in kept run past sum mark = wants_left kept.kind (drop run kept.runs) past (drop sum kept.sums) (drop mark kept.marks)

-- what a reader has still to give stands at such a place in its list
abbrev pub StandsIn : KeptBlocks → ℕ → ℕ → ℕ → ℕ → Type 0
StandsIn kept run past sum mark = IsPlace kept.kind (drop run kept.runs) past (drop sum kept.sums) (drop mark kept.marks)

-- what a reader gives: the next block, or nothing at the end
abbrev pub GivesNext : List Want → Option Want → List Want → Type 0
GivesNext old None new = (old ≡ []) × (new ≡ [])
GivesNext old (Some want) new = old ≡ want ∷ new

-- the sectors that are past behind the next one of so many, if another follows
abbrev pub PassesNext : ℕ → ℕ → Option ℕ → Type 0
PassesNext past count None = past + 1 ≡ count
PassesNext past count (Some next) = (next ≡ past + 1) × (past + 1 ≢ count)

-- a reader passes over plain sectors, all of which begin before an address
pub record PassesPlain (old : List Want) (end : ℕ) (new : List Want) : Type 0 where
  pub past : List Want
  pub split : old ≡ past ++ new
  pub plain : (want : Want) → In want past → is_plain want ≡ true
  pub below : (want : Want) → In want past → addr_of want < end

-- a reader passes over plain sectors one behind another from an address on, as far as they begin
-- before a bound; where the last one ends comes out
pub record PassesFrom (old : List Want) (from bound end : ℕ) (new : List Want) : Type 0 where
  pub count : ℕ
  pub split : old ≡ plains_from from count ++ new
  pub ends : end ≡ from + count * 4096
  pub below : (i : ℕ) → i < count → from + i * 4096 < bound

-- a plain sector at an address comes next
pub record IsNextPlain (wants : List Want) (addr : ℕ) : Type 0 where
  pub rest : List Want
  pub split : wants ≡ Plain addr ∷ rest

-- a reader passes over plain sectors where it is to; else nothing is passed
abbrev pub PassesIf : Bool → List Want → ℕ → List Want → Type 0
PassesIf true old end new = PassesPlain old end new
PassesIf false old end new = new ≡ old

-- a run has 16 bytes of memory, and so has a mark: a list takes at most 48 bytes
-- for each sector with a checksum, 16 for each without, and 32 for each tree block
abbrev pub FewBytes : Type 0
FewBytes = (kept : KeptBlocks) → IsList kept → length kept.runs * 16 + length kept.sums + length kept.marks * 16
    ≤ all_sectors kept.runs * 48 + all_plains kept.runs * 16 + all_trees kept.runs * 32
