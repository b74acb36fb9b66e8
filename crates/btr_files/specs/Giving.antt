-- How a file gives its next piece.
use Rattle.std.specs.Prelude.{◌≡◌, ℕ, ◌+◌, ◌-◌, ◌%◌, ◌<◌, ◌≤◌, true, nat_le, if◌then◌else◌, List, [], ◌++◌, length, take, slice_index_or, Option}
use Rattle.std.specs.Prelude.{Some, None, IfSome, IsSomeAnd, IsTrue, unwrap_or, Result, Ok, Err}
use Rattle.btr_base.specs.Crc.{crc32c}
use Rattle.btr_base.specs.declared.kind.SumKind.{SumKind}
use Rattle.btr_items.specs.FileExtent.{inline_data}
use Rattle.btr_node.specs.Block.{items, is_leaf}
use Rattle.btr_prog.specs.Prog.{Run, Does, first, prepend, want_marks}
use Rattle.btr_prog.specs.Answers.{Halt, Follows, no_part}
use Rattle.btr_read.specs.Fate as fate
use Rattle.btr_read.specs.Fate.{Fault}
use Rattle.btr_read.specs.Layout.{Layout}
use Rattle.btr_read.specs.Store.{Blocks, Lent, SameLoans, block_of, IsLiveIn}
use Rattle.btr_read.specs.Want.{passes}
use Rattle.btr_read.specs.declared.setting.Setting.{Setting}
use Rattle.btr_read.specs.declared.want.Want.{Want}
use Rattle.btr_read.specs.declared.want.Want.TheVariants as want
use Rattle.btr_walk.specs.declared.fault.TreeFault.{TreeFault}
use Rattle.btr_walk.specs.declared.fault.TreeFault.TheVariants as tree
use Rattle.btr_walk.specs.Lending.{base}
use Rattle.btr_walk.specs.Reading.{Map, UnreadBlock, halt_of}
use Rattle.btr_volume.specs.Tree.{key}
use Rattle.btr_files.specs.declared.progress.Progress.{Progress}
use Rattle.btr_files.specs.declared.progress.SectorPart.{SectorPart}
use Rattle.btr_files.specs.declared.progress.Source.{Source}
use Rattle.btr_files.specs.declared.progress.Todo.{Todo}
use Rattle.btr_files.specs.declared.progress.Todo.TheVariants.{Next, Inline, Sectors, Over}
use Rattle.btr_files.specs.declared.streaming.Shown.{Shown}
use Rattle.btr_files.specs.declared.streaming.Shown.TheVariants as shown
use Rattle.btr_files.specs.declared.streaming.Span.{Span}
use Rattle.btr_files.specs.declared.streaming.Span.TheVariants as span
use Rattle.btr_files.specs.Content.{Piece, Bytes, Gap}
use Rattle.btr_files.specs.Streaming.{LeftBy, IsGoing, IsUnderway}

-- how many zeros come before anything else
abbrev pub zeros_at : ℕ → ℕ → Todo → ℕ
zeros_at size at Next = 0
zeros_at size at (Inline part) = part.start - at
zeros_at size at (Sectors part) = part.start - at
zeros_at size at Over = size - at

-- a file that was given up to another position, and what is still to come then
abbrev pub given_up_to : Progress → ℕ → Todo → Progress
given_up_to p at todo = record { rest = p.rest; at = at; end = p.end; todo = todo }

-- the file after some zeros were given
abbrev pub after_zeros : Progress → ℕ → Progress
after_zeros p zeros = given_up_to p (p.at + zeros) p.todo

-- the file after all bytes of the extent that was met last were given
abbrev pub after_end : ℕ → Progress → Progress
after_end size p = if nat_le size p.end then given_up_to p size Over else given_up_to p p.end Next

-- the file after the first of some sectors was given
abbrev pub after_sector : ℕ → Progress → SectorPart → Progress
after_sector size p part =
    if nat_le part.count 1 then after_end size p
    else given_up_to p (part.start + 4096) (Sectors (record { start = part.start + 4096; addr = part.addr + 4096; count = part.count - 1 }))

-- the bytes of item `at` of a leaf's block
abbrev pub body_at : List ℕ → ℕ → List ℕ
body_at block at = (slice_index_or (items block) at (record { key = key 0 0 0; offset = 0; size = 0; body = [] })).body

-- a block has the bytes of a piece
abbrev pub IsSpan : List ℕ → Span → Type 0
IsSpan block (span.Inline at len) =
    (101 ≤ length block) × IsTrue (is_leaf block) × (at < length (items block)) × (0 < len) × (21 + len ≤ length (body_at block at))
IsSpan block (span.Sector len verified crc) = (0 < len) × (len ≤ length block) × IfSome crc (λ c. c ≡ crc32c (take len block))

-- the piece that a block has for a span of an extent
abbrev pub span_piece : List ℕ → Span → Piece
span_piece block (span.Inline at len) = Bytes (take len (inline_data (body_at block at))) true
span_piece block (span.Sector len verified crc) = Bytes (take len block) verified

-- the piece that is given
abbrev pub shown_piece : Blocks → Shown → Piece
shown_piece store (shown.Gap count) = Gap count
shown_piece store (shown.Bytes loan place) = span_piece (unwrap_or (block_of store loan) []) place

-- a sector is wanted, at a sector's address where it is tested
abbrev pub IsSectorWant : Want → Type 0
IsSectorWant (want.Tree addr generation level) = ⊥
IsSectorWant (want.Block addr) = ⊥
IsSectorWant (want.Sector addr sum) = addr % 4096 ≡ 0
IsSectorWant (want.Plain addr) = Unit {0}

-- a number is the CRC-32C of all bytes that pass for a want
abbrev pub IsCrcFor : Want → ℕ → Type 0
IsCrcFor w crc = (setting : Setting) (bytes : List ℕ) → passes setting w bytes ≡ true → crc ≡ crc32c bytes

-- the bytes of a loan pass for a want
abbrev pub PassesFor : Layout → Want → Blocks → Lent → Type 0
PassesFor layout w store loan = IsSomeAnd (block_of store loan) (λ block. passes layout.setting w block ≡ true)

-- the loan of a sector is new and live, and the other loans are as before
pub record IsSectorLent (old new : Blocks) (loan : Lent) : Type 0 where
  pub others : SameLoans old (base new (Some loan))
  pub live : IsLiveIn new loan
  pub len : loan.len ≡ 4096

-- the loan of a sector is new and live, or no loan changed
abbrev pub LendsSector : Blocks → Blocks → Result Lent TreeFault → Type 0
LendsSector old new (Ok loan) = IsSectorLent old new loan
LendsSector old new (Err f) = SameLoans old new

-- a sector came, or why it didn't, as one of some maps says
abbrev pub SectorComes : (UnreadBlock → Want → Type 0) → (ℕ → Map) → Want → Blocks → Result Lent TreeFault → Type 0
SectorComes Is Bs w store (Ok loan) = (n : ℕ) × IsSomeAnd (block_of store loan) (λ block. Bs n w ≡ Ok block)
SectorComes Is Bs w store (Err (tree.Lost a)) = (n : ℕ) × (Bs n w ≡ Err (fate.Lost a))
SectorComes Is Bs w store (Err (tree.Unread a slot)) = Is (record { addr = a; slot = slot }) w
SectorComes Is Bs w store (Err (tree.Unmapped a)) = (n : ℕ) × (Bs n w ≡ Err (fate.Unmapped a))
SectorComes Is Bs w store (Err (tree.Crosses a)) = (n : ℕ) × (Bs n w ≡ Err (fate.Crosses a))
SectorComes Is Bs w store (Err (tree.Malformed a)) = ⊥

-- the loan of a piece's bytes is new and live, and its block has them
pub record IsSpanLent (old new : Blocks) (loan : Lent) (place : Span) : Type 0 where
  pub others : SameLoans old (base new (Some loan))
  pub live : IsLiveIn new loan
  pub there : IsSomeAnd (block_of new loan) (λ block. IsSpan block place)

-- the loan of what was shown is new and live, or there is none and no loan changed
abbrev pub LendsShown : Blocks → Blocks → Shown → Type 0
LendsShown old new (shown.Gap count) = SameLoans old new
LendsShown old new (shown.Bytes loan place) = IsSpanLent old new loan place

-- the loan of the step that gives the next piece is new and live, or no loan changed
abbrev pub LendsStep : Blocks → Blocks → Result Shown TreeFault → Type 0
LendsStep old new (Ok given) = LendsShown old new given
LendsStep old new (Err f) = SameLoans old new

-- the loan of the next piece is new and live, or no loan changed
abbrev pub LendsNext : Blocks → Blocks → Result (Option Shown) TreeFault → Type 0
LendsNext old new (Ok (Some given)) = LendsShown old new given
LendsNext old new (Ok None) = SameLoans old new
LendsNext old new (Err f) = SameLoans old new

-- a gap that is shown isn't empty
abbrev pub IsShown : Shown → Type 0
IsShown (shown.Gap count) = 0 < count
IsShown (shown.Bytes loan place) = Unit {0}

-- a step gives more of a file, which can go on then
pub record StepsOn (source : Source) (p p' : Progress) (given : Shown) : Type 0 where
  pub underway : IsUnderway source p'
  pub further : p.at < p'.at
  pub shown : IsShown given

-- a step gives more of a file, or the file is given up to its size; after a fault it is given as far as it was
abbrev pub NextStepsOn : Source → Progress → Progress → Result (Option Shown) TreeFault → Type 0
NextStepsOn source p p' (Ok (Some given)) = StepsOn source p p' given
NextStepsOn source p p' (Ok None) = IsUnderway source p' × (p'.at ≡ source.size)
NextStepsOn source p p' (Err f) = p' ≡ p

module _ (kind : SumKind) (source : Source) (Is : UnreadBlock → Want → Type 0) (Bs : ℕ → Map) where
  -- some wants, and then the piece; what is left comes behind
  pub record GivesStep (seen : List Want) (p p' : Progress) (store : Blocks) (given : Shown) : Type 0 where
    pub past : List Want
    pub goes : (q : Run Want Fault Piece (Unit {0}))
        → LeftBy kind source Bs (Bs 0) p' q
        → LeftBy kind source Bs (Bs 0) p (prepend (want_marks past) (first (Does (shown_piece store given)) q))
    pub on : IsGoing (Bs 0) (seen ++ past) p'

  -- what was answered without a piece follows a run of what was still to come
  abbrev pub EndsIn : List Want → Progress → Result (Unit {0}) (Halt Fault UnreadBlock) → Type 0
  EndsIn seen p answer = (q : Run Want Fault Piece (Unit {0})) × LeftBy kind source Bs (Bs 0) p q × Follows Is no_part seen q [] answer

  -- a step gives the next piece, or a fault
  abbrev pub GivenBy : List Want → Progress → Progress → Blocks → Result Shown TreeFault → Type 0
  GivenBy seen p p' store (Ok given) = GivesStep seen p p' store given
  GivenBy seen p p' store (Err f) = EndsIn seen p (Err (halt_of f))

  -- a step gives the next piece or a fault, whatever was wanted before
  abbrev pub IsGiven : Progress → Progress → Blocks → Result Shown TreeFault → Type 0
  IsGiven p p' store result = (seen : List Want) → IsGoing (Bs 0) seen p → GivenBy seen p p' store result

  -- a step gives the next piece, the end of the file, or a fault
  abbrev pub NextStepBy : List Want → Progress → Progress → Blocks → Result (Option Shown) TreeFault → Type 0
  NextStepBy seen p p' store (Ok (Some given)) = GivesStep seen p p' store given
  NextStepBy seen p p' store (Ok None) = EndsIn seen p (Ok tt)
  NextStepBy seen p p' store (Err f) = EndsIn seen p (Err (halt_of f))

  -- a step gives the next piece, the end or a fault, whatever was wanted before
  abbrev pub IsNextStep : Progress → Progress → Blocks → Result (Option Shown) TreeFault → Type 0
  IsNextStep p p' store result = (seen : List Want) → IsGoing (Bs 0) seen p → NextStepBy seen p p' store result
