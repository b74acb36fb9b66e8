-- What a fetch answers.
use Rattle.std.specs.Prelude.{◌≡◌, ℕ, true, List, [], IfSome, IfOk, IsSome, IsSomeAnd, Result, Ok, Err, IsOk, ⊤}
use Rattle.std.specs.List.{Contains}
use Rattle.btr_prog.specs.Prog.{BlockMap}
use Rattle.btr_prog.specs.Calls.{Calls}
use Rattle.btr_rack.specs.Rack.{Account, Seen, NoneFailed, Steady, forgotten}
use Rattle.btr_read.specs.declared.fault.ReadFault.{ReadFault}
use Rattle.btr_read.specs.declared.fault.ReadFault.TheVariants as fault
use Rattle.btr_read.specs.declared.want.Want.{Want}
use Rattle.btr_read.specs.Want.{addr_of, passes}
use Rattle.btr_read.specs.Layout.{Layout}
use Rattle.btr_read.specs.Candidates.{Target}
use Rattle.btr_read.specs.Fate.{Fault, Unmapped, Crosses, Lost, sought, passing_for, fate, Agree, IsTested}
use Rattle.btr_read.specs.Reading.{AgreedOn, OnMap, shown}
use Rattle.btr_read.specs.Cause.{LastOf, IsUnread}
use Rattle.btr_read.specs.Store.{Blocks, Lent, block_of, kept_want, KeepsIn, KeepsFree}

-- the bytes of a fetched block pass, and are a candidate's; they are those of the block map where no count rose,
-- and where all candidates that pass are equal
pub record IsFetched (layout : Layout) (want : Want) (old new : Seen) (bytes : List ℕ) : Type 0 where
  pub pass : passes layout.setting want bytes ≡ true
  pub stand : IfSome old.held (λ images. Contains (passing_for images (sought layout want)) bytes)
  pub first : Steady old.account.faults new.account.faults → IfSome old.held (λ images. fate images layout want ≡ Ok bytes)
  pub agreed : IfSome old.held (λ images. Agree images layout want → fate images layout want ≡ Ok bytes)

-- a block was sought in vain: some read failed, and each candidate that passes was missed
pub record IsUnreadFor (layout : Layout) (want : Want) (old new : Seen) (addr slot : ℕ) : Type 0 where
  pub same_addr : addr ≡ addr_of want
  pub target : Target
  pub is_sought : sought layout want ≡ Ok target
  pub unread : IsUnread target old new slot

-- each answer with what it says of the want's fate. `store` is the store afterwards
abbrev pub FitsFetch : Layout → Want → Seen → Seen → Blocks → Result Lent ReadFault → Type 0
FitsFetch layout want old new store (Ok loan) = IsOk (sought layout want) × IsSomeAnd (block_of store loan) (IsFetched layout want old new)
FitsFetch layout want old new store (Err (fault.Lost addr)) =
    (addr ≡ addr_of want) × IsOk (sought layout want) × IfSome old.held (λ images. fate images layout want ≡ Err (Lost addr))
FitsFetch layout want old new store (Err (fault.Unread addr slot)) = IsUnreadFor layout want old new addr slot
FitsFetch layout want old new store (Err (fault.Unmapped addr)) = sought layout want ≡ Err (Unmapped addr)
FitsFetch layout want old new store (Err (fault.Crosses addr)) = sought layout want ≡ Err (Crosses addr)

-- Where a block is lost or has no position, no call failed. Where it was had, those that failed are forgotten, and the
-- last one is the one before, or lies in a range of a candidate that stands.
abbrev pub AccountsFetch : Layout → Want → Account → Account → Result Lent ReadFault → Type 0
AccountsFetch layout want old new (Ok loan) = (new.fresh ≡ 0) × (new.missed ≡ []) × IfOk (sought layout want) (λ t. LastOf t old new)
AccountsFetch layout want old new (Err (fault.Lost addr)) = NoneFailed (forgotten old) new
AccountsFetch layout want old new (Err (fault.Unread addr slot)) = ⊤
AccountsFetch layout want old new (Err (fault.Unmapped addr)) = NoneFailed (forgotten old) new
AccountsFetch layout want old new (Err (fault.Crosses addr)) = NoneFailed (forgotten old) new

-- the same of what is seen of a rack
abbrev pub CountsFetch : Layout → Want → Seen → Seen → Result Lent ReadFault → Type 0
CountsFetch layout want old new result = AccountsFetch layout want old.account new.account result

-- a block that a free slot keeps is had without a read
abbrev pub ComesAgain : Want → Blocks → Account → Account → Result Lent ReadFault → Type 0
ComesAgain want store old new result = KeepsFree store want → IsOk result × (new ≡ forgotten old)

-- a tree block that was had while no count rose is kept in the slot of its loan
abbrev pub KeepsLent : Want → Blocks → Account → Account → Lent → Type 0
KeepsLent want store old new loan = IsSome (kept_want want) → Steady old.faults new.faults → KeepsIn store loan.slot want

-- what a fetch answers of a block map: the bytes that were had, or the fault; nothing where a block was unread
abbrev pub AnswersOf : Want → Blocks → Result Lent ReadFault → BlockMap Want Fault → Type 0
AnswersOf want store (Ok loan) B = IsSomeAnd (block_of store loan) (λ block. B want ≡ Ok block)
AnswersOf want store (Err (fault.Lost addr)) B = B want ≡ Err (Lost addr)
AnswersOf want store (Err (fault.Unread addr slot)) B = addr ≡ addr_of want
AnswersOf want store (Err (fault.Unmapped addr)) B = B want ≡ Err (Unmapped addr)
AnswersOf want store (Err (fault.Crosses addr)) B = B want ≡ Err (Crosses addr)

-- so far as the call was steady, it answers as the block map
abbrev pub CallsFetch : Layout → Want → Seen → Seen → Blocks → Result Lent ReadFault → Type 0
CallsFetch layout want old new store result =
    IsTested want → Calls (AgreedOn layout) (shown old) (shown new) (OnMap layout (AnswersOf want store result))

-- what is sought, or why it has no position
abbrev pub IsLocated : Result Target Fault → Result Target ReadFault → Type 0
IsLocated s (Ok target) = s ≡ Ok target
IsLocated s (Err (fault.Unmapped addr)) = s ≡ Err (Unmapped addr)
IsLocated s (Err (fault.Crosses addr)) = s ≡ Err (Crosses addr)
IsLocated s (Err (fault.Lost addr)) = ⊥
IsLocated s (Err (fault.Unread addr slot)) = ⊥
