-- What reading into a slot comes to, and which blocks are kept then.
use Rattle.std.specs.Prelude.{◌≡◌, ◌⊎◌, ℕ, ◌<◌, List, length, take, Option, None, IfSome, slice_get, slice_set, Result, Ok, Err}
use Rattle.btr_pool.specs.Slots.{Slots, IsFree, bytes_at, with_lent}
use Rattle.btr_rack.specs.Rack.{Seen, NoneFailed}
use Rattle.btr_read.specs.declared.attempt.Missed.{Missed}
use Rattle.btr_read.specs.declared.attempt.Missed.TheVariants.{Lost, Unread}
use Rattle.btr_read.specs.declared.fault.ReadFault.{ReadFault}
use Rattle.btr_read.specs.declared.fault.ReadFault.TheVariants as fault
use Rattle.btr_read.specs.declared.kept.Kept.{Kept}
use Rattle.btr_read.specs.declared.want.Want.{Want}
use Rattle.btr_read.specs.Candidates.{Target, size_of}
use Rattle.btr_read.specs.Fate.{passing}
use Rattle.btr_read.specs.Cause.{IsUnread}
use Rattle.btr_read.specs.Attempt.{IsFirstPassing, IsLater}
use Rattle.btr_read.specs.Store.{kept_want}
use Rattle.btr_read.specs.Writing.{OnlyWrites, StillKept}

-- why the block at an address can't be read
abbrev pub fault_of : ℕ → Missed → ReadFault
fault_of addr Lost = fault.Lost addr
fault_of addr (Unread image) = fault.Unread addr image

-- the slots are as many and as long as before
pub record SameShape (old new : Slots) : Type 0 where
  pub size : new.size ≡ old.size
  pub count : length new.bytes ≡ length old.bytes
  pub lent : length new.lent ≡ length old.lent

-- a free slot was taken, and written
pub record TakesFound (old new : Slots) (slot : ℕ) : Type 0 where
  pub free : IsFree old slot
  pub writes : OnlyWrites slot (with_lent old slot) new

-- some blocks are kept still, and with them the block that was sought in a slot, if it is a tree block
pub record KeepsOneMore (t : Target) (wants wants' : List (Option Want)) (pool pool' : Slots) (slot : ℕ) : Type 0 where
  pub then : List (Option Want)
  pub room : slot < length then
  pub still : StillKept wants then pool pool'
  pub one : wants' ≡ slice_set then slot (kept_want t.want)

-- each answer with what it says of what is sought, and of the blocks that are kept then
abbrev pub FitsFinding : Target → List (Option Want) → List (Option Want) → Slots → Slots → Seen → Seen → Result ℕ Missed → Type 0
FitsFinding t wants wants' pool pool' old new (Ok slot) =
    (KeepsOneMore t wants wants' pool pool' slot × IsFirstPassing t old new (take (size_of t) (bytes_at pool' slot)))
    ⊎ (StillKept wants wants' pool pool' × IsLater t old new (take (size_of t) (bytes_at pool' slot)))
FitsFinding t wants wants' pool pool' old new (Err Lost) =
    StillKept wants wants' pool pool' × NoneFailed old.account new.account
    × IfSome old.held (λ images. slice_get (passing images t) 0 ≡ None)
FitsFinding t wants wants' pool pool' old new (Err (Unread image)) = StillKept wants wants' pool pool' × IsUnread t old new image

-- the same of what is known to stand in the slots
abbrev pub Finds : Target → Kept → Kept → Slots → Slots → Seen → Seen → Result ℕ Missed → Type 0
Finds t kept kept' pool pool' old new result = FitsFinding t kept.wants kept'.wants pool pool' old new result
