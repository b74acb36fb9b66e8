-- A rack that reads ahead, and what is seen of it.
use Rattle.std.specs.Prelude.{◌≡◌, ◌⊎◌, ◌<◌, false, ℕ, List, All, Option, IfSome, Box, Result, Err}
use Rattle.btr_rack.specs.Rack.{Account, Accounts, IsRack, NoneFailed, Seen, range_in}
use Rattle.btr_rack.specs.declared.error.RackError.{RackError}
use Rattle.btr_rack.specs.declared.error.RackError.TheVariants.{Failed}
use Rattle.btr_rack.specs.declared.place.Place.{Place}
use Rattle.btr_ahead.specs.Ahead.{AreRead}
use Rattle.btr_ahead.specs.declared.kept_bytes.KeptBytes.{KeptBytes}
use Rattle.btr_ahead.specs.declared.kept_run.KeptRun.{KeptRun}

-- the rack below, and the failed calls of this one
pub record Reader (R : Type 0) : Type 0 where
  pub rack : R
  pub account : Account

-- a reader that reads ahead: the rack below, and its own account of failed calls
abbrev pub reader : {R : Type 0} → R → Account → Reader R
reader rack account = record { rack = rack; account = account }

-- what is kept, if anything is, are bytes of the images, where they are told
abbrev pub KeepsRead : {A : Type 0} → Option (List (List ℕ)) → Option (Box KeptBytes A) → Type 0
KeepsRead held kept = IfSome kept (λ b. AreRead held b.value)

-- what a run keeps are bytes of the images, where they are told
abbrev pub HasRead : Option (List (List ℕ)) → KeptRun → Type 0
HasRead held run = KeepsRead held run.kept

-- what each run keeps, the one in use and the others
pub record HaveRead (held : Option (List (List ℕ))) (current : KeptRun) (others : List KeptRun) : Type 0 where
  pub first : HasRead held current
  pub rest : All (HasRead held) others

-- what is seen of it: what is seen of the rack below, but that it isn't sure, and has an account of its own
abbrev pub seen_ahead : Seen → Account → Seen
seen_ahead below account = record below { sure = false; account = account }

-- what is seen of a reader that reads ahead is what is seen of a rack
pub sound_ahead : (below : Seen) → IsRack below → (account : Account) → IsRack (seen_ahead below account)
sound_ahead below is account = record { sized = is.sized; bytes = is.bytes; count_left = λ e. cc }

-- one call failed: a read of so many bytes from a place on
abbrev pub FailsFrom : Place → ℕ → Account → Account → Type 0
FailsFrom place len old new = Accounts {T = Unit {0}} (range_in place.slot place.off len) old new (Err Failed)

-- no call failed, or, where a sector is read, one that was to read more than this sector from its beginning on
abbrev pub MayFailAhead : Place → Account → Account → Type 0
MayFailAhead place old new = NoneFailed old new ⊎ ((place.len ≡ 4096) × ((len : ℕ) × (4096 < len) × FailsFrom place len old new))

-- What a read does to the account of the rack below: a read ahead may have failed, and then it is as the
-- answer says. So what failed wasn't tried again.
pub record AccountsAhead {T : Type 0} (place : Place) (old new : Account) (result : Result T RackError) : Type 0 where
  pub between : Account
  pub ahead : MayFailAhead place old between
  pub read : Accounts place between new result
