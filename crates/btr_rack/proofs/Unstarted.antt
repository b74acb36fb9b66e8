-- A folder that is a sink, before its start.
use Rattle.std.proofs.Common.{◌≡◌, ℕ, ◌||◌, Bool, true, false, Option, Some, None, is_some, refl}
use Rattle.btr_rack.specs.declared.destination.Destination.{Destination}
use Rattle.btr_rack.specs.Sink.{NotStarted}
use Rattle.btr_rack.specs.Out.{CallAccount}
use Rattle.btr_rack.specs.FolderTree.{started_stage, at_sink, folder_sink, unstarted}

-- the account of a real folder, which is never sure
abbrev pub account_with : ℕ → Bool → CallAccount
account_with faults ample = record { faults = faults; sure = false; ample = ample }

-- a started folder stands at another stage than before the start
in_a_stage : (b : Bool) → started_stage b ≡ NotStarted → ⊥
in_a_stage true e = cc
in_a_stage false e = cc

-- a folder that is seen as not started is the sink before its start
pub unstarted_at : (at : Option Destination) → (folder_sink at).stage ≡ NotStarted → folder_sink at ≡ unstarted
unfolding at_sink
unstarted_at None e = refl
unstarted_at (Some at) e = absurd (in_a_stage (is_some at.file) e)

-- a folder that is seen as not started is not there yet
pub not_there : (at : Option Destination) → (folder_sink at).stage ≡ NotStarted → is_some at ≡ false
unfolding at_sink
not_there None e = refl
not_there (Some at) e = absurd (in_a_stage (is_some at.file) e)

-- where the room is missing, the sink isn't ample
pub no_room : {R : Type 0} (faults : ℕ) (room room' : Option R) (there : Bool) → room ≡ None → room' ≡ None → there ≡ false
    → ((is_some room || there) ≡ false) × (account_with faults (is_some room' || there) ≡ account_with faults (is_some room || there))
no_room faults room room' there e f n = (rw (e, n) refl, rw (e, f) refl)
