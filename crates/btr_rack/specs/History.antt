-- What was asked of a file of the system.
use Rattle.std.specs.Prelude.{◌≡◌, ℕ, ◌+◌, ◌-◌, ◌<◌, Bool, false, List, [], ◌∷◌, ◌++◌, length, take, drop, replicate, Option, MatchOption, ◌≤◌, ◌⊎◌}
use Rattle.std.specs.declared.fs.OpenOptions.{OpenOptions}
use Rattle.std.specs.Fs.{asks_write, asks_create_new}
use Rattle.btr_rack.specs.declared.raw_call.RawCall.{RawCall}
use Rattle.btr_rack.specs.declared.file_id.FileId.{FileId}
use Rattle.btr_rack.specs.declared.raw_call.RawCall.TheVariants.{Opened, Looked, Read, Stored, Cut, Synced, Entered, Interrupted, Refused}
use Rattle.btr_rack.specs.declared.tried.Tried.{Tried}
use Rattle.btr_rack.specs.declared.tried.Tried.TheVariants.{Done, Interrupted as TriedInVain, Refused as TriedBadly}

-- a call of the system, with the path or the bytes that it took or gave
pub record Event : Type 0 where
  pub call : RawCall
  pub bytes : List ℕ

-- a call of the system with these bytes
abbrev pub event : RawCall → List ℕ → Event
event call bytes = record { call = call; bytes = bytes }

-- a call that the system refused
abbrev pub refused : Event
refused = event Refused []

-- a call that the system interrupted
abbrev pub interrupted : Event
interrupted = event Interrupted []

-- a look at which file it is: of a path, or of the open file
abbrev pub looked : List ℕ → FileId → Event
looked path id = event (Looked id) path

-- the opening of a path
abbrev pub opened : List ℕ → Bool → Bool → Event
opened path write made = event (Opened write made) path

-- behind these calls the opening of a path as these options ask, and nothing else, was asked
abbrev pub IsOpenedBy : OpenOptions → List ℕ → List Event → List Event → Type 0
IsOpenedBy how path before history = history ≡ opened path (asks_write how) (asks_create_new how) ∷ before

-- the path was looked at, it was opened, and what is open is the same file; nothing else was asked
abbrev pub OnlyOpenedSame : List ℕ → Bool → List Event → Type 0
OnlyOpenedSame path write history = (id : FileId) × (history ≡ looked [] id ∷ opened path write false ∷ looked path id ∷ [])

-- a look at the open file is noted, or that it was refused
abbrev pub NotesLook : List Event → List Event → Option FileId → Type 0
NotesLook old new result = MatchOption result (new ≡ refused ∷ old) (λ id. new ≡ looked [] id ∷ old)

-- a call that took or gave a first part of these bytes is noted, or that it was interrupted or refused
abbrev pub Notes : RawCall → List ℕ → List Event → List Event → Tried → Type 0
Notes call bytes old new (Done n) = (0 < n) × (n ≤ length bytes) × (new ≡ event call (take n bytes) ∷ old)
Notes call bytes old new TriedInVain = new ≡ interrupted ∷ old
Notes call bytes old new TriedBadly = new ≡ refused ∷ old

-- a call that was interrupted or refused is to be noted so
abbrev pub IsInVain : Tried × RawCall → Type 0
IsInVain noted = (noted ≡ (TriedInVain, Interrupted)) ⊎ (noted ≡ (TriedBadly, Refused))

-- a file cut to a length, or filled up with zeros
abbrev pub resized : ℕ → List ℕ → List ℕ
resized len file = take len file ++ replicate (len - length file) 0

-- a file with bytes stored from `off` on: where it was shorter, zeros stand between
abbrev pub overwritten : ℕ → List ℕ → List ℕ → List ℕ
overwritten off bytes file = resized off file ++ bytes ++ drop (off + length bytes) file

-- a file after a call. One that was interrupted or refused is taken to change nothing.
abbrev pub after : RawCall → List ℕ → List ℕ → List ℕ
after (Opened write made) bytes file = file
after (Looked id) bytes file = file
after (Read off) bytes file = file
after (Stored off) bytes file = overwritten off bytes file
after (Cut len) bytes file = resized len file
after Synced bytes file = file
after Entered bytes file = file
after Interrupted bytes file = file
after Refused bytes file = file

-- the bytes of a file that was empty, after the calls; the newest stands first
abbrev pub replay : List Event → List ℕ
replay [] = []
replay (e ∷ older) = after e.call e.bytes (replay older)

-- The calls since `old` read or stored these bytes, one piece after the other from `off` on: `call` says which of both.
-- So many of them were interrupted, and none was refused.
pub data Moves (call : ℕ → RawCall) (off : ℕ) (old : List Event) : ℕ → List Event → List ℕ → Type 0 where
  nothing_moved : Moves call off old 0 old []
  piece_moved : (again : ℕ) (now : List Event) (bytes piece : List ℕ) → Moves call off old again now bytes → 0 < length piece
      → Moves call off old again (event (call (off + length bytes)) piece ∷ now) (bytes ++ piece)
  none_moved : (again : ℕ) (now : List Event) (bytes : List ℕ) → Moves call off old again now bytes
      → Moves call off old (again + 1) (interrupted ∷ now) bytes

-- the calls since `old` read or stored these bytes, at most 16 of them were interrupted, and none was refused
pub record Moved (call : ℕ → RawCall) (off : ℕ) (old new : List Event) (bytes : List ℕ) : Type 0 where
  pub again : ℕ
  pub few : again ≤ 16
  pub moves : Moves call off old again new bytes

-- so many bytes were moved, and then the system refused a call, or interrupted one for the seventeenth time
pub record Stops (call : ℕ → RawCall) (off : ℕ) (old new : List Event) (bytes : List ℕ) : Type 0 where
  pub before : List Event
  pub moved : Moved call off old before bytes
  pub stop : (new ≡ refused ∷ before) ⊎ ((moved.again ≡ 16) × (new ≡ interrupted ∷ before))

-- fewer bytes than these were moved when the system refused a call, or interrupted one for the seventeenth time
abbrev pub FallsShort : (ℕ → RawCall) → ℕ → List Event → List Event → List ℕ → Type 0
FallsShort call off old new bytes = (done : ℕ) × (done < length bytes) × Stops call off old new (take done bytes)
