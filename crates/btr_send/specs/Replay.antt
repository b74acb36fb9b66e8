-- A stream read back, command by command, and what it makes.
use Rattle.std.specs.Prelude.{◌≡◌, ℕ, zero, suc, ◌+◌, ◌-◌, ◌<◌, ◌^◌, ◌==◌, nat_le, if◌then◌else◌, List, [], ◌∷◌, ◌++◌, drop, flat_map, length, replicate}
use Rattle.std.specs.Prelude.{take, Option, Some, None}
use Rattle.std.specs.Int.{from_le_bytes, w16, w32, w64}
use Rattle.std.specs.Str.{bytes_eq}
use Rattle.btr_send.specs.Command.{attribute, below, command, header, number_attribute}
use Rattle.btr_send.specs.Command as stream_of

-- a command of the stream; paths begin below the subvolume
pub data Command : Type 0 where
  Subvol : List ℕ → List ℕ → ℕ → Command
  MkFile : List ℕ → Command
  MkDir : List ℕ → Command
  Write : List ℕ → ℕ → List ℕ → Command
  Truncate : List ℕ → ℕ → Command
  End : Command

-- its bytes
abbrev pub bytes_of : Command → List ℕ
bytes_of (Subvol name uuid transid) = command 1 (attribute 15 name ++ attribute 1 uuid ++ number_attribute 2 transid)
bytes_of (MkFile path) = command 3 (attribute 15 path)
bytes_of (MkDir path) = command 4 (attribute 15 path)
bytes_of (Write path offset bytes) = command 15 (attribute 15 path ++ number_attribute 18 offset ++ attribute 19 bytes)
bytes_of (Truncate path size) = command 17 (attribute 15 path ++ number_attribute 4 size)
bytes_of End = command 21 []

-- its fields fit where they stand
abbrev pub FieldsFit : Command → Type 0
FieldsFit (Subvol name uuid transid) = (length name < 2 ^ 16) × (length uuid ≡ 16) × (transid < 2 ^ 64)
FieldsFit (MkFile path) = length path < 2 ^ 16
FieldsFit (MkDir path) = length path < 2 ^ 16
FieldsFit (Write path offset bytes) = (length path < 2 ^ 16) × (offset < 2 ^ 64) × (length bytes < 2 ^ 16)
FieldsFit (Truncate path size) = (length path < 2 ^ 16) × (size < 2 ^ 64)
FieldsFit End = Unit {0}

-- the data of the first attribute
abbrev pub first_data : List ℕ → List ℕ
first_data attributes = take (from_le_bytes w16 (drop 2 attributes)) (drop 4 attributes)

-- what comes after the first attribute
abbrev pub behind_first : List ℕ → List ℕ
behind_first attributes = drop (from_le_bytes w16 (drop 2 attributes)) (drop 4 attributes)

-- the command of a number and attributes, by the places at which its fields stand
abbrev pub by_fields : ℕ → List ℕ → Command
by_fields number attributes =
    let path = first_data attributes in
    let more = behind_first attributes in
    if number == 1 then Subvol path (take 16 (drop 4 more)) (from_le_bytes w64 (drop 24 more))
    else if number == 3 then MkFile path
    else if number == 4 then MkDir path
    else if number == 15 then Write path (from_le_bytes w64 (drop 4 more)) (drop 16 more)
    else if number == 17 then Truncate path (from_le_bytes w64 (drop 4 more))
    else End

-- a command, and the bytes behind it
pub record Read : Type 0 where
  pub first : Command
  pub rest : List ℕ

-- the command that some bytes begin with: none where they aren't just the bytes of a command, its checksum and all
abbrev pub read_command : List ℕ → Option Read
read_command bytes =
    let size = 10 + from_le_bytes w32 bytes in
    let first = by_fields (from_le_bytes w16 (drop 4 bytes)) (drop 10 (take size bytes)) in
    if bytes_eq (take size bytes) (bytes_of first) then Some (record { first = first; rest = drop size bytes }) else None

-- what a path is
pub data Content : Type 0 where
  Directory : Content
  File : List ℕ → Content

-- a directory or a file, by its path
pub record Member : Type 0 where
  pub path : List ℕ
  pub content : Content

-- a member, made of its path and its content
abbrev pub member : List ℕ → Content → Member
member path content = record { path = path; content = content }

-- a file that may still grow
pub record Growing : Type 0 where
  pub path : List ℕ
  pub bytes : List ℕ

-- what was made: all but the last, if that is a file that may still grow
pub record Made : Type 0 where
  pub members : List Member
  pub growing : Option Growing

-- the members with the file that still grows, if there is one
abbrev pub with_growing : List Member → Option Growing → List Member
with_growing members None = members
with_growing members (Some file) = members ++ member file.path (File file.bytes) ∷ []

-- all that was made
abbrev pub all_made : Made → List Member
all_made made = with_growing made.members made.growing

-- a file grown by zeros up to a length that it hasn't passed, and then by some bytes
abbrev pub grown_to : ℕ → List ℕ → List ℕ → Option (List ℕ)
grown_to len bytes content =
    if nat_le (length content) len then Some (content ++ replicate (len - length content) 0 ++ bytes) else None

-- what was made, with a file that grew and may still grow, if its bytes fit
abbrev pub made_with : List Member → List ℕ → Option (List ℕ) → Option Made
made_with members path None = None
made_with members path (Some bytes) = Some (record { members = members; growing = Some (record { path = path; bytes = bytes }) })

-- the last member, which must be the file of a path, grown
abbrev pub grow : List Member → Option Growing → List ℕ → ℕ → List ℕ → Option Made
grow members None path len bytes = None
grow members (Some file) path len bytes = if bytes_eq path file.path then made_with members path (grown_to len bytes file.bytes) else None

-- what is made by one more command; a second subvolume is none, and the end isn't played
abbrev pub play : Made → Command → Option Made
play made (Subvol name uuid transid) = None
play made (MkFile path) = Some (record { members = all_made made; growing = Some (record { path = path; bytes = [] }) })
play made (MkDir path) = Some (record { members = all_made made ++ member path Directory ∷ []; growing = None })
play made (Write path offset bytes) = grow made.members made.growing path offset bytes
play made (Truncate path size) = grow made.members made.growing path size []
play made End = None

-- how a replay goes on after a command
abbrev pub Further : Type 0
Further = Made → List ℕ → Option (List Member)

-- how a replay goes on after a command that could be played
abbrev pub behind_play : Further → Option Made → List ℕ → Option (List Member)
behind_play further None rest = None
behind_play further (Some made) rest = further made rest

-- the end of a stream, after which nothing stands
abbrev pub at_end : Made → List ℕ → Option (List Member)
at_end made [] = Some (all_made made)
at_end made (b ∷ rest) = None

-- how a replay goes on by its next command: nothing makes a second subvolume
abbrev pub behind_command : Further → Made → Command → List ℕ → Option (List Member)
behind_command further made (Subvol name uuid transid) rest = None
behind_command further made (MkFile path) rest = behind_play further (play made (MkFile path)) rest
behind_command further made (MkDir path) rest = behind_play further (play made (MkDir path)) rest
behind_command further made (Write path offset bytes) rest = behind_play further (play made (Write path offset bytes)) rest
behind_command further made (Truncate path size) rest = behind_play further (play made (Truncate path size)) rest
behind_command further made End rest = at_end made rest

-- how a replay goes on by its next command, if one could be read
abbrev pub behind_read : Further → Made → Option Read → Option (List Member)
behind_read further made None = None
behind_read further made (Some read) = behind_command further made read.first read.rest

-- what the commands in some bytes make, after what was made before them, if they are fewer than a number
abbrev pub replay_from : ℕ → Made → List ℕ → Option (List Member)
replay_from zero made bytes = None
replay_from (suc n) made bytes = behind_read (replay_from n) made (read_command bytes)

-- nothing was made yet
abbrev pub nothing_made : Made
nothing_made = record { members = []; growing = None }

-- what comes after the command of the subvolume, which is the first
abbrev pub behind_subvol : Command → List ℕ → Option (List Member)
behind_subvol (Subvol name uuid transid) rest = replay_from (length rest + 1) nothing_made rest
behind_subvol (MkFile path) rest = None
behind_subvol (MkDir path) rest = None
behind_subvol (Write path offset bytes) rest = None
behind_subvol (Truncate path size) rest = None
behind_subvol End rest = None

-- a replay from its first command on, if that could be read
abbrev pub from_first : Option Read → Option (List Member)
from_first None = None
from_first (Some read) = behind_subvol read.first read.rest

-- the replay of a stream: its directories and files by their paths, in order
abbrev pub replay : List ℕ → Option (List Member)
replay bytes = if bytes_eq (take 17 bytes) header then from_first (read_command (drop 17 bytes)) else None

-- a command between the first, which is the subvolume's, and the last
abbrev pub IsInner : Command → Type 0
IsInner (Subvol name uuid transid) = ⊥
IsInner (MkFile path) = Unit {0}
IsInner (MkDir path) = Unit {0}
IsInner (Write path offset bytes) = Unit {0}
IsInner (Truncate path size) = Unit {0}
IsInner End = ⊥

-- commands between the first and the last, all of which are sound
abbrev pub AreInner : List Command → Type 0
AreInner [] = Unit {0}
AreInner (c ∷ more) = IsInner c × FieldsFit c × AreInner more

-- the stream of a first command and those behind it
abbrev pub stream : Command → List Command → List ℕ
stream first inner = header ++ (bytes_of first ++ (flat_map bytes_of inner ++ bytes_of End))

-- what some commands make, one after another
abbrev pub play_on : (Made → Option Made) → Option Made → Option Made
play_on on None = None
play_on on (Some made) = on made

-- what some commands make, one after another, after what was made before
abbrev pub play_all : List Command → Made → Option Made
play_all [] made = Some made
play_all (c ∷ more) made = play_on (play_all more) (play made c)

-- the members that were made, if all commands could be played
abbrev pub members_of : Option Made → Option (List Member)
members_of None = None
members_of (Some made) = Some (all_made made)

-- a stream is read back: its replay is what its commands make
abbrev pub ReplayLaw : Type 0
ReplayLaw =
    (name uuid : List ℕ) (transid : ℕ) (inner : List Command)
    → FieldsFit (Subvol name uuid transid)
    → AreInner inner
    → replay (stream (Subvol name uuid transid) inner) ≡ members_of (play_all inner nothing_made)

-- the commands of a stream are those that are read back
pub record CommandsLaw : Type 0 where
  pub subvol : (name uuid : List ℕ) (transid : ℕ) → stream_of.subvol name uuid transid ≡ bytes_of (Subvol name uuid transid)
  pub mkfile : (path : List ℕ) → stream_of.mkfile path ≡ bytes_of (MkFile (below path))
  pub mkdir : (path : List ℕ) → stream_of.mkdir path ≡ bytes_of (MkDir (below path))
  pub write : (path : List ℕ) (offset : ℕ) (bytes : List ℕ) → stream_of.write path offset bytes ≡ bytes_of (Write (below path) offset bytes)
  pub truncate : (path : List ℕ) (size : ℕ) → stream_of.truncate path size ≡ bytes_of (Truncate (below path) size)
  pub end : stream_of.end ≡ bytes_of End
