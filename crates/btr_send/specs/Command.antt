-- The bytes of a send stream of version 1: a header, and commands with their attributes
-- and checksums. All numbers are little-endian.
use Rattle.std.specs.Prelude.{◌≡◌, ℕ, ◌+◌, ◌-◌, ◌≤◌, List, [], ◌∷◌, ◌++◌, codes, drop, length}
use Rattle.std.specs.Int.{to_le_bytes, w16, w32, w64}
use Rattle.btr_base.specs.Crc.{crc32c, register}

-- the stream begins with its magic, a zero byte and the version
abbrev pub header : List ℕ
header = codes "btrfs-stream" ++ 0 ∷ [] ++ to_le_bytes w32 1

-- an attribute: its type, the length of its data, and the data
unfoldable pub attribute : ℕ → List ℕ → List ℕ
attribute kind bytes = to_le_bytes w16 kind ++ to_le_bytes w16 (length bytes) ++ bytes

-- a command with some checksum: the length of its attributes, its number, the checksum, and the attributes
unfoldable pub command_with : ℕ → ℕ → List ℕ → List ℕ
command_with sum number attributes =
    to_le_bytes w32 (length attributes) ++ to_le_bytes w16 number ++ to_le_bytes w32 sum ++ attributes

-- a command: its checksum is the register from 0 over it with a checksum of 0, not inverted
unfoldable pub command : ℕ → List ℕ → List ℕ
command number attributes = command_with (register 0 (command_with 0 number attributes)) number attributes

-- a number is the CRC-32C of the last 4096 bytes of a command, all behind its head
abbrev pub IsLastCrc : List ℕ → ℕ → Type 0
IsLastCrc command crc = (10 + 4096 ≤ length command) × (crc ≡ crc32c (drop (length command - 4096) command))

-- a number of 8 bytes as an attribute
abbrev pub number_attribute : ℕ → ℕ → List ℕ
number_attribute kind n = attribute kind (to_le_bytes w64 n)

-- a path below the subvolume, as the stream has it: without the `/` in front
abbrev pub below : List ℕ → List ℕ
below path = drop 1 path

-- the subvolume, by its name, its uuid and its transid
abbrev pub subvol : List ℕ → List ℕ → ℕ → List ℕ
subvol name uuid transid = command 1 (attribute 15 name ++ attribute 1 uuid ++ number_attribute 2 transid)

-- the command that makes a file
abbrev pub mkfile : List ℕ → List ℕ
mkfile path = command 3 (attribute 15 (below path))

-- the command that makes a directory
abbrev pub mkdir : List ℕ → List ℕ
mkdir path = command 4 (attribute 15 (below path))

-- bytes of a file from an offset on
abbrev pub write : List ℕ → ℕ → List ℕ → List ℕ
write path offset bytes = command 15 (attribute 15 (below path) ++ number_attribute 18 offset ++ attribute 19 bytes)

-- the size of a file
abbrev pub truncate : List ℕ → ℕ → List ℕ
truncate path size = command 17 (attribute 15 (below path) ++ number_attribute 4 size)

-- the end of the stream
abbrev pub end : List ℕ
end = command 21 []
