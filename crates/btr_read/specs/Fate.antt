-- What becomes of a want, over the bytes of the images.
use Rattle.std.specs.Prelude.{◌≡◌, ℕ, ◌%◌, List, [], slice_get, Bool, true, false, nat_lt, length, if◌then◌else◌, Option, Some, None, Result, Ok, Err, ⊤}
use Rattle.std.specs.List.{filter, Contains}
use Rattle.btr_chunk.specs.declared.chunk.Chunk.{Chunk}
use Rattle.btr_chunk.specs.declared.position.Elements.{Elements}
use Rattle.btr_chunk.specs.declared.mapping.MapFault.{MapFault}
use Rattle.btr_chunk.specs.declared.mapping.MapFault.TheVariants as map_fault
use Rattle.btr_chunk.specs.Mapping.{elements_of}
use Rattle.btr_chunk.specs.Table.{chunk_at}
use Rattle.btr_read.specs.declared.want.Want.{Want}
use Rattle.btr_read.specs.declared.want.Want.TheVariants.{Tree, Block, Sector, Plain}
use Rattle.btr_read.specs.Want.{addr_of, len_of, passes}
use Rattle.btr_read.specs.Layout.{Layout}
use Rattle.btr_read.specs.Candidates.{Target, readings}

-- Why blocks come to no answer: no chunk holds the address, the block crosses the end of its chunk or of an element, or
-- no candidate passes; and, for those who read what stands in blocks, a block at an address breaks its form, or there
-- is no tree of an id.
pub data Fault : Type 0 where
  Unmapped : ℕ → Fault
  Crosses : ℕ → Fault
  Lost : ℕ → Fault
  Malformed : ℕ → Fault
  NoTree : ℕ → Fault

-- what is sought for a want at a position of its chunk
abbrev pub target : Layout → Want → Chunk → Elements → Target
target layout want chunk at = record { want = want; setting = layout.setting; chunk = chunk; at = at; devices = layout.devices }

-- what is sought at a position, or why there is none
abbrev pub sought_at : Layout → Want → Chunk → Result Elements MapFault → Result Target Fault
sought_at layout want chunk (Err map_fault.Unmapped) = Err (Unmapped (addr_of want))
sought_at layout want chunk (Err map_fault.Crosses) = Err (Crosses (addr_of want))
sought_at layout want chunk (Ok at) = Ok (target layout want chunk at)

-- what is sought in the chunk that holds the address, if one does
abbrev pub sought_in : Layout → Want → Option Chunk → Result Target Fault
sought_in layout want None = Err (Unmapped (addr_of want))
sought_in layout want (Some chunk) = sought_at layout want chunk (elements_of chunk (addr_of want) (len_of layout.setting want))

-- what is sought for a want, in the chunk that holds its address, or why it has no position
abbrev pub sought : Layout → Want → Result Target Fault
sought layout want = sought_in layout want (chunk_at layout.chunks (addr_of want))

-- the candidates that stand and pass, in their order
abbrev pub passing : List (List ℕ) → Target → List (List ℕ)
passing images t = filter (passes t.setting t.want) (readings images t)

-- the same for what is sought: none where it has no position
abbrev pub passing_for : List (List ℕ) → Result Target Fault → List (List ℕ)
passing_for images (Err fault) = []
passing_for images (Ok t) = passing images t

-- the bytes, or nothing where all is lost
abbrev pub or_lost : ℕ → Option (List ℕ) → Result (List ℕ) Fault
or_lost addr None = Err (Lost addr)
or_lost addr (Some bytes) = Ok bytes

-- the bytes of the first candidate that stands and passes of what is sought, or why there are none
abbrev pub fate_of : List (List ℕ) → ℕ → Result Target Fault → Result (List ℕ) Fault
fate_of images addr (Err fault) = Err fault
fate_of images addr (Ok t) = or_lost addr (slice_get (passing images t) 0)

-- what becomes of a want: the bytes of the first candidate that stands and passes, or why there are none
abbrev pub fate : List (List ℕ) → Layout → Want → Result (List ℕ) Fault
fate images layout want = fate_of images (addr_of want) (sought layout want)

-- the candidates that stand and pass are equal
abbrev pub Agree : List (List ℕ) → Layout → Want → Type 0
Agree images layout want =
    (a b : List ℕ) → Contains (passing_for images (sought layout want)) a → Contains (passing_for images (sought layout want)) b → a ≡ b

-- a want that makes no test
abbrev pub is_plain : Want → Bool
is_plain (Tree addr generation level) = false
is_plain (Block addr) = false
is_plain (Sector addr sum) = false
is_plain (Plain addr) = true

-- the candidate of a number, and the first where there aren't so many
abbrev pub chosen : ℕ → List (List ℕ) → Option (List ℕ)
chosen n xs = slice_get xs (if nat_lt n (length xs) then n else 0)

-- of what is sought the candidate of a number where there is no test, else the first that stands and passes
abbrev pub choice_of : List (List ℕ) → ℕ → Want → Result Target Fault → Result (List ℕ) Fault
choice_of images n want (Err fault) = Err fault
choice_of images n want (Ok t) =
    or_lost (addr_of want) (if is_plain want then chosen n (passing images t) else slice_get (passing images t) 0)

-- what may become of a want, by choice: any candidate that stands where there is no test, else its fate
abbrev pub choices : List (List ℕ) → ℕ → Layout → Want → Result (List ℕ) Fault
choices images n layout want = choice_of images n want (sought layout want)

-- a want of a tree block of a known generation and level, or of a sector with a checksum, at a sector's address
abbrev pub IsTested : Want → Type 0
IsTested (Tree addr generation level) = ⊤
IsTested (Block addr) = ⊥
IsTested (Sector addr sum) = addr % 4096 ≡ 0
IsTested (Plain addr) = ⊥

-- of each of those wants the candidates that stand and pass are equal
abbrev pub Agreed : List (List ℕ) → Layout → Type 0
Agreed images layout = (want : Want) → IsTested want → Agree images layout want
