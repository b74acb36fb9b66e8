-- How findings are printed.
use Rattle.std.specs.Prelude.{ℕ, ◌==◌, List, [], ◌∷◌, ◌++◌, length, take, flat_map, codes, if◌then◌else◌}
use Rattle.std.specs.Fmt.{decimal}
use Rattle.btr_findings.specs.declared.finding.Finding.{Finding}
use Rattle.btr_findings.specs.declared.kind.Kind.{Kind}
use Rattle.btr_findings.specs.declared.kind.Kind.TheVariants.{Lost, Malformed, Unmapped, Crosses, OutsideGroup, Overlap, RefCount, RefTotal}
use Rattle.btr_findings.specs.declared.kind.Kind.TheVariants.{ExtentKind, ExtentLength, ExtentLevel, SumMissing, SumOverlap, SumStray, EntryItem, EntryIndex}
use Rattle.btr_findings.specs.declared.kind.Kind.TheVariants.{EntryRef, RefEntry, EntryMode, LinkCount, DirSize, Orphan, RootRef, ChunkGroup}
use Rattle.btr_findings.specs.declared.kind.Kind.TheVariants.{GroupChunk, ChunkDevice, DeviceChunk, GroupUsed, DeviceUsed, TotalUsed, DataLost}

-- the word of a kind, and how many of its numbers are printed
pub record Printed : Type 0 where
  pub word : List ℕ
  pub count : ℕ

-- how a kind is printed, made of its word and its count
abbrev pub printed : List ℕ → ℕ → Printed
printed word count = record { word = word; count = count }

-- the word of each kind, and how many of its numbers are printed
abbrev pub printed_of : Kind → Printed
printed_of Lost = printed (codes "lost") 1
printed_of Malformed = printed (codes "malformed") 1
printed_of Unmapped = printed (codes "unmapped") 1
printed_of Crosses = printed (codes "crosses") 1
printed_of OutsideGroup = printed (codes "outside-group") 2
printed_of Overlap = printed (codes "overlap") 2
printed_of RefCount = printed (codes "ref-count") 7
printed_of RefTotal = printed (codes "ref-total") 3
printed_of ExtentKind = printed (codes "extent-kind") 2
printed_of ExtentLength = printed (codes "extent-length") 3
printed_of ExtentLevel = printed (codes "extent-level") 3
printed_of SumMissing = printed (codes "sum-missing") 3
printed_of SumOverlap = printed (codes "sum-overlap") 1
printed_of SumStray = printed (codes "sum-stray") 1
printed_of EntryItem = printed (codes "entry-item") 3
printed_of EntryIndex = printed (codes "entry-index") 3
printed_of EntryRef = printed (codes "entry-ref") 3
printed_of RefEntry = printed (codes "ref-entry") 4
printed_of EntryMode = printed (codes "entry-mode") 3
printed_of LinkCount = printed (codes "link-count") 4
printed_of DirSize = printed (codes "dir-size") 4
printed_of Orphan = printed (codes "orphan") 2
printed_of RootRef = printed (codes "root-ref") 2
printed_of ChunkGroup = printed (codes "chunk-group") 1
printed_of GroupChunk = printed (codes "group-chunk") 1
printed_of ChunkDevice = printed (codes "chunk-device") 3
printed_of DeviceChunk = printed (codes "device-chunk") 2
printed_of GroupUsed = printed (codes "group-used") 3
printed_of DeviceUsed = printed (codes "device-used") 3
printed_of TotalUsed = printed (codes "total-used") 2
printed_of DataLost = printed (codes "data-lost") 1

-- a number after a space
abbrev pub number_text : ℕ → List ℕ
number_text n = 32 ∷ decimal n

-- numbers, each after a space
abbrev pub numbers_text : List ℕ → List ℕ
numbers_text numbers = flat_map number_text numbers

-- a line: the word, and the first numbers
abbrev pub line_of : Finding → List ℕ
line_of finding = (printed_of finding.kind).word ++ numbers_text (take (printed_of finding.kind).count finding.n) ++ 10 ∷ []

-- the lines of some findings
abbrev pub lines_of : List Finding → List ℕ
lines_of findings = flat_map line_of findings

-- the last line
abbrev pub last_line : ℕ → List ℕ
last_line count = if count == 0 then codes "no findings\n" else codes "findings " ++ decimal count ++ 10 ∷ []

-- the lines of all findings, and their number
abbrev pub findings_text : List Finding → List ℕ
findings_text findings = lines_of findings ++ last_line (length findings)
