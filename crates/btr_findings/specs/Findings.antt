-- Findings, and the order that they are printed in.
use Rattle.std.specs.Prelude.{◌≡◌, ℕ, ◌^◌, ◌-◌, min, Bool, false, List, [], ◌∷◌, ◌||◌, ◌++◌, take, replicate, Option, Some, None, Result, IfOk}
use Rattle.std.specs.Prelude.{MatchOption, if◌then◌else◌}
use Rattle.std.specs.BTreeSet.{insert_key}
use Rattle.std.specs.List.{list_any}
use Rattle.std.specs.Ordering.{is_eq, nat_cmp, on, then_cmp}
use Rattle.std.specs.declared.cmp.Ordering.{Ordering}
use Rattle.std.specs.Cmp.Lexicographic.{slice_cmp}
use Rattle.btr_base.specs.declared.memory.Memory.{Memory}
use Rattle.btr_findings.specs.declared.finding.Finding.{Finding}
use Rattle.btr_findings.specs.declared.kind.Kind.{Kind}
use Rattle.btr_findings.specs.declared.kind.Kind.TheVariants.{Lost, Malformed, Unmapped, Crosses, OutsideGroup, Overlap, RefCount, RefTotal}
use Rattle.btr_findings.specs.declared.kind.Kind.TheVariants.{ExtentKind, ExtentLength, ExtentLevel, SumMissing, SumOverlap, SumStray, EntryItem, EntryIndex}
use Rattle.btr_findings.specs.declared.kind.Kind.TheVariants.{EntryRef, RefEntry, EntryMode, LinkCount, DirSize, Orphan, RootRef, ChunkGroup}
use Rattle.btr_findings.specs.declared.kind.Kind.TheVariants.{GroupChunk, ChunkDevice, DeviceChunk, GroupUsed, DeviceUsed, TotalUsed, DataLost}

-- the number of a kind, by which kinds are ordered
abbrev pub number_of : Kind → ℕ
number_of Lost = 1
number_of Malformed = 2
number_of Unmapped = 3
number_of Crosses = 4
number_of OutsideGroup = 5
number_of Overlap = 6
number_of RefCount = 7
number_of RefTotal = 8
number_of ExtentKind = 9
number_of ExtentLength = 10
number_of ExtentLevel = 11
number_of SumMissing = 12
number_of SumOverlap = 13
number_of SumStray = 14
number_of EntryItem = 15
number_of EntryIndex = 16
number_of EntryRef = 17
number_of RefEntry = 18
number_of EntryMode = 19
number_of LinkCount = 20
number_of DirSize = 21
number_of Orphan = 22
number_of RootRef = 23
number_of ChunkGroup = 24
number_of GroupChunk = 25
number_of ChunkDevice = 26
number_of DeviceChunk = 27
number_of GroupUsed = 28
number_of DeviceUsed = 29
number_of TotalUsed = 30
number_of DataLost = 31

-- a finding of a kind with these numbers
abbrev pub found : Kind → List ℕ → Finding
found kind numbers = record { kind = kind; n = take 7 (numbers ++ replicate 7 0) }

-- a finding, unless its rule is kept
abbrev pub unless : Bool → Finding → Option Finding
unless kept finding = if kept then None else Some finding

-- a sum as it is printed
abbrev pub shown_sum : ℕ → ℕ
shown_sum sum = min sum (2 ^ 64 - 1)

-- by kind, and then by the numbers from the first to the last
abbrev pub finding_cmp : Finding → Finding → Ordering
finding_cmp = then_cmp (on (λ finding. number_of finding.kind) nat_cmp) (on (λ finding. finding.n) (slice_cmp nat_cmp))

-- two findings are the same
abbrev pub is_same : Finding → Finding → Bool
is_same a b = is_eq (finding_cmp a b)

-- the set of some findings, in ascending order
abbrev pub in_order : List Finding → List Finding
in_order [] = []
in_order (finding ∷ findings) = insert_key finding_cmp (in_order findings) finding

-- whether a finding is one of some
abbrev pub is_one_of : List Finding → Finding → Bool
is_one_of findings one = list_any (is_same one) findings

-- what was found: findings in any order, of which it only counts whether they are there
abbrev pub FoundSet : Type 0
FoundSet = List Finding

-- a finding is among what was found
abbrev pub has : FoundSet → Finding → Bool
has set one = is_one_of set one

-- a set has just these findings
abbrev pub HasJust : List Finding → FoundSet → Type 0
HasJust findings set = (one : Finding) → has set one ≡ is_one_of findings one

-- a list is the set of findings, in ascending order
abbrev pub ListsSet : FoundSet → Result (List Finding) Memory → Type 0
ListsSet set result = (findings : List Finding) → HasJust findings set → IfOk result (λ list. list ≡ in_order findings)

-- the first of some findings is taken from them, where there is one
abbrev pub TakesFirst : List Finding → List Finding → Option Finding → Type 0
TakesFirst old new first = MatchOption first ((old ≡ []) × (new ≡ [])) (λ finding. old ≡ finding ∷ new)

-- which findings are in a list says what their set is
abbrev pub SetLaw : Type 0
SetLaw = (xs ys : List Finding) → ((one : Finding) → is_one_of xs one ≡ is_one_of ys one) → in_order xs ≡ in_order ys

-- a set has just what it had, and some findings
abbrev pub Adds : List Finding → FoundSet → FoundSet → Type 0
Adds findings old new = (one : Finding) → has new one ≡ (is_one_of findings one || has old one)

-- whether a rule's finding on something is this one
abbrev pub is_shown : Finding → Option Finding → Bool
is_shown one None = false
is_shown one (Some finding) = is_same one finding

-- a rule's finding on a thing is this one
abbrev pub is_row : {X : Type 0} → (X → Option Finding) → Finding → X → Bool
is_row rule one x = is_shown one (rule x)

-- a set has just what it had, and the finding of a rule on something
abbrev pub PutsRow : {X : Type 0} → (X → Option Finding) → X → FoundSet → FoundSet → Type 0
PutsRow rule x old new = (one : Finding) → has new one ≡ (is_row rule one x || has old one)

-- a set has just what it had, and the findings of a rule on some things
abbrev pub PutsRows : {X : Type 0} → (X → Option Finding) → List X → FoundSet → FoundSet → Type 0
PutsRows rule xs old new = (one : Finding) → has new one ≡ (list_any (is_row rule one) xs || has old one)
