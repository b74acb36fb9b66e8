-- Where the references that are counted and those that are stored differ.
use Rattle.std.specs.Prelude.{ℕ, ◌==◌, Bool, cond, List, [], ◌∷◌, ◌++◌, sum_by, Option, Result, OnOk, filter_map}
use Rattle.std.specs.List.{list_any}
use Rattle.std.specs.Map.{keys_of}
use Rattle.btr_base.specs.declared.memory.Memory.{Memory}
use Rattle.btr_findings.specs.declared.finding.Finding.{Finding}
use Rattle.btr_findings.specs.declared.kind.Kind.TheVariants as kind
use Rattle.btr_findings.specs.Findings.{found, unless, shown_sum, in_order, FoundSet, PutsRows}
use Rattle.btr_findings.specs.declared.extent.Extent.{Extent}
use Rattle.btr_refs.specs.declared.ref_key.RefKey.{RefKey}
use Rattle.btr_refs.specs.Counts.{RefCounts, count_in}
use Rattle.btr_refs.specs.declared.counted.Counted.{Counted}
use Rattle.btr_refs.specs.Listed.{entries_of, tallied, AreTallied}

-- a reference as it is printed
abbrev pub key_numbers : RefKey → List ℕ
key_numbers key = key.addr ∷ key.kind ∷ key.root ∷ key.objectid ∷ key.offset ∷ []

-- the finding that a reference is counted otherwise than it is stored, if it is
abbrev pub count_row : RefKey → ℕ → ℕ → Option Finding
count_row key counted stored = unless (counted == stored) (found kind.RefCount (key_numbers key ++ counted ∷ stored ∷ []))

-- a reference is counted as often as it is stored
abbrev pub ref_count : RefCounts → RefCounts → RefKey → Option Finding
ref_count forward stored key = count_row key (count_in forward key) (count_in stored key)

-- how often the extent at an address is referred to
abbrev pub total_at : RefCounts → ℕ → ℕ
total_at stored addr = sum_by (λ entry. cond (entry.0.addr == addr) entry.1 0) stored

-- the finding that an extent states another number of references than are stored
abbrev pub total_row : ℕ → ℕ → ℕ → Finding
total_row addr refs sum = found kind.RefTotal (addr ∷ refs ∷ shown_sum sum ∷ [])

-- an extent states the sum of the references to its address that are stored
abbrev pub ref_total : RefCounts → Extent → Option Finding
ref_total stored extent = unless (extent.refs == total_at stored extent.addr) (total_row extent.addr extent.refs (total_at stored extent.addr))

-- an extent is at an address
abbrev pub has_extent : List Extent → ℕ → Bool
has_extent extents addr = list_any (λ (extent : Extent). extent.addr == addr) extents

-- where a reference is stored, there is an extent
abbrev pub ref_alone : List Extent → RefCounts → RefKey → Option Finding
ref_alone extents stored key = unless (has_extent extents key.addr) (total_row key.addr 0 (total_at stored key.addr))

-- the findings on references that are counted or stored
abbrev pub count_findings : RefCounts → RefCounts → List Finding
count_findings forward stored = filter_map (ref_count forward stored) (keys_of forward ++ keys_of stored)

-- the findings on sums of references that are stored
abbrev pub total_findings : List Extent → RefCounts → List Finding
total_findings extents stored = filter_map (ref_total stored) extents ++ filter_map (ref_alone extents stored) (keys_of stored)

-- the findings on references
abbrev pub differences : RefCounts → List Extent → RefCounts → List Finding
differences forward extents stored = in_order (count_findings forward stored ++ total_findings extents stored)

-- a set has just what it had, and the findings on references in their order, by how often each is counted beside them
abbrev pub PutsListed : List Counted → List ℕ → FoundSet → FoundSet → Result (Unit {0}) Memory → Type 0
PutsListed refs times old new result =
    (others : RefCounts) → AreTallied refs times others
    → OnOk result (PutsRows (λ (one : Counted). ref_count (tallied refs times others) (entries_of refs) one.key) refs old new)

-- a set has just what it had, and the findings of references where there is no extent
abbrev pub PutsAlone : List Counted → List Extent → FoundSet → FoundSet → Type 0
PutsAlone refs extents old new = PutsRows (λ (one : Counted). ref_alone extents (entries_of refs) one.key) refs old new
