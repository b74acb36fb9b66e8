-- What calls put, by what they look up in.
use Rattle.std.specs.Prelude.{ℕ, List, map, filter_map, Result, OnOk}
use Rattle.std.specs.BTreeSet.{BTreeSet}
use Rattle.btr_base.specs.declared.memory.Memory.{Memory}
use Rattle.btr_chunk.specs.declared.chunk.Chunk.{Chunk}
use Rattle.btr_items.specs.declared.sum_run.SumRun.{SumRun}
use Rattle.btr_findings.specs.declared.finding.Finding.{Finding}
use Rattle.btr_findings.specs.Findings.{Adds, FoundSet}
use Rattle.btr_findings.specs.declared.extent.Extent.{Extent}
use Rattle.btr_check_space.specs.AddressRanges.{HoldSame}
use Rattle.btr_check_space.specs.declared.address_ranges.AddressRange.{AddressRange}
use Rattle.btr_check_sums.specs.declared.used_range.UsedRange.{UsedRange}
use Rattle.btr_check_sums.specs.Ranks.{Bounds, Inodes}
use Rattle.btr_check_sums.specs.Sums.{data_extents, extent_range, run_sectors, run_range, range_missing, sum_overlap, sum_stray}

-- by the ranges of addresses of runs, some findings were put
abbrev pub PutsBySums : List AddressRange → (List SumRun → List Finding) → FoundSet → FoundSet → Result (Unit {0}) Memory → Type 0
PutsBySums sums findings old new result = (runs : List SumRun) → HoldSame (map run_range runs) sums → OnOk result (Adds (findings runs) old new)

-- by them and by the inodes whose data has no checksums, those of a range
abbrev pub PutsMissing : ℕ → UsedRange → BTreeSet ℕ → List Chunk → List AddressRange → FoundSet → FoundSet → Result (Unit {0}) Memory → Type 0
PutsMissing tree range loose chunks sums old new result =
    (runs : List SumRun) → (inodes : List ℕ) → Inodes inodes loose → HoldSame (map run_range runs) sums
    → OnOk result (Adds (range_missing chunks runs tree inodes range) old new)

-- by where runs begin and end, those of a run
abbrev pub PutsOverlaps : SumRun → List ℕ → List ℕ → FoundSet → FoundSet → Result (Unit {0}) Memory → Type 0
PutsOverlaps run starts ends old new result =
    (runs : List SumRun) → Bounds runs starts ends → OnOk result (Adds (filter_map (sum_overlap runs) (run_sectors run)) old new)

-- by the ranges of addresses of data extents, those of a run
abbrev pub PutsStrays : SumRun → List AddressRange → FoundSet → FoundSet → Result (Unit {0}) Memory → Type 0
PutsStrays run ranges old new result =
    (extents : List Extent) → HoldSame (map extent_range (data_extents extents)) ranges
    → OnOk result (Adds (filter_map (sum_stray extents) (run_sectors run)) old new)
