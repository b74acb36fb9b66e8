-- Checksums of data.
use Rattle.std.specs.Prelude.{ℕ, ◌+◌, ◌-◌, ◌*◌, ◌/◌, ◌==◌, ◌&&◌, Bool, nat_le, nat_lt, min, List, [], ◌∷◌, ◌++◌, filter, filter_map, flat_map, count_by}
use Rattle.std.specs.Prelude.{Option, Some, None, if◌then◌else◌}
use Rattle.std.specs.List.{list_any}
use Rattle.btr_chunk.specs.Table.{chunk_at}
use Rattle.btr_chunk.specs.declared.chunk.Chunk.{Chunk}
use Rattle.btr_items.specs.ExtentItem.{is_data}
use Rattle.btr_items.specs.declared.sum_run.SumRun.{SumRun}
use Rattle.btr_findings.specs.declared.finding.Finding.{Finding}
use Rattle.btr_findings.specs.declared.kind.Kind.TheVariants as kind
use Rattle.btr_findings.specs.Findings.{found, unless, shown_sum}
use Rattle.btr_findings.specs.Sectors.{sectors}
use Rattle.btr_findings.specs.declared.extent.Extent.{Extent}
use Rattle.btr_check_space.specs.declared.address_ranges.AddressRange.{AddressRange}
use Rattle.btr_check_sums.specs.declared.used_range.UsedRange.{UsedRange}

-- the sectors that a run has checksums of
abbrev pub run_sectors : SumRun → List ℕ
run_sectors run = sectors run.start run.count

-- a sector's address lies in the range of a run
abbrev pub covers : ℕ → SumRun → Bool
covers sector run = nat_le run.start sector && nat_lt sector (run.start + run.count * 4096)

-- the sectors that have a checksum, one for each checksum
abbrev pub summed : List SumRun → List ℕ
summed runs = flat_map run_sectors runs

-- a sector that a file uses has a checksum
abbrev pub sum_missing : List SumRun → ℕ → ℕ → ℕ → Option Finding
sum_missing runs tree inode sector = unless (list_any (covers sector) runs) (found kind.SumMissing (tree ∷ inode ∷ shown_sum sector ∷ []))

-- how many bytes there are from an address up to the end of a chunk
abbrev pub left_in : ℕ → Option Chunk → ℕ
left_in from None = 0
left_in from (Some chunk) = chunk.start + chunk.length - from

-- how many bytes of a range lie in the chunk that holds the extent's address
abbrev pub len_in_chunk : List Chunk → UsedRange → ℕ
len_in_chunk chunks range = min range.len (left_in (range.addr + range.skip) (chunk_at chunks range.addr))

-- the sectors of a range that a file uses, but for those that lie outside that chunk
abbrev pub used_sectors : List Chunk → UsedRange → List ℕ
used_sectors chunks range = sectors (range.addr + range.skip) (len_in_chunk chunks range / 4096)

module _ (chunks : List Chunk) (runs : List SumRun) (tree : ℕ) where
  -- the findings on these
  abbrev pub used_missing : UsedRange → List Finding
  used_missing range = filter_map (sum_missing runs tree range.inode) (used_sectors chunks range)

  -- unless the file has no checksums
  abbrev pub range_missing : List ℕ → UsedRange → List Finding
  range_missing loose range = if list_any (λ inode. inode == range.inode) loose then [] else used_missing range

  -- the findings on a tree of files
  abbrev pub tree_missing : List ℕ → List UsedRange → List Finding
  tree_missing loose used = flat_map (range_missing loose) used

-- a sector has no more than one checksum
abbrev pub sum_overlap : List SumRun → ℕ → Option Finding
sum_overlap runs sector = unless (nat_le (count_by (covers sector) runs) 1) (found kind.SumOverlap (shown_sum sector ∷ []))

-- a sector lies in a data extent
abbrev pub is_data_at : ℕ → Extent → Bool
is_data_at sector extent = is_data extent.flags && (nat_le extent.addr sector && nat_le (sector + 4096) (extent.addr + extent.len))

-- a sector that has a checksum lies in a data extent
abbrev pub sum_stray : List Extent → ℕ → Option Finding
sum_stray extents sector = unless (list_any (is_data_at sector) extents) (found kind.SumStray (shown_sum sector ∷ []))

-- the findings on checksums
abbrev pub sum_findings : List SumRun → List Extent → List Finding
sum_findings runs extents = filter_map (sum_overlap runs) (summed runs) ++ filter_map (sum_stray extents) (summed runs)

-- the range of addresses of a run
abbrev pub run_range : SumRun → AddressRange
run_range run = record { start = run.start; len = run.count * 4096 }

-- the range of addresses of an extent
abbrev pub extent_range : Extent → AddressRange
extent_range extent = record { start = extent.addr; len = extent.len }

-- those of some extents that are data
abbrev pub data_extents : List Extent → List Extent
data_extents extents = filter (λ (extent : Extent). is_data extent.flags) extents
