-- Sectors that ranges of addresses hold.
use Rattle.std.proofs.Common.{◌≡◌, ℕ, ◌+◌, Bool, ◌&&◌, List, map, leb, ltb, ap, ◌∙◌, arith}
use Rattle.std.proofs.lemmas.Bool.Decides.{nat_tests}
use Rattle.std.specs.List.{list_any}
use Rattle.btr_items.specs.ExtentItem.{is_data}
use Rattle.btr_items.specs.declared.sum_run.SumRun.{SumRun}
use Rattle.btr_findings.specs.declared.extent.Extent.{Extent}
use Rattle.btr_check_space.proofs.Prefixes.{any_map, any_filter}
use Rattle.btr_check_space.specs.AddressRanges.{HoldSame, end_of, is_held}
use Rattle.btr_check_space.specs.declared.address_ranges.AddressRange.{AddressRange}
use Rattle.btr_check_sums.specs.Sums.{covers, run_range, extent_range, data_extents, is_data_at}

-- an end is at the next address or behind it just where it is behind this one
one_more : (sector end : ℕ) → leb (sector + 1) end ≡ ltb sector end
one_more sector end = grind (arith, nat_tests)

-- a run covers a sector
pub covered : (sector : ℕ) (runs : List SumRun) (ranges : List AddressRange) → HoldSame (map run_range runs) ranges
    → list_any (is_held sector (sector + 1)) ranges ≡ list_any (covers sector) runs
covered sector runs ranges same =
    same sector (sector + 1)
    ∙ any_map (is_held sector (sector + 1)) run_range runs
    ∙ ap (λ (test : SumRun → Bool). list_any test runs) (λ i run. leb run.start sector && one_more sector (end_of (run_range run)) i)

-- a data extent holds a sector
pub data_held : (sector : ℕ) (extents : List Extent) (ranges : List AddressRange) → HoldSame (map extent_range (data_extents extents)) ranges
    → list_any (is_held sector (sector + 4096)) ranges ≡ list_any (is_data_at sector) extents
data_held sector extents ranges same =
    same sector (sector + 4096)
    ∙ any_map (is_held sector (sector + 4096)) extent_range (data_extents extents)
    ∙ any_filter (λ (extent : Extent). is_held sector (sector + 4096) (extent_range extent)) (λ (extent : Extent). is_data extent.flags) extents
