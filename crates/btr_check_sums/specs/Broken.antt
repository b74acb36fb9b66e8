-- Sectors that break a rule.
use Rattle.std.specs.Prelude.{◌≡◌, ℕ, ◌-◌, ◌^◌, ◌<◌, ◌≤◌, nat_lt, Bool, List, [], length, slice_index, Option, if◌then◌else◌}
use Rattle.btr_findings.specs.declared.finding.Finding.{Finding}
use Rattle.btr_findings.specs.declared.sector_rule.SectorRule.{SectorRule}
use Rattle.btr_findings.specs.Findings.{shown_sum, unless}
use Rattle.btr_findings.specs.Sectors.{sector_finding, sector_findings}
use Rattle.btr_check_sums.specs.Ranks.{rank}
use Rattle.btr_check_sums.specs.declared.overlaps.RankReach.{RankReach}

-- the finding on a sector, unless it passes a test
abbrev pub broken : SectorRule → (ℕ → Bool) → ℕ → Option Finding
broken rule keeps sector = unless (keeps sector) (sector_finding rule (shown_sum sector))

-- those on sectors that all pass, or none of which does
abbrev pub broken_if : Bool → SectorRule → ℕ → ℕ → List Finding
broken_if kept rule start count = if kept then [] else sector_findings rule start count

-- the number at a place, or the greatest that a call knows
abbrev pub number_or_last : List ℕ → ℕ → ℕ
number_or_last numbers place = if nat_lt place (length numbers) then slice_index numbers place else 2 ^ 128 - 1

-- how many numbers are at most one stays the same up to before another
pub record RankReaches (numbers : List ℕ) (at : ℕ) (reach : RankReach) : Type 0 where
  pub some : at < reach.until
  pub same : (other : ℕ) → at ≤ other → other < reach.until → rank numbers other ≡ reach.rank
