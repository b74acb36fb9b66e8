-- Sectors of data that break a rule, one behind another.
use Rattle.std.specs.Prelude.{◌≡◌, ℕ, ◌+◌, ◌*◌, ◌≤◌, ◌^◌, List, [], ◌∷◌, map, flat_map}
use Rattle.std.specs.List.{range_with_len, All}
use Rattle.btr_findings.specs.declared.finding.Finding.{Finding}
use Rattle.btr_findings.specs.declared.kind.Kind.TheVariants as kind
use Rattle.btr_findings.specs.declared.sector_rule.SectorRule.{SectorRule}
use Rattle.btr_findings.specs.declared.sector_rule.SectorRule.TheVariants.{Missing, Overlap, Stray, Lost}
use Rattle.btr_findings.specs.declared.sector_run.SectorRun.{SectorRun}
use Rattle.btr_findings.specs.Findings.{found, shown_sum}

-- consecutive sectors, of 4096 bytes each, by their addresses
abbrev pub sectors : ℕ → ℕ → List ℕ
sectors start count = map (λ i. start + i * 4096) (range_with_len 0 count)

-- the finding on the sector at an address
abbrev pub sector_finding : SectorRule → ℕ → Finding
sector_finding (Missing tree inode) addr = found kind.SumMissing (tree ∷ inode ∷ addr ∷ [])
sector_finding Overlap addr = found kind.SumOverlap (addr ∷ [])
sector_finding Stray addr = found kind.SumStray (addr ∷ [])
sector_finding Lost addr = found kind.DataLost (addr ∷ [])

-- those on sectors from an address on
abbrev pub sector_findings : SectorRule → ℕ → ℕ → List Finding
sector_findings rule start count = map (λ addr. sector_finding rule (shown_sum addr)) (sectors start count)

-- those on the sectors of a run
abbrev pub run_findings : SectorRun → List Finding
run_findings run = map (λ i. sector_finding run.rule (i * 4096)) (range_with_len run.first run.count)

-- those on the sectors of some runs
abbrev pub runs_findings : List SectorRun → List Finding
runs_findings runs = flat_map run_findings runs

-- the sectors of a run end at 2^64 at the latest
abbrev pub IsRunWithin : SectorRun → Type 0
IsRunWithin run = run.first + run.count ≤ 2 ^ 52

-- the sectors of all runs end at 2^64 at the latest
abbrev pub AreRunsWithin : List SectorRun → Type 0
AreRunsWithin runs = All IsRunWithin runs

-- a run has the sectors from an address on
pub record IsRunAt (rule : SectorRule) (start count : ℕ) (run : SectorRun) : Type 0 where
  pub within : IsRunWithin run
  pub findings : run_findings run ≡ sector_findings rule start count
  pub long : run.count ≡ count
