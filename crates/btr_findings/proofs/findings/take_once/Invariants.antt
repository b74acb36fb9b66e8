use Rattle.std.proofs.Common.{◌≡◌, ℕ, ◌≤◌, ◌++◌, length, take, drop, get_or}
use Rattle.btr_findings.specs.declared.sector_run.SectorRun.{SectorRun}
use Rattle.btr_findings.specs.Runs.{each_once, no_run}
use Rattle.btr_findings.specs.Sectors.{IsRunWithin}
use Rattle.btr_findings.proofs.findings.take_once.Given as goal

-- those behind are as they were, and with them each sector is left once
abbrev pub invariant-loop-i : goal.invariant-loop-i
invariant-loop-i l = record {
  within : IsRunWithin l.last;
  long : length l.runs ≡ length l.fn.runs;
  rest : (k : ℕ) (d : SectorRun) → l.i ≤ k → get_or l.runs k d ≡ get_or l.fn.runs k d;
  all : take l.i l.runs ++ each_once l.last (drop l.i l.runs) ≡ each_once no_run l.fn.runs;
}
