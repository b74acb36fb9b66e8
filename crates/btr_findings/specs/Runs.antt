-- Findings as they are kept: single ones, and runs of sectors.
use Rattle.std.specs.Prelude.{◌≡◌, ℕ, ◌+◌, ◌-◌, ◌*◌, ◌<◌, ◌^◌, ◌==◌, ◌&&◌, nat_lt, max, min, Bool, true, false, List, [], ◌∷◌, ◌++◌, length, drop}
use Rattle.std.specs.Prelude.{slice_get, slice_index_or, Option, Some, None, if◌then◌else◌}
use Rattle.std.specs.BTreeSet.{BTreeSet}
use Rattle.std.specs.List.{All}
use Rattle.std.specs.List.Sorted.{IsStrictlySortedBy}
use Rattle.btr_findings.specs.declared.finding.Finding.{Finding}
use Rattle.std.specs.declared.cmp.Ordering.{Ordering}
use Rattle.std.specs.declared.cmp.Ordering.TheVariants.{Less, Equal, Greater}
use Rattle.btr_findings.specs.declared.findings.RunPlace.{RunPlace}
use Rattle.btr_findings.specs.declared.findings.Step.{Step}
use Rattle.btr_findings.specs.declared.sector_rule.SectorRule.{SectorRule}
use Rattle.btr_findings.specs.declared.sector_rule.SectorRule.TheVariants.{Missing, Overlap, Stray, Lost}
use Rattle.btr_findings.specs.declared.sector_run.SectorRun.{SectorRun}
use Rattle.btr_findings.specs.Findings.{FoundSet, finding_cmp}
use Rattle.btr_findings.specs.Sectors.{AreRunsWithin, IsRunWithin, run_findings, runs_findings, sector_finding}

-- the set of single findings and of runs
abbrev pub found_set : BTreeSet Finding → List SectorRun → FoundSet
found_set single runs = single.keys ++ runs_findings runs

-- a run is kept: it has a sector, and its sectors end at 2^64 at the latest
pub record IsSoundRun (run : SectorRun) : Type 0 where
  pub some : 0 < run.count
  pub within : IsRunWithin run

-- all runs have a sector, and end at 2^64 at the latest
abbrev pub AreKept : List SectorRun → Type 0
AreKept runs = All IsSoundRun runs

-- two rules are one
abbrev pub is_rule : SectorRule → SectorRule → Bool
is_rule (Missing tree inode) (Missing tree' inode') = (tree == tree') && (inode == inode')
is_rule (Missing tree inode) Overlap = false
is_rule (Missing tree inode) Stray = false
is_rule (Missing tree inode) Lost = false
is_rule Overlap (Missing tree inode) = false
is_rule Overlap Overlap = true
is_rule Overlap Stray = false
is_rule Overlap Lost = false
is_rule Stray (Missing tree inode) = false
is_rule Stray Overlap = false
is_rule Stray Stray = true
is_rule Stray Lost = false
is_rule Lost (Missing tree inode) = false
is_rule Lost Overlap = false
is_rule Lost Stray = false
is_rule Lost Lost = true

-- how many sectors of a run an earlier one has
abbrev pub met_by : SectorRun → SectorRun → ℕ
met_by earlier run = if is_rule earlier.rule run.rule then min run.count (earlier.first + earlier.count - run.first) else 0

-- a run without these
abbrev pub without : SectorRun → SectorRun → SectorRun
without earlier run = record { rule = run.rule; first = run.first + met_by earlier run; count = run.count - met_by earlier run }

-- a run as far as it or an earlier one of its rule reaches
abbrev pub reaching : SectorRun → SectorRun → SectorRun
reaching earlier run =
    if is_rule earlier.rule run.rule then record { rule = run.rule; first = run.first; count = max run.count (earlier.first + earlier.count - run.first) }
    else run

-- runs that begin in ascending order, each sector once
abbrev pub each_once : SectorRun → List SectorRun → List SectorRun
each_once earlier [] = []
each_once earlier (run ∷ runs) = without earlier run ∷ each_once (reaching earlier run) runs

-- no sector at all
abbrev pub no_run : SectorRun
no_run = record { rule = Missing 0 0; first = 0; count = 0 }

-- what is left of the findings on runs, where some sectors of the first are done
abbrev pub runs_left : List SectorRun → ℕ → List Finding
runs_left [] done = []
runs_left (run ∷ runs) done = drop done (run_findings run) ++ runs_findings runs

-- how findings are listed: single ones in ascending order, and runs whose sectors ascend
pub record AreListed (single lines : List Finding) (runs : List SectorRun) : Type 0 where
  pub single_ascend : IsStrictlySortedBy finding_cmp single
  pub lines_ascend : IsStrictlySortedBy finding_cmp lines
  pub within : AreRunsWithin runs
  pub few : length single + length lines < 2 ^ 64

-- the finding on a run's first sector that isn't done, where so many are, if there is one
abbrev pub finding_of : ℕ → Option SectorRun → Option Finding
finding_of done None = None
finding_of done (Some run) = if nat_lt done run.count then Some (sector_finding run.rule ((run.first + done) * 4096)) else None

-- the finding on the sector at a place among runs, if there is one
abbrev pub sector_at : List SectorRun → RunPlace → Option Finding
sector_at runs place = finding_of place.done (slice_get runs place.run)

-- the same findings are left, and a sector of the run at hand, where there is one
pub record IsSettled (runs : List SectorRun) (old new : RunPlace) : Type 0 where
  pub same : runs_left (drop new.run runs) new.done ≡ runs_left (drop old.run runs) old.done
  pub left : new.run < length runs → new.done < (slice_index_or runs new.run no_run).count

-- what is taken from the front of both: the lesser finding, or the one that stands in both
abbrev pub step_by : Finding → Finding → Ordering → Step
step_by single line Less = record { finding = Some single; single = true; line = false }
step_by single line Equal = record { finding = Some line; single = true; line = true }
step_by single line Greater = record { finding = Some line; single = false; line = true }

-- what is taken from the front of two lists: from the one that isn't empty, or from both by their order
abbrev pub step_of : Option Finding → Option Finding → Step
step_of None None = record { finding = None; single = false; line = false }
step_of None (Some line) = record { finding = Some line; single = false; line = true }
step_of (Some single) None = record { finding = Some single; single = true; line = false }
step_of (Some single) (Some line) = step_by single line (finding_cmp single line)
