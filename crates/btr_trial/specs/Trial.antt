-- What a trial of a volume comes to: the volume is checked, one image is spoiled, all files are restored, the
-- filesystem is scrubbed, another image is spoiled, and all files are restored again.
use Rattle.std.specs.Prelude.{ℕ, ◌+◌, ◌%◌, Bool, true, false, List, drop, codes, length, Option, Some, None, Result, Ok, Err}
use Rattle.std.specs.Option.{option_and_then, option_map_or}
use Rattle.btr_check.specs.Before.{refusal}
use Rattle.btr_check.specs.Filesystem as checked
use Rattle.btr_check.specs.Findings.{findings}
use Rattle.btr_files.specs.declared.counts.Counts.{Counts}
use Rattle.btr_files.specs.declared.plan.RestorePlan.{RestorePlan}
use Rattle.btr_listing.specs.Step.{Step}
use Rattle.btr_prog.specs.Prog.{Run, exec, steps_of}
use Rattle.btr_read.specs.Fate.{Fault, fate}
use Rattle.btr_read.specs.declared.want.Want.{Want}
use Rattle.btr_findings.specs.declared.finding.Finding.{Finding}
use Rattle.btr_restore.specs.Journey.{listing}
use Rattle.btr_restore.specs.Outcome.{tree_after}
use Rattle.btr_scrub.specs.Filesystem.{Filesystem}
use Rattle.btr_scrub.specs.Repair.{effect}
use Rattle.btr_scrub.specs.declared.tally.Tally.{Tally}
use Rattle.btr_volume.specs.Start.{Images}
use Rattle.btr_volume.specs.declared.stop.Stop.{Stop}
use Rattle.btr_trial.specs.Opened.{filesystem_of}
use Rattle.btr_trial.specs.Stated.{directories, same_rows}
use Rattle.btr_trial.specs.Sure.{spoiled_at}
use Rattle.btr_trial.specs.declared.tried.Tried.{Tried}

-- a filesystem of some images as it is checked
abbrev pub as_checked : Images → Filesystem → checked.Filesystem
as_checked images fs = record { sup = fs.sup; chunks = fs.layout.chunks; blocks = fate images fs.layout }

-- how many findings there are, unless the check is refused
abbrev pub counted : Option Stop → List Finding → Option ℕ
counted (Some stop) all = None
counted None all = Some (length all)

-- how many findings a check of the filesystem of some images has, unless it is refused
abbrev pub findings_in : Images → Filesystem → Option ℕ
findings_in images fs = counted (refusal (as_checked images fs)) (findings false (as_checked images fs))

-- how many findings a check of some images has; none where it is refused
abbrev pub findings_of : Images → Option ℕ
findings_of images = option_and_then (findings_in images) (filesystem_of images)

-- all files of the top subvolume, and nothing but the counts told
abbrev pub whole : RestorePlan
whole = record { root = 5; snapshots = false; verbose = false; dry = false }

-- whether the rows behind the start are those of so many directories, where a restore came to its end
abbrev pub ended_same : ℕ → Run Want Fault Step Counts → Result Counts Fault → Option Bool
ended_same number run (Ok counts) = Some (same_rows (drop 1 (tree_after (steps_of run.marks)).rows) (directories 0 number))
ended_same number run (Err fault) = None

-- whether the rows of a restore's run are those of so many directories, where it came to its end
abbrev pub same_run : ℕ → Run Want Fault Step Counts → Option Bool
same_run number run = ended_same number run run.ending

-- a restore of all files of the filesystem of some images, as a run
abbrev pub restored_in : Images → Filesystem → Run Want Fault Step Counts
restored_in images fs = exec (fate images fs.layout) (listing whole (codes "out") fs.sup)

-- whether a restore from some images lists exactly so many made directories; none where it is refused
abbrev pub restored_same : ℕ → Images → Option Bool
restored_same number images = option_and_then (λ fs. same_run number (restored_in images fs)) (filesystem_of images)

-- how many blocks a scrub leaves lost, if it answers with a tally
abbrev pub lost_by : Result Tally Stop → Option ℕ
lost_by (Ok tally) = Some tally.lost
lost_by (Err stop) = None

-- how many blocks a scrub of some images that writes leaves lost; none where it is refused
abbrev pub lost_of : Images → Option ℕ
lost_of images = option_and_then (λ fs. lost_by (effect true images fs).answer) (filesystem_of images)

-- the images that such a scrub leaves
abbrev pub scrubbed : Images → Images
scrubbed images = option_map_or (λ fs. (effect true images fs).images) (filesystem_of images) images

-- the images of a volume with one of three spoiled
abbrev pub once_spoiled : Images → ℕ → Images
once_spoiled images number = spoiled_at images (number % 3)

-- the same images after a scrub
abbrev pub mended : Images → ℕ → Images
mended images number = scrubbed (once_spoiled images number)

-- the images after that scrub with the next one of three spoiled
abbrev pub twice_spoiled : Images → ℕ → Images
twice_spoiled images number = spoiled_at (mended images number) ((number + 1) % 3)

-- what a trial of a volume of so many directories comes to
abbrev pub trial_of : Images → ℕ → Tried
trial_of images number = record {
  findings = findings_of images;
  first = restored_same number (once_spoiled images number);
  lost = lost_of (once_spoiled images number);
  second = restored_same number (twice_spoiled images number);
}
