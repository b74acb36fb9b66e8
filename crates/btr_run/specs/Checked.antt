-- The command that checks a filesystem.
use Rattle.std.specs.Prelude.{◌≡◌, ℕ, ◌==◌, if◌then◌else◌, Bool, List, length, Option, Some, None, Result, Ok, Err}
use Rattle.btr_check.specs.Before.{refusal}
use Rattle.btr_check.specs.Filesystem as checked
use Rattle.btr_check.specs.Findings.{findings}
use Rattle.btr_check.specs.Text.{findings_text}
use Rattle.btr_read.specs.Fate.{fate}
use Rattle.btr_findings.specs.declared.finding.Finding.{Finding}
use Rattle.btr_volume.specs.Start.{Images}
use Rattle.btr_volume.specs.declared.stop.Stop.{Stop}
use Rattle.btr_run.specs.Faults.{stop_answer}
use Rattle.btr_run.specs.Filesystem.{Filesystem, filesystem_of}
use Rattle.btr_run.specs.Outcomes.{Outcome, Shown, refused, showing}
use Rattle.btr_run.specs.declared.answer.Answer.{Answer}
use Rattle.btr_run.specs.declared.answer.Answer.TheVariants.{Done, Found}

-- the answer where so many findings are listed
abbrev pub found : ℕ → Answer
found count = if count == 0 then Done 0 else Found count

-- what listing findings comes to: their lines, how many they are, and the answer
abbrev pub listing : List Finding → Shown
listing all = record { answer = found (length all); text = findings_text all }

-- the filesystem of some images as it is checked
abbrev pub filesystem_by : Images → Filesystem → checked.Filesystem
filesystem_by images fs = record { sup = fs.sup; chunks = fs.layout.chunks; blocks = fate images fs.layout }

-- why a filesystem isn't checked, or what there is to show
abbrev pub unless_refused : Option Stop → Shown → Outcome
unless_refused (Some stop) shown = refused (stop_answer stop)
unless_refused None shown = showing shown

-- what checking the filesystem of some images comes to, or its answer where there is none
abbrev pub check_in : Bool → Images → Result Filesystem Answer → Outcome
check_in read_data images (Ok fs) = unless_refused (refusal (filesystem_by images fs)) (listing (findings read_data (filesystem_by images fs)))
check_in read_data images (Err answer) = refused answer

-- what checking the filesystem of some images comes to, with its data or without
abbrev pub check_outcome : Bool → Images → Outcome
check_outcome read_data images = check_in read_data images (filesystem_of images)

-- what checking may come to, whatever the blocks are, beside refusals before anything else: a list of findings
pub record IsCheckOutcome (outcome : Outcome) : Type 0 where
  pub all : List Finding
  pub is : outcome ≡ showing (listing all)
