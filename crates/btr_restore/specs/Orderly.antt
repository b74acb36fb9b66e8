-- The steps of restore are calls that a sink may take, and its counts are those of the steps.
use Rattle.std.specs.Prelude.{◌≡◌, ℕ, ◌<◌, Bool, true, false, ◌&&◌, ◌==◌, if◌then◌else◌, List, [], ◌∷◌, fold, codes, Option, Result, Ok, Err}
use Rattle.btr_files.specs.declared.counts.Counts.{Counts}
use Rattle.btr_files.specs.declared.plan.RestorePlan.{RestorePlan}
use Rattle.btr_prog.specs.Goes.{GoesTo}
use Rattle.btr_prog.specs.Prog.{BlockMap, Run, steps_of}
use Rattle.btr_rack.specs.Sink.{Sink, NotStarted, BetweenFiles, InFile}
use Rattle.btr_read.specs.Fate.{Fault}
use Rattle.btr_read.specs.declared.want.Want.{Want}
use Rattle.btr_super.specs.declared.superblock.Super.{Super}
use Rattle.btr_volume.specs.declared.fault.OpenFault.{OpenFault}
use Rattle.btr_volume.specs.declared.root.TreeRoot.{TreeRoot}
use Rattle.btr_volume.specs.Maps.{VolumeWant}
use Rattle.btr_volume.specs.Start.{Start as VolumeStart}
use Rattle.btr_restore.specs.Journey.{Treated, rules_of, treated, journey}
use Rattle.btr_listing.specs.declared.cause.Cause.{Cause}
use Rattle.btr_listing.specs.declared.rules.Rules.{Rules}
use Rattle.btr_listing.specs.Causes.{cause_text}
use Rattle.btr_listing.specs.Deciding.{MayLeaveOut, Met}
use Rattle.btr_rack.specs.Name.{is_bad}
use Rattle.btr_listing.specs.Lines.{skip_line, no_counts, with_dir, with_file, with_skip}
use Rattle.btr_restore.specs.Restoring.{sink_after}
use Rattle.btr_listing.specs.Step.{Step, Start, Dir, Up, File, Bytes, Zeros, Done, Line}

-- a sink may take the call of a step: it stands where the call asks it to; no bad name comes to it, and
-- it is never more than 512 directories deep
abbrev pub SinkTakes : Sink → Step → Type 0
SinkTakes s (Start name) = s.stage ≡ NotStarted
SinkTakes s (Dir name) = (s.stage ≡ BetweenFiles) × (is_bad name ≡ false) × (s.depth < 512)
SinkTakes s Up = (s.stage ≡ BetweenFiles) × (0 < s.depth)
SinkTakes s (File name) = (s.stage ≡ BetweenFiles) × (is_bad name ≡ false)
SinkTakes s (Bytes bytes) = s.stage ≡ InFile
SinkTakes s (Zeros count) = s.stage ≡ InFile
SinkTakes s Done = s.stage ≡ InFile
SinkTakes s (Line text) = Unit {0}

-- it may take some steps one after another
abbrev pub TakesAll : Sink → List Step → Type 0
TakesAll s [] = Unit {0}
TakesAll s (step ∷ steps) = SinkTakes s step × TakesAll (sink_after s step) steps

-- a text begins with some bytes
abbrev pub begins_with : List ℕ → List ℕ → Bool
begins_with [] text = true
begins_with (b ∷ front) [] = false
begins_with (b ∷ front) (c ∷ text) = (b == c) && begins_with front text

-- the counts after a step: directories that were entered, files that were
-- finished, and entries that a line says are skipped
abbrev pub counted : Counts → Step → Counts
counted counts (Start name) = counts
counted counts (Dir name) = with_dir counts
counted counts Up = counts
counted counts (File name) = counts
counted counts (Bytes bytes) = counts
counted counts (Zeros count) = counts
counted counts Done = with_file counts
counted counts (Line text) = if begins_with (codes "skip ") text then with_skip counts else counts

-- P holds of the counts where a run comes to its end
abbrev pub IfCounts : Result (Result Counts OpenFault) Fault → (Counts → Type 0) → Type 0
IfCounts (Ok (Ok counts)) P = P counts
IfCounts (Ok (Err refusal)) P = Unit {0}
IfCounts (Err fault) P = Unit {0}

-- A run is in order: a sink that isn't started may take its steps, and at the end it stands in the destination again,
-- between two files. The counts are those of the steps. Of a dry run, which calls no sink, nothing is said.
pub record IsOrderly (sink : Sink) (run : Run VolumeWant Fault Step (Result Counts OpenFault)) : Type 0 where
  pub takes : TakesAll sink (steps_of run.marks)
  pub between : IfCounts run.ending (λ counts. (fold sink_after sink (steps_of run.marks)).stage ≡ BetweenFiles)
  pub depth : IfCounts run.ending (λ counts. (fold sink_after sink (steps_of run.marks)).depth ≡ 0)
  pub counts : IfCounts run.ending (λ counts. counts ≡ fold counted no_counts (steps_of run.marks))

-- each run of a restore that isn't dry is in order
abbrev pub OrderlyLaw : Type 0
OrderlyLaw =
    (plan : RestorePlan) (dest : List ℕ) (start : VolumeStart) (maps : ℕ → BlockMap VolumeWant Fault) (sink : Sink)
    (run : Run VolumeWant Fault Step (Result Counts OpenFault))
    → plan.dry ≡ false
    → sink.stage ≡ NotStarted
    → GoesTo maps (journey plan dest start) run
    → IsOrderly sink run

-- the step that an entry is told by: its file or its directory, or the line that
-- it is skipped, for a cause that it may have
abbrev pub IsOfEntry : Rules → Met → Step → Type 0
IsOfEntry rules met (Dir other) = other ≡ met.entry.name
IsOfEntry rules met (File other) = other ≡ met.entry.name
IsOfEntry rules met (Line text) =
    (cause : Cause) × MayLeaveOut rules met cause × (text ≡ skip_line (cause_text cause) met.path)
IsOfEntry rules met (Start other) = ⊥
IsOfEntry rules met Up = ⊥
IsOfEntry rules met (Bytes bytes) = ⊥
IsOfEntry rules met (Zeros count) = ⊥
IsOfEntry rules met Done = ⊥

-- an entry that was treated, or entered, has a row or the line that it is skipped, and that comes first
pub record HasRowOrLine (rules : Rules) (met : Met) (done : List Step) : Type 0 where
  pub step : Step
  pub more : List Step
  pub steps : done ≡ step ∷ more
  pub of_entry : IsOfEntry rules met step

-- a restore that isn't dry tells each entry that it treats or enters
abbrev pub ToldLaw : Type 0
ToldLaw =
    (plan : RestorePlan) (s : Super) (sums : Option TreeRoot) (met : Met) (counts : Counts) (came : Treated)
    (maps : ℕ → BlockMap Want Fault) (run : Run Want Fault Step Treated)
    → plan.dry ≡ false
    → GoesTo maps (treated plan s sums met counts) run
    → run.ending ≡ Ok came
    → HasRowOrLine (rules_of plan) met (steps_of run.marks)
