-- What a command comes to whose run does steps in the sink and in the output.
use Rattle.std.specs.Prelude.{◌≡◌, ◌⊎◌, ℕ, List, ◌++◌, map, Option, Result, Ok, Err}
use Rattle.btr_listing.specs.Step.{Step, Line}
use Rattle.btr_prog.specs.Answers.{Names}
use Rattle.btr_prog.specs.Prog.{Mark, Wants, Does, Run, steps_of, wants_of}
use Rattle.btr_rack.specs.Out.{CallAccount}
use Rattle.btr_rack.specs.Sink.{Sink}
use Rattle.btr_read.specs.Fate.{Fault}
use Rattle.btr_read.specs.Want.{addr_of}
use Rattle.btr_read.specs.declared.want.Want.{Want}
use Rattle.btr_restore.specs.Running.{Outside, outside}
use Rattle.btr_volume.specs.declared.stop.Stop.{Stop}
use Rattle.btr_walk.specs.Reading.{UnreadBlock}
use Rattle.btr_run.specs.Faults.{stop_answer}
use Rattle.btr_run.specs.Filesystem.{fault_answer}
use Rattle.btr_run.specs.Outcomes.{Outcome}
use Rattle.btr_run.specs.declared.answer.Answer.{Answer}
use Rattle.btr_run.specs.declared.answer.Answer.TheVariants.{Done, Unread}

-- the answer where all was listed, which counts what was left out, or where a block can't be had
abbrev pub listed_answer : {A : Type 0} → (A → ℕ) → Result A Fault → Answer
listed_answer left_out (Ok a) = Done (left_out a)
listed_answer left_out (Err fault) = fault_answer fault

-- what listing comes to by its run: the steps up to a block that can't be had, and its fault
abbrev pub listed_by : {A : Type 0} → (A → ℕ) → Run Want Fault Step A → Outcome
listed_by left_out r = record { answer = listed_answer left_out r.ending; steps = steps_of r.marks }

-- the answer of a call that lists
abbrev pub stopped_answer : {A : Type 0} → (A → ℕ) → Result A Stop → Answer
stopped_answer left_out (Ok a) = Done (left_out a)
stopped_answer left_out (Err stop) = stop_answer stop

-- a listing goes up to a place after a want of a block that could not be read, which the answer names
pub record ListsUpTo {A : Type 0} (r : Run Want Fault Step A) (outcome : Outcome) : Type 0 where
  pub unread : UnreadBlock
  pub before : List (Mark Want Step)
  pub behind : List (Mark Want Step)
  pub place : r.marks ≡ before ++ behind
  pub wanted : Names (λ u want. u.addr ≡ addr_of want) unread (wants_of before)
  pub is : outcome ≡ record { answer = Unread unread.addr unread.slot; steps = steps_of before }

-- what listing comes to by a run, one of several, as by several candidates of a sector that is tested by nothing: the whole of it,
-- or it up to a block that could not be read
pub record ListsTo {A : Type 0} (left_out : A → ℕ) (IsRun : Run Want Fault Step A → Type 0) (outcome : Outcome) : Type 0 where
  pub run : Run Want Fault Step A
  pub is_run : IsRun run
  pub comes : (listed_by left_out run ≡ outcome) ⊎ ListsUpTo run outcome

-- a mark of a run of lines, whose step puts the line on the output
abbrev pub line_mark : Mark Want (List ℕ) → Mark Want Step
line_mark (Wants want) = Wants want
line_mark (Does line) = Does (Line line)

-- a run of lines, as one whose steps put each on the output
abbrev pub lined : {A : Type 0} → Run Want Fault (List ℕ) A → Run Want Fault Step A
lined r = record { marks = map line_mark r.marks; ending = r.ending }

-- what holds of an output holds beside any sink, which isn't called
abbrev pub BesideSinks : Option (List ℕ) → CallAccount → Option (List ℕ) → CallAccount → (Outside → Outside → Type 0) → Type 0
BesideSinks text calls text' calls' P = (sink : Sink) (sink_calls : CallAccount) → P (outside sink sink_calls text calls) (outside sink sink_calls text' calls')
