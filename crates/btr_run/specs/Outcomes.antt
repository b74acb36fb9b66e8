-- What a command comes to, and what stands in the output and in the sink then.
use Rattle.std.specs.Prelude.{◌≡◌, ◌≢◌, ◌⊎◌, ℕ, false, List, [], ◌∷◌, ◌++◌, take, fold, Option, Some, None, Result, Ok, Err}
use Rattle.std.specs.Option.{option_to_list}
use Rattle.btr_rack.specs.Rack.{Rose}
use Rattle.btr_rack.specs.Out.{Adds, Puts, CallAccount, Counts}
use Rattle.btr_rack.specs.declared.error.SinkError.{SinkError}
use Rattle.btr_restore.specs.Outcome.{text_of}
use Rattle.btr_restore.specs.Restoring.{sink_after}
use Rattle.btr_restore.specs.Running.{Outside}
use Rattle.btr_listing.specs.Step.{Step, Line, part}
use Rattle.btr_run.specs.Answers.{error_line, output_answer}
use Rattle.btr_run.specs.declared.answer.Answer.{Answer}
use Rattle.btr_run.specs.declared.answer.Answer.TheVariants.{SinkFault, OutFault, Memory}

-- what a command comes to: its answer, and what it does before the answer's line is put: calls of the sink, and texts
pub record Outcome : Type 0 where
  pub answer : Answer
  pub steps : List Step

-- an answer, and nothing but its line
abbrev pub refused : Answer → Outcome
refused answer = record { answer = answer; steps = [] }

-- what a command that only shows something comes to: its answer, and the text before the answer's line
pub record Shown : Type 0 where
  pub answer : Answer
  pub text : List ℕ

-- the step that puts a text, if there is one
abbrev pub text_steps : List ℕ → List Step
text_steps [] = []
text_steps (b ∷ text) = Line (b ∷ text) ∷ []

-- what a command comes to that shows a text and answers
abbrev pub showing : Shown → Outcome
showing shown = record { answer = shown.answer; steps = text_steps shown.text }

-- all that is put: the texts, and the line
abbrev pub printed : Outcome → List ℕ
printed outcome = text_of outcome.steps ++ error_line outcome.answer

-- one of some outcomes, or want of memory before anything else
abbrev pub OrMemory : (Outcome → Type 0) → Outcome → Type 0
OrMemory IsOne outcome = IsOne outcome ⊎ (outcome ≡ refused Memory)

-- one of some outcomes, or some refusal before anything else
abbrev pub OrBare : (Outcome → Type 0) → Outcome → Type 0
OrBare IsOne outcome = IsOne outcome ⊎ ((outcome.steps ≡ []) × (error_line outcome.answer ≢ []))

-- the answer that is due after a put
abbrev pub due_after : Result Unit SinkError → Answer → Answer
due_after (Ok _) answer = answer
due_after (Err fault) answer = output_answer fault

-- a text was put, or a first part of it where the output refused it, and this is the answer that is due
pub record IsPut (old new : Option (List ℕ)) (before after : CallAccount) (text : List ℕ) (answer result : Answer) : Type 0 where
  pub put : Result Unit SinkError
  pub puts : Puts old new text put
  pub counts : Counts before after put
  pub due : result ≡ due_after put answer

-- neither the output nor the sink failed
pub record IsNoFault (answer : Answer) : Type 0 where
  pub no_out : answer ≢ OutFault
  pub no_sink : answer ≢ SinkFault

-- Something of some kind was shown: its text was put, or a first part of it where the output refused it, and this is
-- the answer that is due. A fault of the output is none of them.
pub record ShowsOutcome (IsOne : Outcome → Type 0) (old new : Option (List ℕ)) (before after : CallAccount) (result : Answer) : Type 0 where
  pub shown : Shown
  pub is_one : IsOne (showing shown)
  pub no_fault : IsNoFault shown.answer
  pub put : IsPut old new before after shown.text shown.answer result

-- what stands of a step that is broken off, the first of some
abbrev pub StandsOf : Option Step → List Step → Type 0
StandsOf None steps = Unit {0}
StandsOf (Some left) [] = ⊥
StandsOf (Some left) (step ∷ steps) = (n : ℕ) × (part step n ≡ Some left)

-- a first part of some steps was done: those before some place, and perhaps a part of the step there
pub record IsFirstPart (steps done : List Step) : Type 0 where
  pub before : List Step
  pub behind : List Step
  pub left : Option Step
  pub place : steps ≡ before ++ behind
  pub is : done ≡ before ++ option_to_list left
  pub stands : StandsOf left behind

-- some steps were done, and then a line was put
pub record DidAndTold (x y : Outside) (done : List Step) (line : List ℕ) : Type 0 where
  pub sink : y.sink ≡ fold sink_after x.sink done
  pub text : Adds x.text y.text (text_of done ++ line)

-- a first part of the steps of an outcome was done, and then a line was put
pub record StandsPartly (x y : Outside) (outcome : Outcome) (line : List ℕ) : Type 0 where
  pub done : List Step
  pub first : IsFirstPart outcome.steps done
  pub stands : DidAndTold x y done line

-- a call of an output or of a sink failed, which was not sure
abbrev pub CallFailed : CallAccount → CallAccount → Type 0
CallFailed before after = (before.sure ≡ false) × Rose before.faults after.faults

-- such a call failed, and nothing but its count of faults changed
abbrev pub OneFailed : CallAccount → CallAccount → Type 0
OneFailed before after = CallFailed before after × (after ≡ record before { faults = after.faults })

-- how a command ended: with all its steps, or by a failure of the sink or of the output, or by want of memory
pub data How : Type 0 where
  Whole : How
  SinkFailed : How
  OutFailed : How
  Wanted : How

-- what was done by then, and the answer that is due; memory may be wanted where May says
-- so, and the sink may fail behind the output
abbrev pub HasEnded : Type 0 → Outside → Outside → Outcome → Answer → How → Type 0
HasEnded May x y outcome result Whole =
    (result ≡ outcome.answer) × (y.sink_calls ≡ x.sink_calls) × (y.out_calls ≡ x.out_calls) × DidAndTold x y outcome.steps []
HasEnded May x y outcome result SinkFailed = (result ≡ SinkFault) × OneFailed x.sink_calls y.sink_calls
    × ((y.out_calls ≡ x.out_calls) ⊎ OneFailed x.out_calls y.out_calls) × StandsPartly x y outcome []
HasEnded May x y outcome result OutFailed = (result ≡ OutFault) × OneFailed x.out_calls y.out_calls × (y.sink_calls ≡ x.sink_calls)
    × StandsPartly x y outcome []
HasEnded May x y outcome result Wanted = (result ≡ Memory) × May × (y.sink_calls ≡ x.sink_calls) × (y.out_calls ≡ x.out_calls) × StandsPartly x y outcome []

-- One of some outcomes came: its steps were done, or a first part of them. A fault
-- of the output or of the sink is no outcome.
pub record HasOneOutcome (May : Type 0) (IsOne : Outcome → Type 0) (x y : Outside) (result : Answer) : Type 0 where
  pub outcome : Outcome
  pub is_one : IsOne outcome
  pub no_fault : IsNoFault outcome.answer
  pub how : How
  pub ended : HasEnded May x y outcome result how

-- the line of an answer that may come behind a first part of an outcome's steps
abbrev pub MayEnd : Outcome → Answer → Type 0
MayEnd outcome answer = (answer ≡ outcome.answer) ⊎ (answer ≡ SinkFault) ⊎ (answer ≡ Memory)

-- a first part of an outcome's steps was done, and a first part of the line of an
-- answer was put; either may be empty or whole
pub record HasFirstPart (x y : Outside) (outcome : Outcome) : Type 0 where
  pub answer : Answer
  pub may_end : MayEnd outcome answer
  pub some : ℕ
  pub stands : StandsPartly x y outcome (take some (error_line answer))

-- all was done and put; or the sink failed, or the output, or memory was wanted, as it may be
abbrev pub IsPrinted : Type 0 → Outside → Outside → Outcome → Answer → Type 0
IsPrinted May x y outcome result =
    ((result ≡ outcome.answer) × DidAndTold x y outcome.steps (error_line outcome.answer))
    ⊎ ((result ≡ SinkFault) × CallFailed x.sink_calls y.sink_calls × StandsPartly x y outcome (error_line SinkFault))
    ⊎ ((result ≡ OutFault) × CallFailed x.out_calls y.out_calls × HasFirstPart x y outcome)
    ⊎ ((result ≡ Memory) × May × HasFirstPart x y outcome)
