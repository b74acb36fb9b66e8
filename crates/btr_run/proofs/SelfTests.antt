-- What a self-test comes to, by the step that ended it, and what lies behind its answer.
use Rattle.std.proofs.Common.{◌≡◌, ◌≢◌, inl, ℕ, ◌+◌, min, List, [], ◌++◌, length, take, Option, Some, None, Result, Ok, Err, refl, sym, ap, ◌∙◌}
use Rattle.std.proofs.Common.{subst, arith, true, false, Bool, cond, eqb}
use Rattle.std.specs.Option.{IfSome, unwrap_or}
use Rattle.std.proofs.lemmas.List.{take_min, take-append-le}
use Rattle.std.proofs.Math.Seq.{take-append-add}
use Rattle.btr_rack.specs.Out.{Adds, CallAccount, Counts, Puts}
use Rattle.btr_rack.specs.Rack.{Seen}
use Rattle.btr_rack.specs.Sink.{Sink}
use Rattle.btr_rack.specs.declared.error.SinkError.{SinkError}
use Rattle.btr_rack.specs.declared.error.SinkError.TheVariants.{Failed}
use Rattle.btr_restore.specs.Running.{Outside, outside}
use Rattle.btr_text.proofs.Writing.{adds_nothing, adds_twice}
use Rattle.btr_trial.specs.Shown.{EndsTrial, differing, trial_text}
use Rattle.btr_trial.specs.Trial.{trial_of}
use Rattle.btr_volume.specs.Start.{Images}
use Rattle.btr_volume.specs.declared.stop.Stop.{Stop}
use Rattle.btr_volume.specs.declared.stop.Stop.TheVariants as stops
use Rattle.btr_run.specs.Answers.{output_answer}
use Rattle.btr_run.specs.Causes.{IsBehindWords}
use Rattle.btr_run.specs.Checked.{found}
use Rattle.btr_run.specs.Faults.{stop_answer}
use Rattle.btr_run.specs.Outcomes.{HasOneOutcome, HasEnded, How, IsNoFault, OutFailed, Outcome, SinkFailed, Wanted, Whole, due_after, showing}
use Rattle.btr_run.specs.SelfTested.{AsksToTry, IsTrialOf, IsTrialOutcome, TakesImages, tried_shown, volume_text}
use Rattle.btr_run.specs.Words.{Words, IsSentence}
use Rattle.btr_run.specs.declared.answer.Answer.{Answer}
use Rattle.btr_run.specs.declared.answer.Answer.TheVariants.{Done, Found, ImageFault, Limit, Memory, OutFault, SinkFault, Usage}
use Rattle.btr_run.specs.declared.plan.Command.TheVariants.{SelfTest}
use Rattle.btr_run.specs.declared.plan.Plan.{Plan}
use Rattle.btr_volume.specs.declared.which.Which.{Which}
use Rattle.btr_run.proofs.Apart.{one_plan}
use Rattle.btr_run.proofs.Causing.{none_failed_yet}
use Rattle.btr_run.proofs.Coming.{comes_shown, comes_wanted}
use Rattle.btr_run.proofs.Faulting.{no_tree, tree_in}
use Rattle.btr_run.proofs.Found.{found_no_out, found_no_sink}

-- words that ask for a self-test have no other plan
pub its_command : (words : Words) (plan : Plan) (number : ℕ) → IsSentence plan words → AsksToTry words number → plan.command ≡ SelfTest number
its_command words plan number sentence asks = ap (λ (p : Plan). p.command) (one_plan words plan asks.plan sentence asks.sentence) ∙ asks.command

-- words that ask for a self-test ask for no command that takes images
pub no_trial : (words : Words) (plan : Plan) (number : ℕ) → IsSentence plan words → AsksToTry words number → TakesImages plan.command → ⊥
no_trial words plan number sentence asks takes = takes number (its_command words plan number sentence asks)

-- what is shown of a volume that is told, or of some
of_volume : (volume : Option Images) (number : ℕ) → IsTrialOf volume number (showing (tried_shown number (unwrap_or volume [])))
of_volume None number = ([], refl)
of_volume (Some images) number = refl

-- what is shown of a volume that is the told one, if one is told
pub of_rack : (volume : Option Images) (number : ℕ) (images : Images) → IfSome volume (λ told. told ≡ images)
    → IsTrialOf volume number (showing (tried_shown number images))
of_rack None number images told = (images, refl)
of_rack (Some volume) number images told = ap (λ i. showing (tried_shown number i)) (sym told)

-- a trial's text, of which a first part stands behind the lines of the volume
behind_lines : (number : ℕ) (t : Images) (old mid new : Option (List ℕ)) → Adds old mid (volume_text number) → (n : ℕ)
    × Adds mid new (take n (trial_text (trial_of t number)))
    → (n : ℕ) × Adds old new (take n (volume_text number ++ trial_text (trial_of t number)))
behind_lines number t old mid new lines part = (
  length (volume_text number) + part.0,
  subst (Adds old new) (sym (take-append-add (volume_text number) (trial_text (trial_of t number)) part.0))
      (adds_twice old mid new (volume_text number) (take part.0 (trial_text (trial_of t number))) lines part.1),
)

-- a first part of those lines
of_lines : (number : ℕ) (t : Images) (old new : Option (List ℕ)) → (n : ℕ) × Adds old new (take n (volume_text number))
    → (n : ℕ) × Adds old new (take n (volume_text number ++ trial_text (trial_of t number)))
of_lines number t old new part = (
  min part.0 (length (volume_text number)),
  subst (Adds old new)
      (sym (take_min part.0 (volume_text number))
      ∙ sym (take-append-le (min part.0 (length (volume_text number))) (volume_text number) (trial_text (trial_of t number)) (omega arith))) part.1,
)

-- the answer behind a trial
abbrev pub AnswersTo : Result ℕ Stop → Answer → Type 0
AnswersTo (Ok count) answer = answer ≡ found count
AnswersTo (Err stop) answer = answer ≡ stop_answer stop

-- beside any sink
module _ (volume : Option Images) (number : ℕ) (sink : Sink) (calls : CallAccount) where
  -- a self-test did this and answered so: some trial of the volume came, or a first part of it
  abbrev TriesTo : Option (List ℕ) → Option (List ℕ) → CallAccount → CallAccount → Answer → Type 0
  TriesTo old new before after answer = HasOneOutcome (Unit {0}) (IsTrialOf volume number) (outside sink calls old before) (outside sink calls new after) answer

  -- how many lines differ is no fault of the output or of the sink
  no_fault : (t : Images) → IsNoFault (found (differing (trial_of t number)))
  no_fault t = record { no_out = found_no_out (differing (trial_of t number)); no_sink = found_no_sink (differing (trial_of t number)) }

  module _ (t : Images) (is : IsTrialOf volume number (showing (tried_shown number t))) (old new : Option (List ℕ)) (before after : CallAccount) where
    -- all lines were put, or a first part of them where the output refused them
    put_so : (r : Result Unit SinkError) → Puts old new (volume_text number ++ trial_text (trial_of t number)) r → Counts before after r
        → (answer : Answer) → answer ≡ due_after r (found (differing (trial_of t number))) → TriesTo old new before after answer
    put_so r puts counts answer due =
        comes_shown (Unit {0}) (IsTrialOf volume number) (outside sink calls old before) (outside sink calls new after) answer refl refl (λ scarce. tt)
        (record { shown = tried_shown number t; is_one = is; no_fault = no_fault t; put = record { put = r; puts = puts; counts = counts; due = due } })

    -- memory was wanted behind a first part of the lines
    wanted_so : (n : ℕ) × Adds old new (take n (volume_text number ++ trial_text (trial_of t number))) → after ≡ before → (answer : Answer) → answer ≡ Memory
        → TriesTo old new before after answer
    wanted_so part same answer due =
        subst (TriesTo old new before after) (sym due)
        (comes_wanted (Unit {0}) (IsTrialOf volume number) (outside sink calls old before) (outside sink calls new after) (tried_shown number t) is
        (no_fault t) tt refl refl same part)

  -- there was no memory for the volume
  pub unmade : (text : Option (List ℕ)) (account : CallAccount) → TriesTo text text account account Memory
  unmade text account =
      wanted_so (unwrap_or volume []) (of_volume volume number) text text account account (0, adds_nothing text) refl Memory refl

  -- the output refused the lines of the volume
  pub unput : (old new : Option (List ℕ)) (before after : CallAccount) (fault : SinkError) → Puts {T = Unit {0}} old new (volume_text number) (Err fault)
      → Counts {T = Unit {0}} before after (Err fault) → (answer : Answer) → answer ≡ output_answer fault → TriesTo old new before after answer
  unput old new before after fault puts counts answer due =
      put_so t (of_volume volume number) old new before after (Err fault) (of_lines number t old new puts) counts answer due
    where
      t : Images
      t = unwrap_or volume []

  -- they were put, and a trial ended
  pub tried : (t : Images) → IsTrialOf volume number (showing (tried_shown number t)) → (old mid new : Option (List ℕ)) (before between after : CallAccount)
      → Adds old mid (volume_text number) → between ≡ before → (r : Result ℕ Stop) → EndsTrial (trial_of t number) mid new between after r
      → (answer : Answer) → AnswersTo r answer → TriesTo old new before after answer
  tried t is old mid new before between after lines same r ends answer due = of r ends due
    where
      of : (r : Result ℕ Stop) → EndsTrial (trial_of t number) mid new between after r → AnswersTo r answer → TriesTo old new before after answer
      of (Ok count) ends due =
          put_so t is old new before after (Ok tt) (adds_twice old mid new (volume_text number) (trial_text (trial_of t number)) lines ends.1)
          (ends.2 ∙ same) answer
          (due ∙ ap found ends.0)
      of (Err stops.Out) ends due =
          put_so t is old new before after (Err Failed) (behind_lines number t old mid new lines ends.0)
          (subst (λ b. Counts {T = Unit {0}} b after (Err Failed)) same ends.1) answer due
      of (Err stops.Memory) ends due = wanted_so t is old new before after (behind_lines number t old mid new lines ends.0) (ends.1 ∙ same) answer due
      of (Err other) ends due = absurd ends

-- ---- the answer

-- an answer that speaks of no image, no tree and no words
pub record IsPlain (answer : Answer) : Type 0 where
  pub image : (slot : ℕ) → answer ≢ ImageFault slot
  pub usage : (at : ℕ) → answer ≢ Usage at
  pub limit : (which : Which) (n : ℕ) → answer ≢ Limit which n
  pub tree : tree_in answer ≡ None

-- how many lines differ is such an answer
plain_by : (none : Bool) (count : ℕ) → IsPlain (cond none (Done 0) (Found count))
plain_by true count = record { image = λ slot e. cc; usage = λ at e. cc; limit = λ which n e. cc; tree = refl }
plain_by false count = record { image = λ slot e. cc; usage = λ at e. cc; limit = λ which n e. cc; tree = refl }

plain_sink : IsPlain SinkFault
plain_sink = record { image = λ slot e. cc; usage = λ at e. cc; limit = λ which n e. cc; tree = refl }

plain_out : IsPlain OutFault
plain_out = record { image = λ slot e. cc; usage = λ at e. cc; limit = λ which n e. cc; tree = refl }

plain_memory : IsPlain Memory
plain_memory = record { image = λ slot e. cc; usage = λ at e. cc; limit = λ which n e. cc; tree = refl }

-- a trial of a told volume is some trial
pub some_trial : (volume : Option Images) (number : ℕ) (outcome : Outcome) → IsTrialOf volume number outcome → IsTrialOutcome number outcome
some_trial None number outcome one = one
some_trial (Some images) number outcome one = (images, one)

-- the answer of a self-test is such a one
pub is_plain : (volume : Option Images) (number : ℕ) (x y : Outside) (answer : Answer) → HasOneOutcome (Unit {0}) (IsTrialOf volume number) x y answer
    → IsPlain answer
is_plain volume number x y answer comes = of comes.how comes.ended
  where
    some : IsTrialOutcome number comes.outcome
    some = some_trial volume number comes.outcome comes.is_one

    of : (how : How) → HasEnded (Unit {0}) x y comes.outcome answer how → IsPlain answer
    of Whole e = subst IsPlain (sym (e.0 ∙ ap (λ (o : Outcome). o.answer) some.1))
        (plain_by (eqb (differing (trial_of some.0 number)) 0) (differing (trial_of some.0 number)))
    of SinkFailed e = subst IsPlain (sym e.0) plain_sink
    of OutFailed e = subst IsPlain (sym e.0) plain_out
    of Wanted e = subst IsPlain (sym e.0) plain_memory

-- nothing failed on an image behind it
pub plain_cause : (words : Words) (seen : Seen) (answer : Answer) → IsPlain answer → IsBehindWords words seen seen answer
plain_cause words seen answer plain = record {
  image = λ slot is. absurd (plain.image slot is);
  shut = λ more. absurd (omega (arith, more));
  hidden = inl (none_failed_yet seen.account);
  sure = λ slot is. absurd (plain.image slot is);
  tree = λ fault e. absurd (no_tree answer plain.tree fault e);
}
