-- Outcomes, and what was done and put of them.
use Rattle.std.proofs.Common.{◌≡◌, ◌⊎◌, inl, inr, ℕ, zero, suc, ◌≤◌, false, List, [], ◌∷◌, ◌++◌, length, take, fold, Option, Some, None, Result, Ok, Err, refl}
use Rattle.std.proofs.Common.{sym, ap, ◌∙◌, subst, arith}
use Rattle.std.specs.Result.{IsErrAnd}
use Rattle.std.proofs.lemmas.List.{append-nil, take_all}
use Rattle.std.proofs.lemmas.Result.{err_from_is_err_and}
use Rattle.std.proofs.Math.Seq.{take-nil}
use Rattle.btr_rack.specs.Rack.{Rose}
use Rattle.btr_rack.specs.Out.{Adds, Puts, CallAccount, Counts}
use Rattle.btr_rack.specs.Sink.{Sink}
use Rattle.btr_rack.specs.declared.error.SinkError.{SinkError}
use Rattle.btr_rack.specs.declared.error.SinkError.TheVariants.{Failed, Memory as memory_fault}
use Rattle.btr_restore.specs.Outcome.{text_of}
use Rattle.btr_restore.specs.Restoring.{sink_after}
use Rattle.btr_restore.specs.Running.{Outside}
use Rattle.btr_listing.specs.Step.{Step, Line}
use Rattle.btr_text.proofs.Writing.{adds_nothing, adds_twice}
use Rattle.btr_run.specs.Answers.{error_line, answer_of}
use Rattle.btr_run.specs.Outcomes.{Outcome, Shown, refused, showing, text_steps, due_after, IsPut, IsNoFault, ShowsOutcome, IsFirstPart, DidAndTold}
use Rattle.btr_run.specs.Outcomes.{StandsPartly}
use Rattle.btr_run.specs.Outcomes.{CallFailed}
use Rattle.btr_run.specs.Outcomes.{OneFailed, How, Whole, SinkFailed, OutFailed, Wanted, HasEnded, HasOneOutcome, HasFirstPart, MayEnd, IsPrinted}
use Rattle.btr_run.specs.declared.answer.Answer.{Answer}
use Rattle.btr_run.specs.declared.answer.Answer.TheVariants.{SinkFault, OutFault, Memory}

-- the answer that a `?` made of a fault
pub answer_gives : (r : Result Answer Answer) (answer : Answer) → IsErrAnd r (λ a. a ≡ answer) → answer_of r ≡ answer
answer_gives r answer gives = let p = err_from_is_err_and r gives in ap answer_of p.1 ∙ p.2

-- how a put ends
pub put_ends : (old new : Option (List ℕ)) (before after : CallAccount) (text : List ℕ) (answer result : Answer) → IsPut old new before after text answer result
    → (result ≡ answer) ⊎ (result ≡ OutFault) ⊎ (result ≡ Memory)
put_ends old new before after text answer result put = of put.put put.due
  where
    of : (r : Result Unit SinkError) → result ≡ due_after r answer → (result ≡ answer) ⊎ (result ≡ OutFault) ⊎ (result ≡ Memory)
    of (Ok x) due = inl due
    of (Err Failed) due = inr (inl due)
    of (Err memory_fault) due = inr (inr due)

-- an answer before any text
pub shows_bare : (IsOne : Outcome → Type 0) (text : Option (List ℕ)) (account : CallAccount) (answer : Answer) → IsOne (refused answer) → IsNoFault answer
    → ShowsOutcome IsOne text text account account answer
shows_bare IsOne text account answer is_one no_fault =
    record {
      shown = record { answer = answer; text = [] };
      is_one = is_one;
      no_fault = no_fault;
      put = record
          { put = Ok tt; puts = adds_nothing text; counts = refl; due = refl };
    }

-- one of more outcomes
pub shows_also : (IsOne IsOther : Outcome → Type 0) (old new : Option (List ℕ)) (before after : CallAccount) (result : Answer)
    → ((outcome : Outcome) → IsOne outcome → IsOther outcome) → ShowsOutcome IsOne old new before after result
    → ShowsOutcome IsOther old new before after result
shows_also IsOne IsOther old new before after result more shows = record
    { shown = shows.shown; is_one = more (showing shows.shown) shows.is_one; no_fault = shows.no_fault; put = shows.put }

-- an answer before anything else
pub comes_bare : (May : Type 0) (IsOne : Outcome → Type 0) (x : Outside) (answer : Answer) → IsOne (refused answer) → IsNoFault answer
    → HasOneOutcome May IsOne x x answer
comes_bare May IsOne x answer is_one no_fault =
    record {
      outcome = refused answer;
      is_one = is_one;
      no_fault = no_fault;
      how = Whole;
      ended =
          (refl, refl, refl, record { sink = refl; text = adds_nothing x.text });
    }

-- one of more outcomes, where memory may be wanted as well
pub comes_also : (May Might : Type 0) (IsOne IsOther : Outcome → Type 0) (x y : Outside) (result : Answer) → (May → Might)
    → ((outcome : Outcome) → IsOne outcome → IsOther outcome) → HasOneOutcome May IsOne x y result → HasOneOutcome Might IsOther x y result
comes_also May Might IsOne IsOther x y result might more comes =
    record { outcome = comes.outcome; is_one = more comes.outcome comes.is_one; no_fault = comes.no_fault; how = comes.how; ended = of comes.how comes.ended }
  where
    of : (how : How) → HasEnded May x y comes.outcome result how → HasEnded Might x y comes.outcome result how
    of Whole e = e
    of SinkFailed e = e
    of OutFailed e = e
    of Wanted e = (e.0, might e.1, e.2, e.3, e.4)

-- a text as a step
text_is : (text : List ℕ) → text_of (text_steps text) ++ [] ≡ text
text_is [] = refl
text_is (b ∷ text) = append-nil ((b ∷ text) ++ []) ∙ append-nil (b ∷ text)

-- putting a text leaves the sink as it was
sink_same : (text : List ℕ) (s : Sink) → fold sink_after s (text_steps text) ≡ s
sink_same [] s = refl
sink_same (b ∷ text) s = refl

-- the step of a first part of a text is a first part of the text's step
text_cut : (text : List ℕ) (n : ℕ) → IsFirstPart (text_steps text) (text_steps (take n text))
text_cut [] n = record { before = []; behind = []; left = None; place = refl; is = ap text_steps (take-nil n); stands = tt }
text_cut (b ∷ text) zero = record { before = []; behind = Line (b ∷ text) ∷ []; left = None; place = refl; is = refl; stands = tt }
text_cut (b ∷ text) (suc n) = record {
  before = [];
  behind = Line (b ∷ text) ∷ [];
  left = Some (Line (b ∷ take n text));
  place = refl;
  is = refl;
  stands =
      (suc n, refl);
}

-- of a text that is shown some bytes stand, or a first part of it
module _ (x y : Outside) (same : y.sink ≡ x.sink) where
  -- bytes that were put stand as the step that puts them
  pub text_stands : (bytes : List ℕ) → Adds x.text y.text bytes → DidAndTold x y (text_steps bytes) []
  text_stands bytes adds = record { sink = same ∙ sym (sink_same bytes x.sink); text = subst (Adds x.text y.text) (sym (text_is bytes)) adds }

  -- where a first part of a text that is shown was put, a first part of its steps stands
  pub text_partly : (shown : Shown) → (n : ℕ) × Adds x.text y.text (take n shown.text) → StandsPartly x y (showing shown) []
  text_partly shown p =
      record { done = text_steps (take p.0 shown.text); first = text_cut shown.text p.0; stands = text_stands (take p.0 shown.text) p.1 }

-- memory was wanted behind a first part of a text, and no call of the sink was made
pub comes_wanted : (May : Type 0) (IsOne : Outcome → Type 0) (x y : Outside) (shown : Shown) → IsOne (showing shown) → IsNoFault shown.answer → May
    → y.sink ≡ x.sink → y.sink_calls ≡ x.sink_calls → y.out_calls ≡ x.out_calls → (n : ℕ) × Adds x.text y.text (take n shown.text)
    → HasOneOutcome May IsOne x y Memory
comes_wanted May IsOne x y shown one no_fault may same same_calls same_out part = record {
  outcome = showing shown;
  is_one = one;
  no_fault = no_fault;
  how = Wanted;
  ended = (refl, may, same_calls, same_out, text_partly x y same shown part);
}

-- what was shown came, and no call of the sink was made
pub comes_shown : (May : Type 0) (IsOne : Outcome → Type 0) (x y : Outside) (result : Answer) → y.sink ≡ x.sink → y.sink_calls ≡ x.sink_calls
    → (x.out_calls.ample ≡ false → May)
    → ShowsOutcome IsOne x.text y.text x.out_calls y.out_calls result → HasOneOutcome May IsOne x y result
comes_shown May IsOne x y result same same_calls scarce shows = of shows.put.put shows.put.puts shows.put.counts shows.put.due
  where
    text : List ℕ
    text = shows.shown.text

    ends : (how : How) → HasEnded May x y (showing shows.shown) result how → HasOneOutcome May IsOne x y result
    ends how ended = record { outcome = showing shows.shown; is_one = shows.is_one; no_fault = shows.no_fault; how = how; ended = ended }

    of : (r : Result Unit SinkError) → Puts x.text y.text text r → Counts x.out_calls y.out_calls r → result ≡ due_after r shows.shown.answer
        → HasOneOutcome May IsOne x y result
    of (Ok u) puts counts due = ends Whole (due, same_calls, counts, text_stands x y same text puts)
    of (Err Failed) puts counts due = ends OutFailed (due, ((counts.0, counts.1), counts.2), same_calls, text_partly x y same shows.shown puts)
    of (Err memory_fault) puts counts due = ends Wanted (due, scarce counts.0, same_calls, counts.1, text_partly x y same shows.shown puts)

-- all steps are a first part
pub whole_first : (steps : List Step) → IsFirstPart steps steps
whole_first steps = record { before = steps; behind = []; left = None; place = sym (append-nil steps); is = sym (append-nil steps); stands = tt }

-- a whole line, or a first part of it
line_part : (mid new : Option (List ℕ)) (line : List ℕ) (r : Result Unit SinkError) → Puts mid new line r → (m : ℕ) × Adds mid new (take m line)
line_part mid new line (Ok x) puts = (length line, subst (Adds mid new) (sym (take_all (length line) line (omega arith))) puts)
line_part mid new line (Err e) puts = puts

-- a count that rose, and didn't fall since, rose in all
rose_again : (before between after : ℕ) → Rose before between → before ≤ after → between ≤ after → Rose before after
rose_again before between after a le more = (le, omega (arith, a.0, a.1, more))

-- the outside after a line was put
abbrev pub with_line : Outside → Option (List ℕ) → CallAccount → Outside
with_line y text calls = record y { text = text; out_calls = calls }

module _ (May : Type 0) (x y : Outside) (new : Option (List ℕ)) (after : CallAccount) (outcome : Outcome) (result : Answer)
    (scarce : x.out_calls.ample ≡ false → May) where
  -- the sink and the output behind the line
  abbrev z : Outside
  z = with_line y new after

  -- a line behind some steps
  behind : (done : List Step) (line : List ℕ) → DidAndTold x y done [] → Adds y.text new line → DidAndTold x z done line
  behind done line stands adds = record {
    sink = stands.sink;
    text = subst (Adds x.text new) (ap (λ l. l ++ line) (append-nil (text_of done))) (adds_twice x.text y.text new (text_of done ++ []) line stands.text adds);
  }

  -- a line behind a first part of the outcome's steps
  behind_part : (line : List ℕ) → StandsPartly x y outcome [] → Adds y.text new line → StandsPartly x z outcome line
  behind_part line partly adds = record { done = partly.done; first = partly.first; stands = behind partly.done line partly.stands adds }

  -- a first part of the line of an answer, behind a first part of the outcome's steps
  first_part : (answer : Answer) → MayEnd outcome answer → StandsPartly x y outcome [] → (m : ℕ) × Adds y.text new (take m (error_line answer))
      → HasFirstPart x z outcome
  first_part answer may partly line = record
      { answer = answer; may_end = may; some = line.0; stands = behind_part (take line.0 (error_line answer)) partly line.1 }

  -- the line of an answer behind a first part of the steps, where the output took it or not
  failed_line : (answer : Answer) → MayEnd outcome answer → StandsPartly x y outcome [] → y.out_calls ≡ x.out_calls → (fault : SinkError)
      → Puts {T = Unit} y.text new (error_line answer) (Err fault) → Counts {T = Unit} y.out_calls after (Err fault)
      → result ≡ due_after (Err fault) answer → IsPrinted May x z outcome result
  failed_line answer may partly same Failed puts counts due = inr
      (inr (inl (due, subst (λ c. CallFailed c after) same (counts.0, counts.1), first_part answer may partly puts)))
  failed_line answer may partly same memory_fault puts counts due = inr
      (inr (inr (due, scarce (subst (λ (c : CallAccount). c.ample ≡ false) same counts.0), first_part answer may partly puts)))

  -- behind all steps the line of the outcome's answer was put, or the output refused it
  after_whole : DidAndTold x y outcome.steps [] → y.out_calls ≡ x.out_calls → (r : Result Unit SinkError) → Puts y.text new (error_line outcome.answer) r
      → Counts y.out_calls after r → result ≡ due_after r outcome.answer → IsPrinted May x z outcome result
  after_whole stands same (Ok u) puts counts due = inl (due, behind outcome.steps (error_line outcome.answer) stands puts)
  after_whole stands same (Err fault) puts counts due =
      failed_line outcome.answer (inl refl) (record { done = outcome.steps; first = whole_first outcome.steps; stands = stands }) same fault puts counts due

  -- where the sink failed, the line of that was put behind a first part of the steps, or the output refused it
  after_sink : CallFailed x.sink_calls y.sink_calls → StandsPartly x y outcome [] → ((y.out_calls ≡ x.out_calls) ⊎ OneFailed x.out_calls y.out_calls)
      → (r : Result Unit SinkError) → Puts y.text new (error_line SinkFault) r → Counts y.out_calls after r
      → result ≡ due_after r SinkFault → IsPrinted May x z outcome result
  after_sink failed partly calls (Ok u) puts counts due = inr (inl (due, failed, behind_part (error_line SinkFault) partly puts))
  after_sink failed partly (inl same) (Err fault) puts counts due = failed_line SinkFault (inr (inl refl)) partly same fault puts counts due
  after_sink failed partly (inr one) (Err Failed) puts counts due =
      inr (inr (inl (
        due,
        (one.0.0, rose_again x.out_calls.faults y.out_calls.faults after.faults one.0.1 (omega (arith, one.0.1.0, counts.1.0)) counts.1.0),
        first_part SinkFault (inr (inl refl)) partly puts,
      )))
  after_sink failed partly (inr one) (Err memory_fault) puts counts due =
      inr (inr (inr (due, scarce (sym (ap (λ (c : CallAccount). c.ample) one.1) ∙ counts.0), first_part SinkFault (inr (inl refl)) partly puts)))

  -- where memory was wanted, the line of that was put behind a first part of the steps, or the output refused it
  after_want : May → StandsPartly x y outcome [] → y.out_calls ≡ x.out_calls → (r : Result Unit SinkError) → Puts y.text new (error_line Memory) r
      → Counts y.out_calls after r → result ≡ due_after r Memory → IsPrinted May x z outcome result
  after_want may partly same (Ok u) puts counts due = inr
      (inr (inr (due, may, first_part Memory (inr (inr refl)) partly (line_part y.text new (error_line Memory) (Ok u) puts))))
  after_want may partly same (Err fault) puts counts due = failed_line Memory (inr (inr refl)) partly same fault puts counts due

  -- no line where the output failed
  after_out : CallFailed x.out_calls y.out_calls → y.out_calls ≡ record x.out_calls { faults = y.out_calls.faults } → StandsPartly x y outcome []
      → (r : Result Unit SinkError) → Puts y.text new [] r → Counts y.out_calls after r → result ≡ due_after r OutFault → IsPrinted May x z outcome result
  after_out failed same partly (Ok u) puts counts due = inr
      (inr (inl (
        due,
        (failed.0, subst (λ (c : CallAccount). Rose x.out_calls.faults c.faults) (sym counts) failed.1),
        first_part Memory (inr (inr refl)) partly
            (0, puts),
      )))
  after_out failed same partly (Err Failed) puts counts due =
      inr (inr (inl (
        due,
        (failed.0, rose_again x.out_calls.faults y.out_calls.faults after.faults failed.1 (omega (arith, failed.1.0, counts.1.0)) counts.1.0),
        first_part Memory (inr (inr refl)) partly (0, none puts),
      )))
    where
      none : (n : ℕ) × Adds y.text new (take n []) → Adds y.text new []
      none p = subst (Adds y.text new) (take-nil p.0) p.1
  after_out failed same partly (Err memory_fault) puts counts due =
      inr (inr (inr (due, scarce (sym (ap (λ (c : CallAccount). c.ample) same) ∙ counts.0), first_part Memory (inr (inr refl)) partly (0, none puts))))
    where
      none : (n : ℕ) × Adds y.text new (take n []) → Adds y.text new []
      none p = subst (Adds y.text new) (take-nil p.0) p.1

  -- the line of the answer that is due behind what was done
  pub comes_printed : (answer : Answer) (how : How) → HasEnded May x y outcome answer how → IsPut y.text new y.out_calls after (error_line answer) answer result
      → IsPrinted May x z outcome result
  comes_printed answer how ended line = of how ended
    where
      due : (a : Answer) → answer ≡ a → IsPut y.text new y.out_calls after (error_line a) a result
      due a is = subst (λ b. IsPut y.text new y.out_calls after (error_line b) b result) is line

      of : (how : How) → HasEnded May x y outcome answer how → IsPrinted May x z outcome result
      of Whole e = let p = due outcome.answer e.0 in after_whole e.3 e.2 p.put p.puts p.counts p.due
      of SinkFailed e = let p = due SinkFault e.0 in after_sink e.1.0 e.3 e.2 p.put p.puts p.counts p.due
      of OutFailed e = let p = due OutFault e.0 in after_out e.1.0 e.1.1 e.3 p.put p.puts p.counts p.due
      of Wanted e = let p = due Memory e.0 in after_want e.1 e.4 e.3 p.put p.puts p.counts p.due
