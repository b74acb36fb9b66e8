-- Steps that calls do which read nothing.
use Rattle.std.proofs.Common.{◌≡◌, ℕ, Bool, true, false, cond, List, [], ◌∷◌, ◌++◌, Option, Some, None, Result, Ok, Err, refl, sym, ap, ◌∙◌, subst, append-nil}
use Rattle.std.specs.Prelude.{take}
use Rattle.btr_prog.specs.Answers.{Halt, Broke}
use Rattle.btr_prog.specs.Prog.{Return, Emit, run}
use Rattle.btr_prog.proofs.Choices.{goes_step, goes_broke, goes_nowhere}
use Rattle.btr_rack.specs.Out.{Adds}
use Rattle.btr_rack.specs.Sink.{Sink}
use Rattle.btr_rack.specs.declared.error.SinkError.{SinkError}
use Rattle.btr_rack.specs.declared.error.SinkError.TheVariants.{Failed, Memory}
use Rattle.btr_read.specs.Fate.{Fault}
use Rattle.btr_walk.specs.Reading.{UnreadBlock, unread_by}
use Rattle.btr_volume.specs.Lookup.{Program}
use Rattle.btr_volume.specs.declared.stop.Stop.{Stop}
use Rattle.btr_restore.specs.Outcome.{text_of}
use Rattle.btr_restore.specs.Restoring.{sink_after, text_after, Emits}
use Rattle.btr_volume.specs.Stops.{stop_halt, stops_out, stops_sink}
use Rattle.btr_files.specs.declared.counts.Counts.{Counts}
use Rattle.btr_restore.specs.Journey.{Treated, Over}
use Rattle.btr_listing.specs.Lines.{more, with_skip}
use Rattle.btr_listing.specs.Step.{Step, Line, part}

-- what the output refuses breaks the run off, whatever its error is
pub broke_out : (e : SinkError) → stop_halt (stops_out e) ≡ Broke
broke_out Failed = refl
broke_out Memory = refl

-- what the sink refuses breaks the run off, whatever its error is
pub broke_sink : (e : SinkError) → stop_halt (stops_sink e) ≡ Broke
broke_sink Failed = refl
broke_sink Memory = refl

-- no step adds nothing, and a line adds its text
pub text_none : (told : Option (List ℕ)) → told ≡ text_after told []
text_none None = refl
text_none (Some text) = ap Some (sym (append-nil text))

-- where a text was added to the output, the line of that text was put
pub text_line : (told told' : Option (List ℕ)) (text : List ℕ) → Adds told told' text → told' ≡ text_after told (Line text ∷ [])
text_line None told' text h = h
text_line (Some old) told' text h = h ∙ ap (λ t. Some (old ++ t)) (sym (append-nil text))

module _ {A : Type 0} where
  -- a program that ends at once
  pub emits_none : (a : A) (s : Sink) (told : Option (List ℕ)) → Emits (Return a) s s told told (Ok a)
  emits_none a s told = record { done = []; sink = refl; text = text_none told; goes = λ layout old new Bs. (run [] (Ok a), refl, (refl, refl)) }

  -- a line that was put whole, and one that was cut
  pub emits_line : (text : List ℕ) (a : A) (s : Sink) (told told' : Option (List ℕ)) → Adds told told' text
      → Emits (Emit (Line text) (Return a)) s s told told' (Ok a)
  emits_line text a s told told' h = record {
    done = Line text ∷ [];
    sink = refl;
    text = text_line told told' text h;
    goes = λ layout old new Bs. goes_step Bs (unread_by layout old new) part [] (Line text) (Return a) [] (Ok a) (run [] (Ok a), refl, (refl, refl));
  }

  -- a line of which the output took only a first part breaks the run off
  pub breaks_line : (text : List ℕ) (p : Program Step A) (s : Sink) (told told' : Option (List ℕ)) → ((n : ℕ) × Adds told told' (take n text))
      → Emits (Emit (Line text) p) s s told told' (Err Broke)
  breaks_line text p s told told' h = record {
    done = Line (take h.0 text) ∷ [];
    sink = refl;
    text = text_line told told' (take h.0 text) h.1;
    goes = λ layout old new Bs. goes_broke Bs (unread_by layout old new) part [] 0 (Line text) (Line (take h.0 text)) h.0 p refl;
  }

-- a refusal breaks the run off
pub as_out : {A : Type 0} (P : Result A (Halt Fault UnreadBlock) → Type 0) (stop : Stop) (e : SinkError) → stop ≡ stops_out e → P (Err Broke)
    → P (Err (stop_halt stop))
as_out {A} P stop e is h = subst (λ (x : Halt Fault UnreadBlock). P (Err x)) (sym (ap stop_halt is ∙ broke_out e)) h

-- what holds of a run that is broken off holds of one that the sink refused
pub as_sink : {A : Type 0} (P : Result A (Halt Fault UnreadBlock) → Type 0) (stop : Stop) (e : SinkError) → stop ≡ stops_sink e → P (Err Broke)
    → P (Err (stop_halt stop))
as_sink {A} P stop e is h = subst (λ (x : Halt Fault UnreadBlock). P (Err x)) (sym (ap stop_halt is ∙ broke_sink e)) h

-- a line that is put only where lines are asked for
module _ (b : Bool) (text : List ℕ) (s : Sink) where
  -- the line, where lines are asked for
  abbrev Told : Program Step (Unit {0})
  Told = cond b (Emit (Line text) (Return tt)) (Return tt)

  -- where no lines are asked for nothing is put
  pub untold : (told : Option (List ℕ)) → false ≡ b → Emits Told s s told told (Ok tt)
  untold told e = subst (λ x. Emits (cond x (Emit (Line text) (Return tt)) (Return tt)) s s told told (Ok tt)) e (emits_none tt s told)

  -- where lines are asked for, the line was put whole
  pub told_whole : (told told' : Option (List ℕ)) → true ≡ b → Adds told told' text → Emits Told s s told told' (Ok tt)
  told_whole told told' e h = subst (λ x. Emits (cond x (Emit (Line text) (Return tt)) (Return tt)) s s told told' (Ok tt)) e
      (emits_line text tt s told told' h)

  -- where lines are asked for and the output took only a first part of it, the run is broken off
  pub told_broke : (told told' : Option (List ℕ)) (stop : Stop) (error : SinkError) → true ≡ b → stop ≡ stops_out error
      → ((n : ℕ) × Adds told told' (take n text)) → Emits Told s s told told' (Err (stop_halt stop))
  told_broke told told' stop error e is h =
      as_out (λ answer. Emits Told s s told told' answer) stop error is
      (subst (λ x. Emits (cond x (Emit (Line text) (Return tt)) (Return tt)) s s told told' (Err Broke)) e (breaks_line text (Return tt) s told told' h))

-- the line of an entry that is left out
module _ (text : List ℕ) (counts : Counts) (s : Sink) (told told' : Option (List ℕ)) where
  -- the steps of an entry that is left out, with an answer
  abbrev Skips : Result Treated (Halt Fault UnreadBlock) → Type 0
  Skips answer = Emits (Emit (Line text) (Return (Over (with_skip counts)))) s s told told' answer

  -- its line was put whole, and the counts have one skipped thing more
  pub left_out : (n : ℕ) → n ≡ more counts.skipped → Adds told told' text → Skips (Ok (Over (record { dirs = counts.dirs; files = counts.files; skipped = n })))
  left_out n is h = subst (λ m. Skips (Ok (Over (record { dirs = counts.dirs; files = counts.files; skipped = m })))) (sym is) (emits_line text (Over
      (with_skip counts)) s told told' h)

  -- the output took only a first part of its line, and the run is broken off
  pub left_broke : (stop : Stop) (error : SinkError) → stop ≡ stops_out error → ((n : ℕ) × Adds told told' (take n text)) → Skips (Err (stop_halt stop))
  left_broke stop error is h = as_out Skips stop error is (breaks_line text (Return (Over (with_skip counts))) s told told' h)

-- a call of the sink, which a dry run leaves out
module _ (dry : Bool) (step : Step) (silent : text_of (step ∷ []) ≡ []) (s : Sink) (told : Option (List ℕ)) where
  -- the call of the sink, unless the run is dry
  abbrev Row : Bool → Program Step (Unit {0})
  Row b = cond b (Return tt) (Emit step (Return tt))

  -- a call of the sink adds nothing to the text of an output
  same_text : (t : Option (List ℕ)) → t ≡ text_after t (step ∷ [])
  same_text None = refl
  same_text (Some text) = ap Some (sym (ap (λ x. text ++ x) silent ∙ append-nil text))

  -- where the run is dry the sink is left as it is
  pub row_dry : dry ≡ true → Emits (Row dry) s s told told (Ok tt)
  row_dry e = subst (λ b. Emits (Row b) s s told told (Ok tt)) (sym e) (emits_none tt s told)

  module _ (s' : Sink) where
    -- where the run isn't dry the call was done in the sink
    pub row_whole : dry ≡ false → s' ≡ sink_after s step → Emits (Row dry) s s' told told (Ok tt)
    row_whole e is = subst (λ b. Emits (Row b) s s' told told (Ok tt)) (sym e) (record {
      done = step ∷ [];
      sink = is;
      text = same_text told;
      goes = λ layout old new Bs. goes_step Bs (unread_by layout old new) part [] step (Return tt) [] (Ok tt) (run [] (Ok tt), refl, (refl, refl));
    })

    -- where the run isn't dry and the sink refused the call, it is as it was, and the run is broken off
    pub row_broke : (stop : Stop) (error : SinkError) → dry ≡ false → stop ≡ stops_sink error → s' ≡ s → Emits (Row dry) s s' told told (Err (stop_halt stop))
    row_broke stop error e is same = as_sink (λ answer. Emits (Row dry) s s' told told answer) stop error is (subst (λ b. Emits (Row b) s s' told told
        (Err Broke)) (sym e) (record {
          done = [];
          sink = same;
          text = text_none told;
          goes = λ layout old new Bs. goes_nowhere Bs (unread_by layout old new) part [] 0 (Emit step (Return tt));
        }))
