-- A call that shows a text piece by piece comes to the outcome of its run.
use Rattle.std.proofs.Common.{◌≡◌, ◌≢◌, ℕ, ◌+◌, ◌≤◌, min, List, [], ◌∷◌, ◌++◌, length, take, Option, Some, None, Result, Ok, Err, refl, sym, ap, ◌∙◌, subst}
use Rattle.std.proofs.Common.{arith}
use Rattle.std.specs.Option.{option_to_list}
use Rattle.std.proofs.lemmas.List.{append-nil, take_min, take-append-le}
use Rattle.std.proofs.Math.Seq.{take-append-add, take-append_seam}
use Rattle.std.proofs.lemmas.Grind.{flat_map-append}
use Rattle.btr_prog.specs.Prog.{Mark, Wants, Does, steps_of, wants_of}
use Rattle.btr_prog.specs.Answers.{Breaks, Leaves, Names, no_part}
use Rattle.btr_prog.proofs.Runs.{steps_of-append}
use Rattle.btr_rack.specs.Out.{Adds, CallAccount, Counts}
use Rattle.btr_rack.specs.declared.error.SinkError.TheVariants as sink
use Rattle.btr_read.specs.Fate.{Fault}
use Rattle.btr_read.specs.Fate as fault
use Rattle.btr_read.specs.declared.want.Want.{Want}
use Rattle.btr_walk.specs.Reading.{UnreadBlock}
use Rattle.btr_walk.specs.declared.fault.TreeFault.TheVariants as tree
use Rattle.btr_volume.specs.declared.stop.Stop.{Stop}
use Rattle.btr_volume.specs.declared.stop.Stop.TheVariants.{NoTree, Tree, Out, Memory}
use Rattle.btr_dump.specs.Pieces.{Text}
use Rattle.btr_dump.specs.Showing.{TextRun, part, whole, PutsText, PutsAsked}
use Rattle.btr_dump.specs.Stops.{StopCounts}
use Rattle.btr_run.specs.Filesystem.{fault_answer}
use Rattle.btr_run.specs.Outcomes.{Outcome, IsNoFault, ShowsOutcome, showing}
use Rattle.btr_run.specs.Queries.Trees.{whole_answer, asked_answer, ending_answer, shown_by, call_answer}
use Rattle.btr_run.specs.declared.answer.Answer.{Answer}
use Rattle.btr_run.specs.declared.answer.Answer.TheVariants.{SinkFault, OutFault, Unread, Memory as wanted}

fault_no_out : (f : Fault) → fault_answer f ≢ OutFault
fault_no_out (fault.Lost a) e = cc
fault_no_out f e = cc

fault_no_sink : (f : Fault) → fault_answer f ≢ SinkFault
fault_no_sink (fault.Lost a) e = cc
fault_no_sink f e = cc

-- a block that can't be had is neither
pub fault_no_fault : (f : Fault) → IsNoFault (fault_answer f)
fault_no_fault f = record { no_out = fault_no_out f; no_sink = fault_no_sink f }

-- a first part of a text before more
first_part : (before rest : Text) (n : ℕ) → n ≤ length before → take n before ≡ take n (before ++ rest)
first_part before rest n le = sym (take-append-le n before rest le)

-- where no step can be done in part, none is left
pub none_left : {S : Type 0} (before : List S) (left : Option S) (rest : List (Mark Want S)) → Leaves no_part left rest → before ++ option_to_list left ≡ before
none_left before None rest leaves = append-nil before
none_left before (Some t) [] leaves = absurd leaves
none_left before (Some t) (Wants w ∷ rest) leaves = absurd leaves
none_left before (Some t) (Does s ∷ rest) leaves = absurd (cc (leaves.1))

-- what was done before a place, and perhaps a part of the piece there, is a first part of the whole text
cut_text : (ms before behind : List (Mark Want Text)) (left : Option Text) → ms ≡ before ++ behind → Leaves part left behind → (n : ℕ)
    × (whole (steps_of before ++ option_to_list left) ≡ take n (whole (steps_of ms)))
cut_text ms before behind left place leaves =
    let all : whole (steps_of ms) ≡ whole (steps_of before) ++ whole (steps_of behind) = ap (λ l. whole (steps_of l)) place
    ∙ ap whole (steps_of-append before behind) ∙ flat_map-append (λ piece. piece) (steps_of before) (steps_of behind) in
    let cut = of left behind leaves in (cut.0, cut.1 ∙ ap (take cut.0) (sym all))
  where
    text : Text
    text = whole (steps_of before)

    of : (o : Option Text) (rest : List (Mark Want Text)) → Leaves part o rest → (n : ℕ)
        × (whole (steps_of before ++ option_to_list o) ≡ take n (text ++ whole (steps_of rest)))
    of None rest leaves = (length text, ap whole (append-nil (steps_of before)) ∙ sym (take-append_seam text (whole (steps_of rest))))
    of (Some t) [] leaves = absurd leaves
    of (Some t) (Wants w ∷ rest) leaves = absurd leaves
    of (Some t) (Does s ∷ rest) leaves = (
      length text + min leaves.0 (length s),
      flat_map-append (λ piece. piece) (steps_of before) (t ∷ [])
          ∙ ap (λ l. text ++ l) (append-nil t ∙ cut_piece ∙ first_part s (whole (steps_of rest)) (min leaves.0 (length s)) (omega arith))
          ∙ sym (take-append-add text (s ++ whole (steps_of rest)) (min leaves.0 (length s))),
    )
      where
        cut_piece : t ≡ take (min leaves.0 (length s)) s
        cut_piece = let is : take leaves.0 s ≡ t = cc (leaves.1) in sym is ∙ sym (take_min leaves.0 s)

module _ {A : Type 0} (answer : A → Answer) (fine : (a : A) → IsNoFault (answer a)) (r : TextRun A) (IsOne : Outcome → Type 0)
    (one : IsOne (showing (shown_by answer r))) (old new : Option Text) (before after : CallAccount) where
  -- the answer of a run by its end is no fault of the output or of the sink
  no_fault_in : (e : Result A Fault) → IsNoFault (ending_answer answer e)
  no_fault_in (Ok a) = fine a
  no_fault_in (Err f) = fault_no_fault f

  -- all of it was put
  ended : (done : List Text) → Adds old new (whole done) → (ending : Result A Fault) → (done ≡ steps_of r.marks) × (r.ending ≡ ending) → after ≡ before
      → ShowsOutcome IsOne old new before after (ending_answer answer ending)
  ended done adds ending follows same = record {
    shown = shown_by answer r;
    is_one = one;
    no_fault = no_fault_in r.ending;
    put = record { put = Ok tt; puts = subst (λ l. Adds old new (whole l)) follows.0 adds; counts = same; due = ap (ending_answer answer) (sym follows.1) };
  }

  -- a first part of it was put, since the output failed
  failed : (done : List Text) → Adds old new (whole done) → Breaks part (λ ws. Unit {0}) r done → Counts {T = Unit {0}} before after (Err sink.Failed)
      → ShowsOutcome IsOne old new before after OutFault
  failed done adds broke counts =
      let cut = cut_text r.marks broke.before broke.behind broke.left broke.place broke.leaves in record {
        shown = shown_by answer r;
        is_one = one;
        no_fault = no_fault_in r.ending;
        put = record { put = Err sink.Failed; puts = (cut.0, subst (Adds old new) (ap whole broke.steps ∙ cut.1) adds); counts = counts; due = refl };
      }

  -- or wanted memory
  wants : (done : List Text) → Adds old new (whole done) → Breaks part (λ ws. Unit {0}) r done → Counts {T = Unit {0}} before after (Err sink.Memory)
      → ShowsOutcome IsOne old new before after wanted
  wants done adds broke counts =
      let cut = cut_text r.marks broke.before broke.behind broke.left broke.place broke.leaves in record {
        shown = shown_by answer r;
        is_one = one;
        no_fault = no_fault_in r.ending;
        put = record { put = Err sink.Memory; puts = (cut.0, subst (Adds old new) (ap whole broke.steps ∙ cut.1) adds); counts = counts; due = refl };
      }

  -- or what was put ends behind a want of a block that could not be read
  module _ (Is : UnreadBlock → Want → Type 0) (a slot : ℕ)
      (unread : (upto : List (Mark Want Text)) (rest : List (Mark Want Text)) → r.marks ≡ upto ++ rest
      → Names Is (record { addr = a; slot = slot }) (wants_of upto)
      → IsOne (showing (record { answer = Unread a slot; text = whole (steps_of upto) }))) where
    -- all up to there was put, and the answer names that block
    broken : (done : List Text) → Adds old new (whole done) → Breaks no_part (λ ws. Names Is (record { addr = a; slot = slot }) ([] ++ ws)) r done
        → after ≡ before → ShowsOutcome IsOne old new before after (Unread a slot)
    broken done adds broke same = record {
      shown = record { answer = Unread a slot; text = whole (steps_of broke.before) };
      is_one = unread broke.before broke.behind broke.place broke.holds;
      no_fault = record { no_out = λ e. cc; no_sink = λ e. cc };
      put = record {
        put = Ok tt;
        puts = subst (λ l. Adds old new (whole l))
            (broke.steps ∙ none_left (steps_of broke.before) broke.left broke.behind broke.leaves) adds;
        counts = same;
        due = refl;
      };
    }

-- the answer where a text was shown to its end is no fault of the output or of the sink
fine_whole : (u : Unit {0}) → IsNoFault (whole_answer u)
fine_whole u = record { no_out = λ e. cc; no_sink = λ e. cc }

-- nor is it where a tree was asked for, be there one or none
fine_asked : (found : Option ℕ) → IsNoFault (asked_answer found)
fine_asked None = record { no_out = λ e. cc; no_sink = λ e. cc }
fine_asked (Some id) = record { no_out = λ e. cc; no_sink = λ e. cc }

-- some kind has what a run comes to up to a block that could not be read
abbrev pub HasUnread : {A : Type 0} → (UnreadBlock → Want → Type 0) → TextRun A → (Outcome → Type 0) → Type 0
HasUnread Is r IsOne =
    (u : UnreadBlock) (upto rest : List (Mark Want Text)) → r.marks ≡ upto ++ rest → Names Is u (wants_of upto)
    → IsOne (showing (record { answer = Unread u.addr u.slot; text = whole (steps_of upto) }))

-- a call that shows a run comes to its outcome, or to a first part, up to a block that could not be read
module _ (Is : UnreadBlock → Want → Type 0) (IsOne : Outcome → Type 0) (old new : Option Text) (before after : CallAccount) where
  -- where the run shows a text and has no other value
  pub puts_come : (r : TextRun (Unit {0})) → IsOne (showing (shown_by whole_answer r)) → HasUnread Is r IsOne → (result : Result (Unit {0}) Stop)
      → PutsText Is r old new result → StopCounts before after result → ShowsOutcome IsOne old new before after (call_answer result)
  puts_come r one unread (Ok u) puts counts = ended whole_answer fine_whole r IsOne one old new before after puts.done puts.adds (Ok tt) puts.follows counts
  puts_come r one unread (Err (Tree (tree.Lost a))) puts counts = ended whole_answer fine_whole r IsOne one old new before after puts.done puts.adds
      (Err (fault.Lost a)) puts.follows counts
  puts_come r one unread (Err (Tree (tree.Unmapped a))) puts counts = ended whole_answer fine_whole r IsOne one old new before after puts.done puts.adds
      (Err (fault.Unmapped a)) puts.follows counts
  puts_come r one unread (Err (Tree (tree.Crosses a))) puts counts = ended whole_answer fine_whole r IsOne one old new before after puts.done puts.adds
      (Err (fault.Crosses a)) puts.follows counts
  puts_come r one unread (Err (Tree (tree.Malformed a))) puts counts = ended whole_answer fine_whole r IsOne one old new before after puts.done puts.adds
      (Err (fault.Malformed a)) puts.follows counts
  puts_come r one unread (Err (Tree (tree.Unread a slot))) puts counts = broken whole_answer fine_whole r IsOne one old new before after Is a slot
      (unread (record { addr = a; slot = slot })) puts.done puts.adds puts.follows counts
  puts_come r one unread (Err Out) puts counts = failed whole_answer fine_whole r IsOne one old new before after puts.done puts.adds puts.follows counts
  puts_come r one unread (Err Memory) puts counts = wants whole_answer fine_whole r IsOne one old new before after puts.done puts.adds puts.follows counts
  puts_come r one unread (Err other) puts counts = absurd puts.follows

  -- the same where a tree was asked for
  pub asked_come : (r : TextRun (Option ℕ)) → IsOne (showing (shown_by asked_answer r)) → HasUnread Is r IsOne → (result : Result (Unit {0}) Stop)
      → PutsAsked Is r old new result → StopCounts before after result → ShowsOutcome IsOne old new before after (call_answer result)
  asked_come r one unread (Ok u) puts counts = ended asked_answer fine_asked r IsOne one old new before after puts.done puts.adds (Ok None) puts.follows counts
  asked_come r one unread (Err (NoTree n)) puts counts = ended asked_answer fine_asked r IsOne one old new before after puts.done puts.adds
      (Ok (Some n)) puts.follows counts
  asked_come r one unread (Err (Tree (tree.Lost a))) puts counts = ended asked_answer fine_asked r IsOne one old new before after puts.done puts.adds
      (Err (fault.Lost a)) puts.follows counts
  asked_come r one unread (Err (Tree (tree.Unmapped a))) puts counts = ended asked_answer fine_asked r IsOne one old new before after puts.done puts.adds
      (Err (fault.Unmapped a)) puts.follows counts
  asked_come r one unread (Err (Tree (tree.Crosses a))) puts counts = ended asked_answer fine_asked r IsOne one old new before after puts.done puts.adds
      (Err (fault.Crosses a)) puts.follows counts
  asked_come r one unread (Err (Tree (tree.Malformed a))) puts counts = ended asked_answer fine_asked r IsOne one old new before after puts.done puts.adds
      (Err (fault.Malformed a)) puts.follows counts
  asked_come r one unread (Err (Tree (tree.Unread a slot))) puts counts = broken asked_answer fine_asked r IsOne one old new before after Is a slot
      (unread (record { addr = a; slot = slot })) puts.done puts.adds puts.follows counts
  asked_come r one unread (Err Out) puts counts = failed asked_answer fine_asked r IsOne one old new before after puts.done puts.adds puts.follows counts
  asked_come r one unread (Err Memory) puts counts = wants asked_answer fine_asked r IsOne one old new before after puts.done puts.adds puts.follows counts
  asked_come r one unread (Err other) puts counts = absurd puts.follows
