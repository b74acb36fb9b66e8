-- One text behind another.
use Rattle.std.proofs.Common.{List, [], ◌++◌, Option, Result, Ok, Err, ap, sym, ◌∙◌, subst, ◌≡◌}
use Rattle.std.proofs.lemmas.List.{append_assoc}
use Rattle.btr_prog.specs.Prog.{and_then, bind, exec, steps_of}
use Rattle.btr_prog.specs.Answers.{Halt, Follows}
use Rattle.btr_prog.proofs.Follow.{follows_halt, follows_alone, follows_as}
use Rattle.btr_prog.proofs.Runs.{exec-bind}
use Rattle.btr_read.specs.Fate as fate
use Rattle.btr_read.specs.declared.want.Want.{Want}
use Rattle.btr_text.proofs.Writing.{wrote_as}
use Rattle.btr_walk.specs.Reading.{Map, UnreadBlock, halt_of}
use Rattle.btr_volume.specs.declared.stop.Stop.{Stop}
use Rattle.btr_volume.specs.declared.stop.Stop.TheVariants.{NoTree, Tree, Deletion, Balance, Missing, Image, Sink, Out, Memory}
use Rattle.btr_dump.specs.Pieces.{Text, Shown}
use Rattle.btr_dump.specs.Showing.{part, whole, TextRun, CutIn, WroteAll, ShowsText, ShowsMore}
use Rattle.btr_dump.proofs.Loops.{goes_ends, marks_after, value_then}

-- what a call wrote of a run it wrote behind other wants, and in calls that began earlier
pub writes_behind : (Is Later : UnreadBlock → Want → Type 0) → ((u : UnreadBlock) (w : Want) → Later u w → Is u w)
    → (ws : List Want) (r : TextRun (Unit {0})) (old new : Option Text) (waited waits : Text) (result : Result (Unit {0}) Stop)
    → ShowsText Later [] r old new waited waits result
    → ShowsText Is ws r old new waited waits result
writes_behind Is Later weaker ws r old new waited waits result = by result
  where
    -- what was written with an answer in calls that began later
    all : (answer : Result (Unit {0}) (Halt fate.Fault UnreadBlock)) → WroteAll Later [] r old new waited waits answer
        → WroteAll Is ws r old new waited waits answer
    all answer w = record {
      done = w.done;
      wrote = w.wrote;
      follows = follows_as Later Is weaker part ws r w.done answer
          (follows_alone Later part ws r w.done answer w.follows);
    }

    by : (result : Result (Unit {0}) Stop) → ShowsText Later [] r old new waited waits result → ShowsText Is ws r old new waited waits result
    by (Ok u) w = all (Ok u) w
    by (Err (Tree f)) w = all (Err (halt_of f)) w
    by (Err Out) w = w
    by (Err Memory) w = w
    by (Err (NoTree n)) w = absurd w
    by (Err (Deletion n)) w = absurd w
    by (Err Balance) w = absurd w
    by (Err (Missing n)) w = absurd w
    by (Err (Image slot)) w = absurd w
    by (Err Sink) w = absurd w

module _ (B : Map) (p : Shown) (k : Unit {0} → Shown) where
  -- the run of the first
  abbrev front : TextRun (Unit {0})
  front = exec B p

  -- the run of the first, and then the second
  abbrev both : TextRun (Unit {0})
  both = exec B (bind p k)

  -- the run of both is that of the first, and then that of the second
  both_is : both ≡ and_then front (λ u. exec B (k u))
  both_is = exec-bind B p k

  -- where the first was written to its end, it is past, and the second is to come
  goes : (Is : UnreadBlock → Want → Type 0) (old new : Option Text) (waited waits : Text) → WroteAll Is [] front old new waited waits (Ok tt)
      → ShowsMore (λ ws. Unit {0}) both (exec B (k tt)) [] old new waited waits
  goes Is old new waited waits w = record {
    past = record {
      marks = front.marks;
      is = both_is ∙ value_then front.marks front.ending (λ u. exec B (k u)) w.follows.1;
      wrote = wrote_as (whole (steps_of front.marks)) (ap whole w.follows.0) w.wrote;
    };
    on = tt;
  }

  -- the first was written, and then the second to its end or to some place
  pub second_then : (Early Is Later : UnreadBlock → Want → Type 0) → ((u : UnreadBlock) (w : Want) → Later u w → Is u w)
      → (old mid new : Option Text) (waited between waits : Text) (result : Result (Unit {0}) Stop)
      → ShowsText {A = Unit {0}} Early [] front old mid waited between (Ok tt)
      → ShowsText Later [] (exec B (k tt)) mid new between waits result → ShowsText Is [] both old new waited waits result
  second_then Early Is Later weaker old mid new waited between waits result one two =
      goes_ends (λ ws. Unit {0}) Later Is weaker both (exec B (k tt)) [] old mid new waited between waits result
      (goes Early old mid waited between one) (λ ws on. writes_behind Later Later (λ u w is. is) ws (exec B (k tt)) mid new between waits result two)

  -- the first was written to some place
  pub first_stops : (Is : UnreadBlock → Want → Type 0) (old new : Option Text) (waited waits : Text) (stop : Stop)
      → ShowsText {A = Unit {0}} Is [] front old new waited waits (Err stop) → ShowsText {A = Unit {0}} Is [] both old new waited waits (Err stop)
  first_stops Is old new waited waits stop = by stop
    where
      -- what halts the first halts both
      halts : (h : Halt fate.Fault UnreadBlock) → WroteAll Is [] front old new waited waits (Err h) → WroteAll Is [] both old new waited waits (Err h)
      halts h w = record {
        done = w.done;
        wrote = w.wrote;
        follows = subst (λ r. Follows Is part [] r w.done (Err h)) (sym both_is)
            (follows_halt Is part [] front (λ u. exec B (k u)) w.done h w.follows);
      }

      -- a refusal of the output within the first is one within both
      cut : CutIn front old new waited waits → CutIn both old new waited waits
      cut c =
          let more = marks_after front.marks front.ending (λ u. exec B (k u)) in record {
            before = c.before;
            behind = c.behind ++ more.0;
            place = ap (λ (r : TextRun (Unit {0})). r.marks) both_is ∙ more.1 ∙ ap (λ ms. ms ++ more.0) c.place ∙ append_assoc c.before c.behind more.0;
            cut = c.cut;
          }

      by : (stop : Stop) → ShowsText {A = Unit {0}} Is [] front old new waited waits (Err stop)
          → ShowsText {A = Unit {0}} Is [] both old new waited waits (Err stop)
      by (Tree f) w = halts (halt_of f) w
      by Out w = cut w
      by Memory w = cut w
      by (NoTree n) w = absurd w
      by (Deletion n) w = absurd w
      by Balance w = absurd w
      by (Missing n) w = absurd w
      by (Image slot) w = absurd w
      by Sink w = absurd w
