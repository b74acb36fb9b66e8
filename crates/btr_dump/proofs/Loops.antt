-- The items of a cursor, each shown before the next is wanted.
use Rattle.std.proofs.Common.{◌≡◌, Bool, true, false, List, [], ◌∷◌, ◌++◌, Option, Result, Ok, Err, refl, sym, ap, ◌∙◌, subst}
use Rattle.std.proofs.lemmas.List.{append-nil, append_assoc}
use Rattle.std.proofs.lemmas.Grind.{flat_map-append}
use Rattle.btr_prog.specs.Prog.{Prog, Return, Mark, Wants, Does, Run, run, first, prepend, exec, bind, after, and_then, steps_of, wants_of, want_marks}
use Rattle.btr_prog.specs.Thread.{go_on_run, thread_run, end_of}
use Rattle.btr_prog.specs.Answers.{Halt, Follows, no_part}
use Rattle.btr_prog.specs.Goes.{AfterTo, GoOnTo, ThreadsTo}
use Rattle.btr_prog.proofs.Runs.{exec-bind, steps_of-append, wants_of-append}
use Rattle.btr_prog.proofs.Threads.{exec-thread}
use Rattle.btr_prog.proofs.Tries.{steps_of-marks, wants_of-marks}
use Rattle.btr_prog.proofs.SoFars.{threads_exec}
use Rattle.btr_prog.proofs.Cursors.{cursor_halts}
use Rattle.btr_prog.proofs.Follow.{follows_behind, follows_halt, follows_as}
use Rattle.btr_read.specs.Fate as fate
use Rattle.btr_read.specs.Store.{Blocks}
use Rattle.btr_read.specs.declared.want.Want.{Want}
use Rattle.btr_text.proofs.Writing.{wrote_nothing, wrote_then, wrote_as, cut_then, cut_as}
use Rattle.btr_walk.specs.declared.fault.TreeFault.{TreeFault}
use Rattle.btr_walk.specs.Reading.{Map, UnreadBlock, halt_of}
use Rattle.btr_walk.proofs.Marks.{behind_wants}
use Rattle.btr_volume.specs.Lookup.{Program, each}
use Rattle.btr_volume.specs.declared.stop.Stop.{Stop}
use Rattle.btr_volume.specs.declared.stop.Stop.TheVariants.{NoTree, Tree, Deletion, Balance, Missing, Image, Sink, Out, Memory}
use Rattle.btr_dump.specs.Pieces.{Text, Shown}
use Rattle.btr_dump.specs.Showing.{part, whole, TextRun, CutIn, WroteAll, ShowsText, ShowsMore, Turns}

-- the text of some pieces, and of some more, is that of all of them
whole-append : (a b : List Text) → whole (a ++ b) ≡ whole a ++ whole b
whole-append a b = flat_map-append (λ (piece : Text). piece) a b

-- no step is among some wants
steps_behind : (ws : List Want) (ms : List (Mark Want Text)) → steps_of (want_marks ws ++ ms) ≡ steps_of ms
steps_behind ws ms = steps_of-append (want_marks ws) ms ∙ ap (λ x. x ++ steps_of ms) (steps_of-marks Text ws)

-- a run after another has the first one's marks in front
pub marks_after : (ms : List (Mark Want Text)) (e : Result (Unit {0}) fate.Fault) (k : Unit {0} → TextRun (Unit {0})) → (more : List (Mark Want Text))
    × ((after ms e k).marks ≡ ms ++ more)
marks_after ms (Ok a) k = ((k a).marks, refl)
marks_after ms (Err f) k = ([], sym (append-nil ms))

-- a run that ended with its value is followed by the next one, with its own marks in front
pub value_then : (ms : List (Mark Want Text)) (e : Result (Unit {0}) fate.Fault) (k : Unit {0} → TextRun (Unit {0})) → e ≡ Ok tt → after ms e k
    ≡ prepend ms (k tt)
value_then ms e k is = ap (λ x. after ms x k) is

-- a run without marks after which the next item is to come
abbrev gone_on : Unit {0} → Run Want fate.Fault Text (Result (Unit {0}) (Unit {0}))
gone_on a = run [] (Ok (Ok a))

-- a run after which the next item is to come, and then the rest, is that run and then the rest
twice : (ms : List (Mark Want Text)) (e : Result (Unit {0}) fate.Fault) (k : Unit {0} → TextRun (Unit {0}))
    → and_then (after ms e gone_on) (go_on_run k) ≡ after ms e k
twice ms (Ok a) k = ap (λ m. prepend m (k a)) (append-nil ms)
twice ms (Err f) k = refl

module _ {X : Type 0} (show : X → Shown) (B : Map) where
  -- an item is shown, and the next is to come
  abbrev body : Unit {0} → X → Prog Want fate.Fault Text (Result (Unit {0}) (Unit {0}))
  body u x = bind (show x) (λ v. Return (Ok v))

  abbrev fin : Unit {0} → Unit {0} → Unit {0}
  fin u v = u

  -- the texts of all items, one after another
  abbrev pub shown_all : Program X (Unit {0}) → Shown
  shown_all p = each (λ u x. show x) tt p

  -- the run of the texts of the items of a run
  abbrev run_all : Run Want fate.Fault X (Unit {0}) → TextRun (Unit {0})
  run_all r = thread_run (λ u x. exec B (body u x)) fin tt r.marks r.ending

  -- the run of the texts of all items shows the items of their run
  exec_all : (p : Program X (Unit {0})) → exec B (shown_all p) ≡ run_all (exec B p)
  exec_all p = exec-thread B body fin tt p

  -- wants before some items are wants before their texts
  all_past : (ws : List Want) (r : Run Want fate.Fault X (Unit {0})) → run_all (prepend (want_marks ws) r) ≡ prepend (want_marks ws) (run_all r)
  all_past [] r = refl
  all_past (w ∷ ws) r = ap (first (Wants w)) (all_past ws r)

  -- an item is shown, and then those behind it
  all_does : (x : X) (r : Run Want fate.Fault X (Unit {0})) → run_all (first (Does x) r) ≡ and_then (exec B (show x)) (λ u. run_all r)
  all_does x r =
      ap (λ b. and_then b (go_on_run (λ u. thread_run (λ u x. exec B (body u x)) fin u r.marks r.ending))) (exec-bind B (show x) (λ v. Return (Ok v)))
      ∙ twice (exec B (show x)).marks (exec B (show x)).ending (λ u. thread_run (λ u x. exec B (body u x)) fin u r.marks r.ending)

  abbrev Exec : Unit {0} → X → Run Want fate.Fault Text (Result (Unit {0}) (Unit {0})) → Type 0
  Exec u x b = b ≡ exec B (body u x)

  -- behind the text of an item comes that of the others
  some_after : (ms : List (Mark Want X)) (e : Result (Unit {0}) fate.Fault)
      → ((u : Unit {0}) → ThreadsTo Exec fin u ms e (thread_run (λ u x. exec B (body u x)) fin u ms e))
      → (marks : List (Mark Want Text)) (y : Result (Result (Unit {0}) (Unit {0})) fate.Fault)
      → AfterTo marks y (GoOnTo (λ u. ThreadsTo Exec fin u ms e)) (after marks y (go_on_run (λ u. thread_run (λ u x. exec B (body u x)) fin u ms e)))
  some_after ms e h marks (Ok (Ok u)) = (thread_run (λ u x. exec B (body u x)) fin u ms e, refl, h u)
  some_after ms e h marks (Ok (Err y)) = (run [] (Ok y), refl, refl)
  some_after ms e h marks (Err f) = refl

  -- the run of the texts shows the items one after another
  some_all : (u : Unit {0}) (ms : List (Mark Want X)) (e : Result (Unit {0}) fate.Fault)
      → ThreadsTo Exec fin u ms e (thread_run (λ u x. exec B (body u x)) fin u ms e)
  some_all u [] e = refl
  some_all u (Wants w ∷ ms) e = (thread_run (λ u x. exec B (body u x)) fin u ms e, refl, some_all u ms e)
  some_all u (Does x ∷ ms) e = let b = exec B (body u x) in (b, refl, some_after ms e (λ v. some_all v ms e) b.marks b.ending)

  -- the cursor came to no item: what it answers is answered of what is shown
  all_halts : (Is : UnreadBlock → Want → Type 0) (seen : List Want) (p : Program X (Unit {0})) (h : Halt fate.Fault UnreadBlock)
      → Follows Is no_part seen (exec B p) [] (Err h) → Follows Is part seen (exec B (shown_all p)) [] (Err h)
  all_halts Is seen p h f =
      let g = cursor_halts Exec fin (λ u r. (thread_run (λ u x. exec B (body u x)) fin u r.marks r.ending, some_all u r.marks r.ending)) Is part seen tt
      (exec B p) h f in
      subst (λ q. Follows Is part seen q [] (Err h)) (threads_exec B body fin tt p g.0 g.1) g.2

  -- where there is no item more, nothing more is shown, and the run ends well
  all_none : (ms : List (Mark Want X)) (e : Result (Unit {0}) fate.Fault) → [] ≡ steps_of ms → e ≡ Ok tt → ([] ≡ steps_of (run_all (run ms e)).marks)
      × ((run_all (run ms e)).ending ≡ Ok tt)
  all_none [] e n h = (
    subst (λ x. [] ≡ steps_of (end_of {W = Want} {F = fate.Fault} {T = Text} fin tt x).marks) (sym h) refl,
    subst (λ x. (end_of {W = Want} {F = fate.Fault} {T = Text} fin tt x).ending ≡ Ok tt) (sym h) refl,
  )
  all_none (Wants w ∷ ms) e n h = all_none ms e n h
  all_none (Does x ∷ ms) e n h = cc

  -- the cursor came to a fault
  pub turn_halts : (Is : UnreadBlock → Want → Type 0) (seen : List Want) (p : Program X (Unit {0})) (text : Option Text) (waits : Text)
      (f : TreeFault) → Follows Is no_part seen (exec B p) [] (Err (halt_of f))
      → ShowsText {A = Unit {0}} Is seen (exec B (shown_all p)) text text waits waits (Err (Tree f))
  turn_halts Is seen p text waits f h = record { done = []; wrote = wrote_nothing text waits; follows = all_halts Is seen p (halt_of f) h }

  -- to its end
  pub turn_ends : (Is : UnreadBlock → Want → Type 0) (seen : List Want) (p : Program X (Unit {0})) (text : Option Text) (waits : Text)
      → Follows Is no_part seen (exec B p) [] (Ok tt) → ShowsText Is seen (exec B (shown_all p)) text text waits waits (Ok tt)
  turn_ends Is seen p text waits h = record {
    done = [];
    wrote = wrote_nothing text waits;
    follows = subst (λ q. Follows Is part seen q [] (Ok tt))
        (sym (exec_all p)) (all_none (exec B p).marks (exec B p).ending h.0 h.1);
  }

  -- to an item behind some wants
  module _ (p q : Program X (Unit {0})) (x : X) (past : List Want) (is : exec B p ≡ prepend (want_marks past) (first (Does x) (exec B q))) where
    -- the run of the item's text
    abbrev item : TextRun (Unit {0})
    item = exec B (show x)

    -- the run of the texts behind the item
    abbrev rest : Unit {0} → TextRun (Unit {0})
    rest u = exec B (shown_all q)

    -- what is shown are the wants before the item, its text, and the texts behind it
    met : exec B (shown_all p) ≡ prepend (want_marks past) (and_then item rest)
    met = exec_all p ∙ ap run_all is ∙ all_past past (first (Does x) (exec B q))
        ∙ ap (prepend (want_marks past)) (all_does x (exec B q) ∙ ap (λ z. and_then item (λ u. z)) (sym (exec_all q)))

    -- an item whose text was written to its end is past, with the wants before it and its own
    pub turn_moves : (On : List Want → Type 0) (Is : UnreadBlock → Want → Type 0) (seen ws : List Want) (old new : Option Text) (waited waits : Text)
        → On (seen ++ (past ++ wants_of item.marks)) → WroteAll Is ws item old new waited waits (Ok tt)
        → ShowsMore On (exec B (shown_all p)) (exec B (shown_all q)) seen old new waited waits
    turn_moves On Is seen ws old new waited waits on w = record {
      past = record {
        marks = want_marks past ++ item.marks;
        is = met ∙ ap (prepend (want_marks past)) (value_then item.marks item.ending rest w.follows.1)
            ∙ ap (λ ms. run ms (rest tt).ending) (sym (append_assoc (want_marks past) item.marks (rest tt).marks));
        wrote = wrote_as (whole (steps_of (want_marks past ++ item.marks))) (ap whole (w.follows.0 ∙ sym (steps_behind past item.marks))) w.wrote;
      };
      on = subst (λ (x : List Want). On (seen ++ x)) (sym (wants_of-append (want_marks past) item.marks
          ∙ ap (λ y. y ++ wants_of item.marks) (wants_of-marks Text past))) on;
    }

    -- the same where the item wants nothing more
    pub turn_goes : (On : List Want → Type 0) (Is : UnreadBlock → Want → Type 0) (seen ws : List Want) (old new : Option Text) (waited waits : Text)
        → wants_of item.marks ≡ [] → On (seen ++ past) → WroteAll Is ws item old new waited waits (Ok tt)
        → ShowsMore On (exec B (shown_all p)) (exec B (shown_all q)) seen old new waited waits
    turn_goes On Is seen ws old new waited waits none on w =
        turn_moves On Is seen ws old new waited waits (subst (λ (x : List Want). On (seen ++ x))
        (sym (ap (λ (y : List Want). past ++ y) none ∙ append-nil past)) on) w

    -- what halts the item's text halts what is shown from the wants before it on
    behind : (Is : UnreadBlock → Want → Type 0) (seen : List Want) (old new : Option Text) (waited waits : Text) (h : Halt fate.Fault UnreadBlock)
        → WroteAll Is (seen ++ past) item old new waited waits (Err h) → WroteAll Is seen (exec B (shown_all p)) old new waited waits (Err h)
    behind Is seen old new waited waits h w = record {
      done = w.done;
      wrote = w.wrote;
      follows = behind_wants Is seen past (exec B (shown_all p)) part (and_then item rest) w.done (Err h) met
          (follows_halt Is part (seen ++ past) item rest w.done h w.follows);
    }

    -- a refusal of the output within the item's text is one within what is shown
    cut : (old new : Option Text) (waited waits : Text) → CutIn item old new waited waits → CutIn (exec B (shown_all p)) old new waited waits
    cut old new waited waits c =
        let more = marks_after item.marks item.ending rest in
        record {
          before = want_marks past ++ c.before;
          behind = c.behind ++ more.0;
          place = ap (λ (r : TextRun (Unit {0})). r.marks) met
              ∙ ap (λ ms. want_marks past ++ ms) (more.1 ∙ ap (λ ms. ms ++ more.0) c.place ∙ append_assoc c.before c.behind more.0)
              ∙ sym (append_assoc (want_marks past) c.before (c.behind ++ more.0));
          cut = cut_as (whole (steps_of (want_marks past ++ c.before))) (ap whole (sym (steps_behind past c.before))) c.cut;
        }

    -- the item could not be shown to its end
    pub turn_stops : (Is : UnreadBlock → Want → Type 0) (seen : List Want) (old new : Option Text) (waited waits : Text) (stop : Stop)
        → ShowsText {A = Unit {0}} Is (seen ++ past) item old new waited waits (Err stop)
        → ShowsText {A = Unit {0}} Is seen (exec B (shown_all p)) old new waited waits (Err stop)
    turn_stops Is seen old new waited waits (Tree f) w = behind Is seen old new waited waits (halt_of f) w
    turn_stops Is seen old new waited waits Out w = cut old new waited waits w
    turn_stops Is seen old new waited waits Memory w = cut old new waited waits w
    turn_stops Is seen old new waited waits (NoTree n) w = absurd w
    turn_stops Is seen old new waited waits (Deletion n) w = absurd w
    turn_stops Is seen old new waited waits Balance w = absurd w
    turn_stops Is seen old new waited waits (Missing n) w = absurd w
    turn_stops Is seen old new waited waits (Image slot) w = absurd w
    turn_stops Is seen old new waited waits Sink w = absurd w

-- no turn yet
pub goes_none : (On : List Want → Type 0) (from : TextRun (Unit {0})) (seen : List Want) (text : Option Text) (waits : Text) → On seen
    → ShowsMore On from from seen text text waits waits
goes_none On from seen text waits on = record {
  past = record { marks = []; is = refl; wrote = wrote_nothing text waits };
  on = subst On (sym (append-nil seen)) on;
}

-- one turn more
pub goes_more : (On On' : List Want → Type 0) (from mid to : TextRun (Unit {0})) (seen : List Want) (old between new : Option Text)
    (waited waiting waits : Text) (g : ShowsMore On from mid seen old between waited waiting)
    → ((ws : List Want) → On ws → ShowsMore On' mid to ws between new waiting waits) → ShowsMore On' from to seen old new waited waits
goes_more On On' from mid to seen old between new waited waiting waits g turn =
    let h = turn (seen ++ wants_of g.past.marks) g.on in
    record {
      past = record {
        marks = g.past.marks ++ h.past.marks;
        is = g.past.is ∙ ap (prepend g.past.marks) h.past.is ∙ ap (λ ms. run ms to.ending) (sym (append_assoc g.past.marks h.past.marks to.marks));
        wrote = wrote_as (whole (steps_of (g.past.marks ++ h.past.marks)))
            (sym (ap whole (steps_of-append g.past.marks h.past.marks) ∙ whole-append (steps_of g.past.marks) (steps_of h.past.marks)))
            (wrote_then g.past.wrote h.past.wrote);
      };
      on = subst On' (append_assoc seen (wants_of g.past.marks) (wants_of h.past.marks)
          ∙ ap (λ x. seen ++ x) (sym (wants_of-append g.past.marks h.past.marks))) h.on;
    }

-- what is written of the rest is written of the whole
pub goes_ends : (On : List Want → Type 0) (Is Less : UnreadBlock → Want → Type 0) → ((u : UnreadBlock) (w : Want) → Is u w → Less u w)
    → (from mid : TextRun (Unit {0})) (seen : List Want) (old between new : Option Text) (waited waiting waits : Text) (result : Result (Unit {0}) Stop)
    → ShowsMore On from mid seen old between waited waiting → ((ws : List Want) → On ws → ShowsText Is ws mid between new waiting waits result)
    → ShowsText Less seen from old new waited waits result
goes_ends On Is Less weaker from mid seen old between new waited waiting waits result g rest = by result (rest (seen ++ wants_of g.past.marks) g.on)
  where
    -- what was written of the rest, behind what is past, was written of the whole
    all : (answer : Result (Unit {0}) (Halt fate.Fault UnreadBlock))
        → WroteAll Is (seen ++ wants_of g.past.marks) mid between new waiting waits answer → WroteAll Less seen from old new waited waits answer
    all answer w = record {
      done = steps_of g.past.marks ++ w.done;
      wrote = wrote_as (whole (steps_of g.past.marks ++ w.done)) (sym (whole-append (steps_of g.past.marks) w.done)) (wrote_then g.past.wrote w.wrote);
      follows = subst (λ r. Follows Less part seen r (steps_of g.past.marks ++ w.done) answer) (sym g.past.is)
          (follows_behind Less part seen g.past.marks mid w.done answer
          (follows_as Is Less weaker part (seen ++ wants_of g.past.marks) mid w.done answer w.follows));
    }

    -- a refusal of the output within the rest is one within the whole
    cut : CutIn mid between new waiting waits → CutIn from old new waited waits
    cut c = record {
      before = g.past.marks ++ c.before;
      behind = c.behind;
      place = ap (λ (r : TextRun (Unit {0})). r.marks) g.past.is ∙ ap (λ ms. g.past.marks ++ ms) c.place ∙ sym (append_assoc g.past.marks c.before c.behind);
      cut = cut_as (whole (steps_of (g.past.marks ++ c.before)))
          (sym (ap whole (steps_of-append g.past.marks c.before) ∙ whole-append (steps_of g.past.marks) (steps_of c.before))) (cut_then g.past.wrote c.cut);
    }

    by : (result : Result (Unit {0}) Stop) → ShowsText Is (seen ++ wants_of g.past.marks) mid between new waiting waits result
        → ShowsText Less seen from old new waited waits result
    by (Ok u) w = all (Ok u) w
    by (Err (Tree f)) w = all (Err (halt_of f)) w
    by (Err Out) w = cut w
    by (Err Memory) w = cut w
    by (Err (NoTree n)) w = absurd w
    by (Err (Deletion n)) w = absurd w
    by (Err Balance) w = absurd w
    by (Err (Missing n)) w = absurd w
    by (Err (Image slot)) w = absurd w
    by (Err Sink) w = absurd w

-- a loop over a cursor, wherever it began
module _ {C : Type 0} (on : Map → List Want → C → Type 0) (left : Map → Blocks → C → Shown) where
  -- some turns went on
  abbrev pub Led : Map → Blocks → Blocks → C → C → Option Text → Option Text → Text → Text → Type 0
  Led B old new c c' text text' waited waits = (seen : List Want) → on B seen c
      → ShowsMore (λ ws. on B ws c') (exec B (left B old c)) (exec B (left B new c')) seen text text' waited waits

  -- one turn more
  abbrev pub Turned : (UnreadBlock → Want → Type 0) → Map → Blocks → Blocks → C → C → Option Text → Option Text → Text → Text → Result Bool Stop → Type 0
  Turned Is B old new c c' text text' waited waits result = (seen : List Want) → on B seen c
      → Turns Is (λ ws. on B ws c') (exec B (left B old c)) (exec B (left B new c')) seen text text' waited waits result

  -- all turns
  abbrev pub Shows : (UnreadBlock → Want → Type 0) → Map → Blocks → C → Option Text → Option Text → Text → Text → Result (Unit {0}) Stop → Type 0
  Shows Is B store c text text' waited waits result = (seen : List Want) → on B seen c
      → ShowsText Is seen (exec B (left B store c)) text text' waited waits result

  module _ (B : Map) (old mid new : Blocks) (c now after : C) (begun between text : Option Text) (waited waiting waits : Text) where
    -- some turns that went on, and then one more, are some turns that went on
    pub led_more : (Is : UnreadBlock → Want → Type 0) → Led B old mid c now begun between waited waiting
        → Turned Is B mid new now after between text waiting waits (Ok true) → Led B old new c after begun text waited waits
    led_more Is led turned seen here =
        goes_more (λ ws. on B ws now) (λ ws. on B ws after) (exec B (left B old c)) (exec B (left B mid now)) (exec B (left B new after)) seen begun
        between text waited waiting waits (led seen here) turned

    module _ (Was Is : UnreadBlock → Want → Type 0) (weaker : (u : UnreadBlock) (w : Want) → Was u w → Is u w)
        (led : Led B old mid c now begun between waited waiting) where
      -- where some turns went on and then the cursor is at its end, all was shown
      pub led_ends : Turned Was B mid new now after between text waiting waits (Ok false) → Shows Is B old c begun text waited waits (Ok tt)
      led_ends turned seen here =
          goes_ends (λ ws. on B ws now) Was Is weaker (exec B (left B old c)) (exec B (left B mid now)) seen begun between text waited waiting waits
          (Ok tt) (led seen here) turned

      -- where some turns went on and then one stopped, what was shown follows the whole up to there
      pub led_stops : (stop : Stop) → Turned Was B mid new now after between text waiting waits (Err stop)
          → Shows Is B old c begun text waited waits (Err stop)
      led_stops stop turned seen here =
          goes_ends (λ ws. on B ws now) Was Is weaker (exec B (left B old c)) (exec B (left B mid now)) seen begun between text waited waiting waits
          (Err stop) (led seen here) turned
