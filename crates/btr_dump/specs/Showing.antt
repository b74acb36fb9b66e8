-- What calls that show a text answer, and what they put by then.
use Rattle.std.specs.Prelude.{◌≡◌, ℕ, ◌<◌, Bool, true, false, List, [], ◌++◌, take, Option, Some, None, IfSome, Result, Ok, Err}
use Rattle.std.specs.List.{flat_map}
use Rattle.btr_prog.specs.Prog.{Mark, Run, exec, prepend, steps_of, wants_of}
use Rattle.btr_prog.specs.Answers.{Halt, Broke, Follows}
use Rattle.btr_prog.specs.Calls.{Calls}
use Rattle.btr_rack.specs.Out.{Adds}
use Rattle.btr_rack.specs.Rack.{Seen}
use Rattle.btr_read.specs.Fate.{Fault, Agree}
use Rattle.btr_read.specs.Layout.{Layout}
use Rattle.btr_read.specs.Reading.{OnMap, shown}
use Rattle.btr_read.specs.Store.{Blocks}
use Rattle.btr_read.specs.declared.want.Want.{Want}
use Rattle.btr_read.specs.declared.want.Want.TheVariants.{Block}
use Rattle.btr_text.specs.Text.{Wrote, WasCut}
use Rattle.btr_walk.specs.Reading.{Map, UnreadBlock, TellsOf, unread_by, halt_of}
use Rattle.btr_volume.specs.declared.stop.Stop.{Stop}
use Rattle.btr_volume.specs.declared.stop.Stop.TheVariants.{NoTree, Tree, Out, Memory}
use Rattle.btr_dump.specs.Pieces.{Text, Shown}

-- what stands of a piece that was broken off after n bytes
abbrev pub part : Text → ℕ → Option Text
part text n = Some (take n text)

-- pieces one after another
abbrev pub whole : List Text → Text
whole pieces = flat_map (λ piece. piece) pieces

-- a run whose steps are pieces of a text
abbrev pub TextRun : Type 0 → Type 0
TextRun A = Run Want Fault Text A

-- what stood in the output stays, and some bytes come behind it, or none
pub record Grows (old new : Option Text) : Type 0 where
  pub more : Text
  pub adds : Adds old new more

-- pieces were put, and these and the answer follow a run; a refusal of the output may come at any place
abbrev pub StopFollows : (UnreadBlock → Want → Type 0) → TextRun (Unit {0}) → List Text → Result (Unit {0}) Stop → Type 0
StopFollows Is r done (Ok u) = Follows Is part [] r done (Ok tt)
StopFollows Is r done (Err (Tree f)) = Follows Is part [] r done (Err (halt_of f))
StopFollows Is r done (Err Out) = Follows Is part [] r done (Err Broke)
StopFollows Is r done (Err Memory) = Follows Is part [] r done (Err Broke)
StopFollows Is r done (Err stop) = ⊥

-- what was put on an output
pub record PutsText (Is : UnreadBlock → Want → Type 0) (r : TextRun (Unit {0})) (old new : Option Text) (result : Result (Unit {0}) Stop) : Type 0 where
  pub done : List Text
  pub adds : Adds old new (whole done)
  pub follows : StopFollows Is r done result

-- the same where a tree was asked for: that there isn't such a tree is the run's own value
abbrev pub AskedFollows : (UnreadBlock → Want → Type 0) → TextRun (Option ℕ) → List Text → Result (Unit {0}) Stop → Type 0
AskedFollows Is r done (Ok u) = Follows Is part [] r done (Ok None)
AskedFollows Is r done (Err (NoTree n)) = Follows Is part [] r done (Ok (Some n))
AskedFollows Is r done (Err (Tree f)) = Follows Is part [] r done (Err (halt_of f))
AskedFollows Is r done (Err Out) = Follows Is part [] r done (Err Broke)
AskedFollows Is r done (Err Memory) = Follows Is part [] r done (Err Broke)
AskedFollows Is r done (Err stop) = ⊥

-- the pieces that a call put, and its answer, follow the run of a tree that was asked for
pub record PutsAsked (Is : UnreadBlock → Want → Type 0) (r : TextRun (Option ℕ)) (old new : Option Text) (result : Result (Unit {0}) Stop) : Type 0 where
  pub done : List Text
  pub adds : Adds old new (whole done)
  pub follows : AskedFollows Is r done result

-- the candidates of the block at an address that pass are equal, where the rack tells its images
abbrev pub BlockAgreed : Layout → ℕ → Option (List (List ℕ)) → Type 0
BlockAgreed layout addr held = IfSome held (λ images. Agree images layout (Block addr))

-- so far as the calls were steady, P holds of the block map of the images
pub record TellsBlock (layout : Layout) (addr : ℕ) (old new : Seen) (P : Map → Type 0) : Type 0 where
  pub calls : Calls (BlockAgreed layout addr) (shown old) (shown new) (OnMap layout P)

-- the output refused within some first marks of a run: a first part of what
-- waited before and then of their pieces was put
pub record CutIn {A : Type 0} (r : TextRun A) (old new : Option Text) (waited waits : Text) : Type 0 where
  pub before : List (Mark Want Text)
  pub behind : List (Mark Want Text)
  pub place : r.marks ≡ before ++ behind
  pub cut : WasCut old new waited waits (whole (steps_of before))

-- pieces were written behind what waited, and these and the answer follow a run; `seen` are wants from before it
pub record WroteAll {A : Type 0} (Is : UnreadBlock → Want → Type 0) (seen : List Want) (r : TextRun A) (old new : Option Text) (waited waits : Text)
    (answer : Result A (Halt Fault UnreadBlock)) : Type 0 where
  pub done : List Text
  pub wrote : Wrote old new waited waits (whole done)
  pub follows : Follows Is part seen r done answer

-- what a call wrote
abbrev pub ShowsText : {A : Type 0} → (UnreadBlock → Want → Type 0) → List Want → TextRun A → Option Text → Option Text → Text → Text → Result A Stop → Type 0
ShowsText Is seen r old new waited waits (Ok a) = WroteAll Is seen r old new waited waits (Ok a)
ShowsText Is seen r old new waited waits (Err (Tree f)) = WroteAll Is seen r old new waited waits (Err (halt_of f))
ShowsText Is seen r old new waited waits (Err Out) = CutIn r old new waited waits
ShowsText Is seen r old new waited waits (Err Memory) = CutIn r old new waited waits
ShowsText Is seen r old new waited waits (Err stop) = ⊥

-- what a call wrote follows a program, so far as the calls over its store were steady
abbrev pub WritesShown : Blocks → Seen → Seen → Shown → Option Text → Option Text → Text → Text → Result (Unit {0}) Stop → Type 0
WritesShown store before now p old new waited waits result = TellsOf store before now (λ Is B. ShowsText Is [] (exec B p) old new waited waits result)

-- what a call put into a text follows a program, so far as the calls over its store were steady
abbrev pub PutsShown : Blocks → Seen → Seen → Shown → Option Text → Option Text → Result (Unit {0}) Stop → Type 0
PutsShown store before now p old new result = TellsOf store before now (λ Is B. PutsText Is (exec B p) old new result)

-- whatever was read, what a call wrote follows a program that wants nothing
abbrev pub WritesAlways : Shown → Option Text → Option Text → Text → Text → Result (Unit {0}) Stop → Type 0
WritesAlways p old new waited waits result =
    (layout : Layout) (before now : Seen) (seen : List Want) (B : Map) → ShowsText (unread_by layout before now) seen (exec B p) old new waited waits result

-- what was written follows a run; where what waits of it is put too, what was put follows it
abbrev pub Finishes : Option Text → Option Text → Text → Result (Unit {0}) Stop → Result (Unit {0}) Stop → Type 0
Finishes old new waits shown result =
    (layout : Layout) (before now : Seen) (r : TextRun (Unit {0})) (begun : Option Text)
    → ShowsText (unread_by layout before now) [] r begun old [] waits shown → PutsText (unread_by layout before now) r begun new result

-- some first marks are past, and their pieces were written behind what waited
pub record Past (from to : TextRun (Unit {0})) (old new : Option Text) (waited waits : Text) : Type 0 where
  pub marks : List (Mark Want Text)
  pub is : from ≡ prepend marks to
  pub wrote : Wrote old new waited waits (whole (steps_of marks))

-- a cursor goes on: some first marks are past, and it stands at a place that is known by the wants up to there
pub record ShowsMore (On : List Want → Type 0) (from to : TextRun (Unit {0})) (seen : List Want) (old new : Option Text) (waited waits : Text) : Type 0 where
  pub past : Past from to old new waited waits
  pub on : On (seen ++ wants_of past.marks)

-- one turn of a loop over a cursor: it goes on, or is at its end
abbrev pub Turns : (UnreadBlock → Want → Type 0) → (List Want → Type 0) → TextRun (Unit {0}) → TextRun (Unit {0}) → List Want → Option Text → Option Text
    → Text → Text → Result Bool Stop → Type 0
Turns Is On from to seen old new waited waits (Ok true) = ShowsMore On from to seen old new waited waits
Turns Is On from to seen old new waited waits (Ok false) = ShowsText {A = Unit {0}} Is seen from old new waited waits (Ok tt)
Turns Is On from to seen old new waited waits (Err stop) = ShowsText Is seen from old new waited waits (Err stop)

-- a cursor that goes on comes nearer to its end
abbrev pub TurnRankFalls : ℕ → ℕ → Result Bool Stop → Type 0
TurnRankFalls old new (Ok true) = new < old
TurnRankFalls old new (Ok false) = Unit {0}
TurnRankFalls old new (Err stop) = Unit {0}
