-- The runs of what is left of a file.
use Rattle.std.proofs.Common.{◌≡◌, ℕ, List, [], ◌∷◌, ◌++◌, Result, Ok, Err, refl, sym, ap, ◌∙◌, subst, append-nil}
use Rattle.btr_base.specs.declared.kind.SumKind.{SumKind}
use Rattle.btr_prog.specs.Prog.{Mark, Wants, Does, Return, Run, run, first, prepend, exec, after, and_then, want_marks}
use Rattle.btr_prog.specs.Thread.{go_on_run, thread_run}
use Rattle.btr_prog.specs.Answers.{Halt, Follows, no_part}
use Rattle.btr_prog.specs.Goes.{GoesTo, Goes, AfterTo, GoOnTo, ThreadsTo}
use Rattle.btr_prog.proofs.Choices.{goes_map}
use Rattle.btr_prog.proofs.Cursors.{cursor_halts}
use Rattle.btr_prog.proofs.Follow.{follows_halt}
use Rattle.btr_prog.proofs.Runs.{prepend-prepend}
use Rattle.btr_read.specs.Fate as fate
use Rattle.btr_read.specs.declared.want.Want.{Want}
use Rattle.btr_walk.specs.Le.{TreeItem}
use Rattle.btr_walk.specs.Reading.{Map, UnreadBlock}
use Rattle.btr_walk.specs.Scans.{wants}
use Rattle.btr_volume.specs.Lookup.{Program}
use Rattle.btr_files.specs.declared.progress.Source.{Source}
use Rattle.btr_files.specs.Content.{Piece}
use Rattle.btr_files.specs.Streaming.{GivenUpTo, item_pieces, zeros_to_end, EndsAt, Treats, Behind, Then}

-- a run of the items of a file's extents
abbrev pub Items : Type 0
Items = Run Want fate.Fault TreeItem (Unit {0})

-- a run of the pieces of a file
abbrev pub Pieces : Type 0
Pieces = Run Want fate.Fault Piece (Unit {0})

-- marks before what comes after
pub after_past : {S A C : Type 0} (ns ms : List (Mark Want S)) (e : Result A fate.Fault) (K : A → Run Want fate.Fault S C → Type 0)
    (q : Run Want fate.Fault S C) → AfterTo ms e K q → AfterTo (ns ++ ms) e K (prepend ns q)
after_past ns ms (Ok a) K q h = (h.0, ap (prepend ns) h.1 ∙ prepend-prepend ns ms h.0, h.2)
after_past ns ms (Err f) K q h = ap (prepend ns) h

module _ (kind : SumKind) (source : Source) (Bs : ℕ → Map) where
  -- a run of the pieces of an item
  abbrev Item : GivenUpTo → TreeItem → Run Want fate.Fault Piece (Result GivenUpTo ℕ) → Type 0
  Item g item = GoesTo Bs (item_pieces kind source g item)

  abbrev fin : GivenUpTo → Unit {0} → ℕ
  fin g u = g.at

  -- a run of the pieces of the items among some marks
  abbrev Threads : GivenUpTo → List (Mark Want TreeItem) → Result (Unit {0}) fate.Fault → Run Want fate.Fault Piece ℕ → Type 0
  Threads g ms e r = ThreadsTo Item fin g ms e r

  -- a run of the zeros up to the size
  abbrev Last : ℕ → Pieces → Type 0
  Last = EndsAt kind source Bs

  -- wants that are past before some items are past before their pieces
  threads_past : (ws : List Want) (g : GivenUpTo) (ms : List (Mark Want TreeItem)) (e : Result (Unit {0}) fate.Fault) (r : Run Want fate.Fault Piece ℕ)
      → Threads g ms e r → Threads g (wants ws ++ ms) e (prepend (want_marks ws) r)
  threads_past [] g ms e r h = h
  threads_past (w ∷ ws) g ms e r h = (prepend (want_marks ws) r, refl, threads_past ws g ms e r h)

  -- some wants are past
  pub treats_past : (ws : List Want) (g : GivenUpTo) (items : Items) (q : Pieces) → Treats kind source Bs g items q
      → Treats kind source Bs g (prepend (wants ws) items) (prepend (want_marks ws) q)
  treats_past ws g items q h = (
    prepend (want_marks ws) h.0,
    threads_past ws g items.marks items.ending h.0 h.1,
    after_past (want_marks ws) h.0.marks
        h.0.ending Last q h.2,
  )

  -- an item, by a run of its pieces
  treats_by : (g : GivenUpTo) (item : TreeItem) (items : Items) (b : Run Want fate.Fault Piece (Result GivenUpTo ℕ))
      (x : Result (Result GivenUpTo ℕ) fate.Fault)
      (q : Pieces) → Item g item b → b.ending ≡ x → AfterTo b.marks x (Behind kind source Bs items) q → Treats kind source Bs g (first (Does item) items) q
  treats_by g item items b (Ok (Ok g')) q go is h =
      let r = h.2.0 in (
        prepend b.marks r,
        (b, go, subst (λ e. AfterTo b.marks e (GoOnTo (λ g''. Threads g'' items.marks items.ending)) (prepend b.marks r)) (sym is) (r, refl, h.2.1)),
        subst (AfterTo (b.marks ++ r.marks) r.ending Last) (sym h.1) (after_past b.marks r.marks r.ending Last h.0 h.2.2),
      )
  treats_by g item items b (Ok (Err at)) q go is h =
      let r : Run Want fate.Fault Piece ℕ = run [] (Ok at) in (
        prepend b.marks r,
        (b, go, subst (λ e. AfterTo b.marks e (GoOnTo (λ g''. Threads g'' items.marks items.ending)) (prepend b.marks r)) (sym is) (r, refl, refl)),
        (h.0, h.1 ∙ ap (λ ms. prepend ms h.0) (sym (append-nil b.marks)), h.2),
      )
  treats_by g item items b (Err f) q go is h =
      let r : Run Want fate.Fault Piece ℕ = run b.marks (Err f) in (
        r,
        (b, go, subst (λ e. AfterTo b.marks e (GoOnTo (λ g''. Threads g'' items.marks items.ending)) r) (sym is) refl),
        h,
      )

  -- an item is treated by a run of the program of its pieces
  pub treats_item : (g : GivenUpTo) (item : TreeItem) (items : Items) (p : Program Piece (Result GivenUpTo ℕ)) (q : Pieces) → item_pieces kind source g item
      ≡ p → Then kind source Bs p items q → Treats kind source Bs g (first (Does item) items) q
  treats_item g item items p q e h = treats_by g item items h.0 h.0.ending q (subst (λ x. GoesTo Bs x h.0) (sym e) h.1) refl h.2

  -- no item more
  pub treats_end : (g : GivenUpTo) (q : Pieces) → Last g.at q → Treats kind source Bs g (run [] (Ok tt)) q
  treats_end g q h = (run [] (Ok g.at), refl, (q, refl, h))

  -- what is left where nothing is to come of an extent
  pub then_of : (x : Result GivenUpTo ℕ) (items : Items) (q : Pieces) → Behind kind source Bs items x q → Then kind source Bs (Return x) items q
  then_of x items q h = (run [] (Ok x), refl, (q, refl, h))

  -- where nothing is to come of an extent, what is left is what comes behind it
  pub of_then : (x : Result GivenUpTo ℕ) (items : Items) (q : Pieces) → Then kind source Bs (Return x) items q → Behind kind source Bs items x q
  of_then x items q h =
      let a = subst (λ (r : Run Want fate.Fault Piece (Result GivenUpTo ℕ)). AfterTo r.marks r.ending (Behind kind source Bs items) q) h.1 h.2 in
      subst (Behind kind source Bs items x) (sym a.1) a.2

  -- some marks of a program are past
  pub then_past : (p p' : Program Piece (Result GivenUpTo ℕ)) (ms : List (Mark Want Piece)) (items : Items) (q : Pieces)
      → ((b : Run Want fate.Fault Piece (Result GivenUpTo ℕ)) → GoesTo Bs p' b → GoesTo Bs p (prepend ms b)) → Then kind source Bs p' items q
      → Then kind source Bs p items (prepend ms q)
  then_past p p' ms items q f h = (prepend ms h.0, f h.0 h.1, after_past ms h.0.marks h.0.ending (Behind kind source Bs items) q h.2)

  -- ---- there is a run
  abbrev from : GivenUpTo → List (Mark Want TreeItem) → Result (Unit {0}) fate.Fault → Run Want fate.Fault Piece ℕ
  from g ms e = thread_run (λ g' item. exec (Bs 0) (item_pieces kind source g' item)) fin g ms e

  -- behind the pieces of an item there is a run for the other items
  some_after : (ms : List (Mark Want TreeItem)) (e : Result (Unit {0}) fate.Fault) → ((g : GivenUpTo) → Threads g ms e (from g ms e))
      → (marks : List (Mark Want Piece)) (x : Result (Result GivenUpTo ℕ) fate.Fault)
      → AfterTo marks x (GoOnTo (λ g. Threads g ms e)) (after marks x (go_on_run (λ g. from g ms e)))
  some_after ms e h marks (Ok (Ok g)) = (from g ms e, refl, h g)
  some_after ms e h marks (Ok (Err at)) = (run [] (Ok at), refl, refl)
  some_after ms e h marks (Err f) = refl

  -- any items have a run of their pieces
  some_threads : (g : GivenUpTo) (ms : List (Mark Want TreeItem)) (e : Result (Unit {0}) fate.Fault) → Threads g ms e (from g ms e)
  some_threads g [] e = refl
  some_threads g (Wants w ∷ ms) e = (from g ms e, refl, some_threads g ms e)
  some_threads g (Does item ∷ ms) e =
      let b = exec (Bs 0) (item_pieces kind source g item) in
      (b, goes_map Bs 0 (item_pieces kind source g item), some_after ms e (λ g'. some_threads g' ms e) b.marks b.ending)

  -- the run of the zeros up to the size by the first map
  abbrev last_run : ℕ → Pieces
  last_run at = exec (Bs 0) (zeros_to_end kind source at)

  -- behind any marks there is a run of the zeros up to the size
  ends_after : (ms : List (Mark Want Piece)) (x : Result ℕ fate.Fault) → AfterTo ms x Last (after ms x last_run)
  ends_after ms (Ok at) = (last_run at, refl, goes_map Bs 0 (zeros_to_end kind source at))
  ends_after ms (Err f) = refl

  -- behind an extent there is a run of what is left
  some_behind : (items : Items) (x : Result GivenUpTo ℕ) → (q : Pieces) × Behind kind source Bs items x q
  some_behind items (Ok g) =
      let r = from g items.marks items.ending in
      (and_then r last_run, (r, some_threads g items.marks items.ending, ends_after r.marks r.ending))
  some_behind items (Err at) = (last_run at, goes_map Bs 0 (zeros_to_end kind source at))

  -- behind any marks of an extent's pieces there is a run of what is left
  behind_after : (items : Items) (ms : List (Mark Want Piece)) (x : Result (Result GivenUpTo ℕ) fate.Fault)
      → AfterTo ms x (Behind kind source Bs items) (after ms x (λ y. (some_behind items y).0))
  behind_after items ms (Ok y) = ((some_behind items y).0, refl, (some_behind items y).1)
  behind_after items ms (Err f) = refl

  -- what is left has a run
  pub then_some : (p : Program Piece (Result GivenUpTo ℕ)) (items : Items) → (q : Pieces) × Then kind source Bs p items q
  then_some p items =
      let r = exec (Bs 0) p in
      (and_then r (λ y. (some_behind items y).0), (r, goes_map Bs 0 p, behind_after items r.marks r.ending))

  -- ---- what is answered without a piece
  module _ (Is : UnreadBlock → Want → Type 0) (seen : List Want) where
    -- the items came to no value
    pub treats_halts : (g : GivenUpTo) (items : Items) (h : Halt fate.Fault UnreadBlock) → Follows Is no_part seen items [] (Err h) → (q : Pieces)
        × Treats kind source Bs g items q × Follows Is no_part seen q [] (Err h)
    treats_halts g items h f =
        let c = cursor_halts Item fin (λ g' r. (from g' r.marks r.ending, some_threads g' r.marks r.ending)) Is no_part seen g items h f in
        let r = c.0 in
        (and_then r last_run, (r, c.1, ends_after r.marks r.ending), follows_halt Is no_part seen r last_run [] h c.2)

    -- what is to come of an extent came to no value
    pub then_halts : (p : Program Piece (Result GivenUpTo ℕ)) (items : Items) (h : Halt fate.Fault UnreadBlock) → Goes Is no_part seen Bs p [] (Err h)
        → (q : Pieces) × Then kind source Bs p items q × Follows Is no_part seen q [] (Err h)
    then_halts p items h g =
        let r = g.0 in (
          and_then r (λ y. (some_behind items y).0),
          (r, g.1, behind_after items r.marks r.ending),
          follows_halt Is no_part seen r
              (λ y. (some_behind items y).0) [] h g.2,
        )
