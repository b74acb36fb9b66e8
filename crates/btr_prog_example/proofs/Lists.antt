-- All pages of a catalogue.
use Rattle.std.proofs.Common.{◌≡◌, ℕ, ◌+◌, ◌<◌, ◌≤◌, length, get_or, drop, add-one, drop-cons, Bool, true, false, List, [], ◌∷◌, ◌++◌, Result, Ok, Err, refl}
use Rattle.std.proofs.Common.{sym, ap, ◌∙◌, subst, append_assoc, append-nil}
use Rattle.std.proofs.lemmas.List.{drop_all}
use Rattle.std.specs.declared.vec.Vec.{Vec}
use Rattle.btr_prog.specs.Prog.{Mark, Wants, Does, Run, run, first, prepend, wants_of}
use Rattle.btr_prog.specs.Thread.{thread}
use Rattle.btr_prog.specs.Goes.{goes_given, GoesTo, ThreadsTo}
use Rattle.btr_prog.proofs.Choices.{with_value, goes_value}
use Rattle.btr_prog.proofs.ChoiceThreads.{goes_thread}
use Rattle.btr_prog.proofs.Follow.{follows_alone, follows_halt, follows_value}
use Rattle.btr_prog.proofs.SoFars.{SoFar, so_far_none, so_far_more, so_far_step, so_far_early, so_far_halts, so_far_ended, some_run, threads_map}
use Rattle.btr_prog_example.specs.declared.blocks.Want.{Want}
use Rattle.btr_prog_example.specs.declared.blocks.Want.TheVariants.{Catalogue}
use Rattle.btr_prog_example.specs.declared.blocks.Stop.{Stop}
use Rattle.btr_prog_example.specs.Blocks.{IsTold, Misses, ReadsBlock}
use Rattle.btr_prog_example.specs.Rows.{Row, part}
use Rattle.btr_prog_example.specs.Listing.{items, catalogue, shown, next, treat, listing}
use Rattle.btr_prog_example.specs.Answers.{halt_of, PutsRows}
use Rattle.btr_prog_example.proofs.Shows.{puts_stop}

-- a step for each page
abbrev pub does : List ℕ → List (Mark Want ℕ)
does [] = []
does (page ∷ pages) = Does page ∷ does pages

-- the result of a listing is the last page that was shown
abbrev pub fin : ℕ → Unit {0} → ℕ
fin last u = last

-- a run of showing a page, after the last one
abbrev pub Goings : (ℕ → Want → Result (List ℕ) ℕ) → ℕ → ℕ → Run Want ℕ Row (Result ℕ ℕ) → Type 0
Goings Bs last page b = GoesTo Bs (treat last page) b

-- the listing of the pages that are left
abbrev pub Left : (ℕ → Want → Result (List ℕ) ℕ) → List ℕ → ℕ → Run Want ℕ Row ℕ → Type 0
Left Bs pages last = ThreadsTo (Goings Bs) fin last (does pages) (Ok tt)

-- a run of the listing of a catalogue
abbrev pub Whole : (ℕ → Want → Result (List ℕ) ℕ) → ℕ → Run Want ℕ Row ℕ → Type 0
Whole Bs a = GoesTo Bs (listing a)

-- how far the listing has come: these pages are left, and the rows that were put are those before
pub record Far (Bs : ℕ → Want → Result (List ℕ) ℕ) (a : ℕ) (pages : List ℕ) (last : ℕ) (old now : List Row) : Type 0 where
  pub seen : List Want
  pub done : List Row
  pub rows : now ≡ old ++ done
  pub sofar : SoFar (Whole Bs a) (Left Bs pages last) seen done

module _ (Bs : ℕ → Want → Result (List ℕ) ℕ) (a : ℕ) where
  -- the run of a catalogue's pages does each page and wants nothing
  goes_items : (pages : List ℕ) → GoesTo Bs (items pages) (run (does pages) (Ok tt))
  goes_items [] = refl
  goes_items (page ∷ pages) = (run (does pages) (Ok tt), refl, goes_items pages)

  -- the catalogue came
  pub far_none : {Z : Type 0} (v : Vec ℕ Z) (old : List Row) → ReadsBlock Bs (Catalogue a) (Ok v) → Far Bs a v.items 0 old old
  far_none v old h =
      let q : Run Want ℕ ℕ (Unit {0}) = run (does v.items) (Ok tt) in
      let w : List (Mark Want Row) = Wants (Catalogue a) ∷ [] in
      let g : GoesTo Bs (catalogue a) (first (Wants (Catalogue a)) q) =
      (h.0, q, refl, subst (λ x. goes_given x (λ bytes. GoesTo Bs (items bytes)) q) (sym h.1) (goes_items v.items)) in
      record {
        seen = Catalogue a ∷ [];
        done = [];
        rows = sym (append-nil old);
        sofar = so_far_more (Whole Bs a) (Whole Bs a) (Left Bs v.items 0) [] [] w
            (λ r k. goes_thread Bs treat fin 0 (catalogue a) (first (Wants (Catalogue a)) q) (prepend w r) g (r, refl, k)) (so_far_none (Whole Bs a));
      }

  module _ (page : ℕ) (pages : List ℕ) (last : ℕ) (old now new : List Row) (f : Far Bs a (page ∷ pages) last old now) where
    -- rows that were put behind those put so far stand behind the old ones
    rows_then : (more : List Row) → new ≡ now ++ more → new ≡ old ++ (f.done ++ more)
    rows_then more e = e ∙ (ap (λ x. x ++ more) f.rows ∙ append_assoc old f.done more)

    -- a page was shown
    pub far_more : PutsRows Bs (shown page) now new (Ok true) → Far Bs a pages page old new
    far_more p =
        let r = p.2.0 in
        let b = with_value Bs (next last page) r in
        record {
          seen = f.seen ++ wants_of b.marks;
          done = f.done ++ p.0;
          rows = rows_then p.0 p.1;
          sofar = so_far_step (Goings Bs) fin (does pages) (Ok tt) IsTold part (Whole Bs a) f.seen f.done p.0 last page page b
              (goes_value Bs (next last page) (shown page) r p.2.1)
              (follows_alone IsTold part f.seen b p.0 (Ok (Ok page)) (follows_value IsTold part [] (next last page) r true p.0 p.2.2)) f.sofar;
        }

    -- a page is empty, which ends the listing
    pub far_early : PutsRows Bs (shown page) now new (Ok false) → PutsRows Bs (listing a) old new (Ok last)
    far_early p =
        let r = p.2.0 in
        let b = with_value Bs (next last page) r in (
          f.done ++ p.0,
          rows_then p.0 p.1,
          so_far_early (Goings Bs) fin (does pages) (Ok tt) IsTold part (Whole Bs a) f.seen f.done p.0 last last page b
              (goes_value Bs (next last page) (shown page) r p.2.1)
              (follows_alone IsTold part f.seen b p.0 (Ok (Err last)) (follows_value IsTold part [] (next last page) r false p.0 p.2.2)) f.sofar,
        )

    -- a page stops the listing
    pub far_stops : (stop : Stop) → PutsRows Bs (shown page) now new (Err stop) → PutsRows Bs (listing a) old new (Err stop)
    far_stops stop p =
        let r = p.2.0 in
        let b = with_value Bs (next last page) r in (
          f.done ++ p.0,
          rows_then p.0 p.1,
          so_far_halts (Goings Bs) fin (does pages) (Ok tt) IsTold part (Whole Bs a) f.seen f.done p.0 last page b (halt_of stop)
              (λ st. some_run Bs 0 treat fin st (does pages) (Ok tt)) (λ st. threads_map Bs 0 treat fin st (does pages) (Ok tt))
              (goes_value Bs (next last page) (shown page) r p.2.1)
              (follows_alone IsTold part f.seen b p.0 (Err (halt_of stop))
              (follows_halt IsTold part [] r (λ more. run [] (Ok (next last page more))) p.0 (halt_of stop) p.2.2)) f.sofar,
        )

  -- no page is left
  pub far_all : (last : ℕ) (old now : List Row) → Far Bs a [] last old now → PutsRows Bs (listing a) old now (Ok last)
  far_all last old now f = (f.done, f.rows, so_far_ended (Goings Bs) fin IsTold part (Whole Bs a) f.seen f.done last tt f.sofar)

  -- the catalogue did not come
  pub stops_at_once : (old : List Row) (stop : Stop) → Misses Bs (Catalogue a) stop → PutsRows Bs (listing a) old old (Err stop)
  stops_at_once old stop h = puts_stop Bs (Catalogue a) (λ bytes. thread treat fin 0 (items bytes)) old stop h

  -- the same by the index of a loop over the pages
  at_page : (xs : List ℕ) (i last : ℕ) (old now : List Row) → i < length xs → Far Bs a (drop i xs) last old now
      → Far Bs a (get_or xs i 0 ∷ drop (i + 1) xs) last old now
  at_page xs i last old now h f =
      let e : drop i xs ≡ get_or xs i 0 ∷ drop (i + 1) xs = rw (add-one, drop-cons xs i 0) in
      subst (λ (x : List ℕ). Far Bs a x last old now) e f

  module _ (xs : List ℕ) (i last : ℕ) (old now new : List Row) (h : i < length xs) (f : Far Bs a (drop i xs) last old now) where
    -- the page at the index was shown: the listing goes on behind it
    pub loop_more : (more : Bool) → more ≡ true → PutsRows Bs (shown (get_or xs i 0)) now new (Ok more) → Far Bs a (drop (i + 1) xs) (get_or xs i 0) old new
    loop_more true e p = far_more (get_or xs i 0) (drop (i + 1) xs) last old now new (at_page xs i last old now h f) p
    loop_more false e p = cc

    -- the page at the index is empty, which ends the listing with the last
    pub loop_early : (more : Bool) → more ≡ false → PutsRows Bs (shown (get_or xs i 0)) now new (Ok more) → PutsRows Bs (listing a) old new (Ok last)
    loop_early true e p = cc
    loop_early false e p = far_early (get_or xs i 0) (drop (i + 1) xs) last old now new (at_page xs i last old now h f) p

    -- the page at the index stops the listing
    pub loop_stops : (stop : Stop) → PutsRows Bs (shown (get_or xs i 0)) now new (Err stop) → PutsRows Bs (listing a) old new (Err stop)
    loop_stops stop p = far_stops (get_or xs i 0) (drop (i + 1) xs) last old now new (at_page xs i last old now h f) stop p

  -- the index is past the last page: the listing is whole
  pub loop_all : (xs : List ℕ) (i last : ℕ) (old now : List Row) → length xs ≤ i → Far Bs a (drop i xs) last old now → PutsRows Bs (listing a) old now (Ok last)
  loop_all xs i last old now h f = far_all last old now (subst (λ (x : List ℕ). Far Bs a x last old now) (drop_all i xs h) f)
