-- One page.
use Rattle.std.proofs.Common.{◌≡◌, ◌⊎◌, inl, inr, ℕ, length, take, ◌==◌, Bool, true, false, List, [], ◌∷◌, ◌++◌, Result, Ok, Err, refl, sym, ap, ◌∙◌, subst}
use Rattle.std.proofs.Common.{append_assoc, append-nil, arith}
use Rattle.std.proofs.lemmas.Bool.Decides.{nat_tests}
use Rattle.std.specs.Result.{IsErrAnd}
use Rattle.std.specs.declared.vec.Vec.{Vec}
use Rattle.btr_prog.specs.Prog.{Prog, Return, Need, Emit, run}
use Rattle.btr_prog.specs.Answers.{Broke}
use Rattle.btr_prog.specs.Goes.{Goes}
use Rattle.btr_prog.proofs.Choices.{goes_came, goes_faults, goes_unread, goes_step, goes_broke, goes_nowhere, goes_alone}
use Rattle.btr_prog_example.specs.declared.blocks.Want.{Want}
use Rattle.btr_prog_example.specs.declared.blocks.Want.TheVariants.{Page}
use Rattle.btr_prog_example.specs.declared.blocks.Stop.{Stop}
use Rattle.btr_prog_example.specs.declared.blocks.Stop.TheVariants.{Lost, Unread, Sink, Memory}
use Rattle.btr_prog_example.specs.Blocks.{IsTold, Misses, ReadsBlock}
use Rattle.btr_prog_example.specs.Rows.{Row, Bytes, End, part}
use Rattle.btr_prog_example.specs.Listing.{rows, shown}
use Rattle.btr_prog_example.specs.Answers.{halt_of, answer_of, PutsRows, PutsPage}

-- by its length, a list is empty or not
pub none_of : (xs : List ℕ) → (length xs == 0) ≡ true → xs ≡ []
none_of [] e = refl
none_of (x ∷ xs) e = let no : ⊥ = grind (arith, nat_tests) in absurd no

-- a list whose length is not 0 is not empty
pub some_of : (xs : List ℕ) → (length xs == 0) ≡ false → xs ≡ [] → ⊥
some_of [] e f = cc
some_of (x ∷ xs) e f = cc

-- what a `?` hands on is the error
pub err_is : {A E : Type 0} (r : Result A E) (e : E) → IsErrAnd r (λ x. x ≡ e) → r ≡ Err e
err_is (Ok a) e h = absurd h
err_is (Err x) e h = ap Err h

module _ (Bs : ℕ → Want → Result (List ℕ) ℕ) where
  -- a want that stops a call
  pub goes_stop : {A : Type 0} (w : Want) (k : List ℕ → Prog Want ℕ Row A) (stop : Stop) → Misses Bs w stop
      → Goes IsTold part [] Bs (Need w k) [] (Err (halt_of stop))
  goes_stop w k (Lost a) h = goes_faults Bs IsTold part [] h.0 w a k h.1
  goes_stop w k (Unread told) h = goes_unread Bs IsTold part [] 0 told w k h
  goes_stop w k Sink h = absurd h
  goes_stop w k Memory h = goes_nowhere Bs IsTold part [] 0 (Need w k)

  -- a want that stops a call leaves the rows as they were
  pub puts_stop : {A : Type 0} (w : Want) (k : List ℕ → Prog Want ℕ Row A) (old : List Row) (stop : Stop) → Misses Bs w stop
      → PutsRows Bs (Need w k) old old (Err stop)
  puts_stop w k old stop h = ([], sym (append-nil old), goes_stop w k stop h)

  -- the page's bytes came
  pub puts_came : {Z : Type 0} (page : ℕ) (v : Vec ℕ Z) (old new : List Row) (result : Result Bool Stop) → ReadsBlock Bs (Page page) (Ok v)
      → PutsPage v.items old new result → PutsRows Bs (shown page) old new result
  puts_came page v old new result h a =
      let put = a Bs in (
        put.0,
        put.1,
        goes_came Bs IsTold part [] h.0 (Page page) v.items rows put.0 (answer_of result) h.1
            (goes_alone Bs IsTold part (Page page ∷ []) (rows v.items) put.0 (answer_of result) put.2),
      )

-- the rows of a page
pub page_none : (bytes : List ℕ) (old : List Row) → bytes ≡ [] → PutsPage bytes old old (Ok false)
page_none bytes old e Bs = (
  [],
  sym (append-nil old),
  subst (λ (x : List ℕ). Goes IsTold part [] Bs (rows x) [] (Ok false)) (sym e)
      (run [] (Ok false), refl, (refl, refl)),
)

-- what comes behind the bytes of a page: its end, and that it has some
abbrev ended : Prog Want ℕ Row Bool
ended = Emit End (Return true)

-- a page whose bytes and end were put was shown
pub page_all : (bytes : List ℕ) (old mid new : List Row) → (bytes ≡ [] → ⊥) → mid ≡ old ++ (Bytes bytes ∷ []) → new ≡ mid ++ (End ∷ [])
    → PutsPage bytes old new (Ok true)
page_all [] old mid new some e f Bs = absurd (some refl)
page_all (b ∷ bs) old mid new some e f Bs = (
  Bytes (b ∷ bs) ∷ (End ∷ []),
  f ∙ (ap (λ x. x ++ (End ∷ [])) e ∙ append_assoc old (Bytes (b ∷ bs) ∷ []) (End ∷ [])),
  goes_step Bs IsTold part [] (Bytes (b ∷ bs)) ended (End ∷ []) (Ok true)
      (goes_step Bs IsTold part [] End (Return true) [] (Ok true) (run [] (Ok true), refl, (refl, refl))),
)

-- a page was broken off by the sink between its bytes and its end
pub page_bytes : (bytes : List ℕ) (old mid new : List Row) → (bytes ≡ [] → ⊥) → mid ≡ old ++ (Bytes bytes ∷ []) → new ≡ mid → PutsPage bytes old new (Err Sink)
page_bytes [] old mid new some e f Bs = absurd (some refl)
page_bytes (b ∷ bs) old mid new some e f Bs = (
  Bytes (b ∷ bs) ∷ [],
  f
      ∙ e,
  goes_step Bs IsTold part [] (Bytes (b ∷ bs)) ended [] (Err Broke) (goes_nowhere Bs IsTold part [] 0 ended),
)

-- a page was broken off by the sink in its bytes, with none or a first part of them put
pub page_part : (bytes : List ℕ) (old new : List Row) → (bytes ≡ [] → ⊥) → (new ≡ old) ⊎ ((n : ℕ) × (new ≡ old ++ (Bytes (take n bytes) ∷ [])))
    → PutsPage bytes old new (Err Sink)
page_part bytes old new some (inl g) Bs = ([], g ∙ sym (append-nil old), goes_nowhere Bs IsTold part [] 0 (rows bytes))
page_part [] old new some (inr g) Bs = absurd (some refl)
page_part (b ∷ bs) old new some (inr g) Bs = (
  Bytes (take g.0 (b ∷ bs)) ∷ [],
  g.1,
  goes_broke Bs IsTold part [] 0 (Bytes (b ∷ bs))
      (Bytes (take g.0 (b ∷ bs))) g.0 ended refl,
)
