-- Calls one after another, each of which does what a program says.
use Rattle.std.proofs.Common.{◌≡◌, ℕ, List, [], ◌∷◌, ◌++◌, Option, Some, None, Result, Ok, Err, refl, sym, ap, ◌∙◌, append_assoc}
use Rattle.std.specs.Prelude.{fold}
use Rattle.btr_prog.specs.Answers.{Halt}
use Rattle.btr_prog.specs.Goes.{Goes}
use Rattle.btr_prog.specs.Prog.{Prog, bind, wants_of}
use Rattle.btr_prog.proofs.Choices.{goes_then, goes_halt, goes_alone}
use Rattle.btr_rack.specs.Sink.{Sink}
use Rattle.btr_read.specs.Fate.{Fault}
use Rattle.btr_walk.specs.Reading.{UnreadBlock, unread_by}
use Rattle.btr_volume.specs.Lookup.{Program}
use Rattle.btr_restore.specs.Outcome.{text_in, text_of}
use Rattle.btr_restore.specs.Restoring.{sink_after, text_after, Emits}
use Rattle.btr_listing.specs.Step.{Step, part}

-- the steps of two calls
pub fold-append : {A B : Type 0} (f : A → B → A) (a : A) (xs ys : List B) → fold f a (xs ++ ys) ≡ fold f (fold f a xs) ys
fold-append f a [] ys = refl
fold-append f a (x ∷ xs) ys = fold-append f (f a x) xs ys

text_of-append : (xs ys : List Step) → text_of (xs ++ ys) ≡ text_of xs ++ text_of ys
text_of-append [] ys = refl
text_of-append (x ∷ xs) ys = ap (λ t. text_in x ++ t) (text_of-append xs ys) ∙ sym (append_assoc (text_in x) (text_of xs) (text_of ys))

-- what some steps and then more do to the text of an output is what all of them do in a row
pub text_then : (told : Option (List ℕ)) (xs ys : List Step) → text_after (text_after told xs) ys ≡ text_after told (xs ++ ys)
text_then None xs ys = refl
text_then (Some text) xs ys = ap Some (append_assoc text (text_of xs) (text_of ys) ∙ ap (λ t. text ++ t) (sym (text_of-append xs ys)))

-- one run after another, whichever want could not be read
module _ {W F A C U : Type 0} {I : Type 0} (Bs : I → W → Result (List ℕ) F) (One Is : U → W → Type 0) (p : Prog W F Step A) (k : A → Prog W F Step C) where
  -- what was done by a program that came to a value, and then by the next, is what both do in a row
  pub goes_on : (a : A) (done more : List Step) (ans : Result C (Halt F U)) → Goes One part [] Bs p done (Ok a) → Goes Is part [] Bs (k a) more ans
      → Goes Is part [] Bs (bind p k) (done ++ more) ans
  goes_on a done more ans h g = goes_then Bs Is part [] p k h.0 a done more ans h.1 h.2 (goes_alone Bs Is part (wants_of h.0.marks) (k a) more ans g)

module _ {A C : Type 0} (p : Program Step A) (k : A → Program Step C) (s s' s'' : Sink) (told told' told'' : Option (List ℕ)) where
  -- calls that read nothing, one after another, did the steps of their programs in a row
  pub emits_then : (a : A) (answer : Result C (Halt Fault UnreadBlock)) → Emits p s s' told told' (Ok a) → Emits (k a) s' s'' told' told'' answer
      → Emits (bind p k) s s'' told told'' answer
  emits_then a answer h g = record {
    done = h.done ++ g.done;
    sink = g.sink ∙ (ap (λ x. fold sink_after x g.done) h.sink ∙ sym (fold-append sink_after s h.done g.done));
    text = g.text ∙ (ap (λ x. text_after x g.done) h.text ∙ text_then told h.done g.done);
    goes = λ layout old new Bs. goes_on Bs (unread_by layout old new) (unread_by layout old new) p k a h.done g.done answer (h.goes layout old new Bs)
        (g.goes layout old new Bs);
  }

  -- a call that reads nothing and was halted did what its program and another behind it do
  pub emits_halt : (halt : Halt Fault UnreadBlock) → Emits p s s' told told' (Err halt) → Emits (bind p k) s s' told told' (Err halt)
  emits_halt halt h = record {
    done = h.done;
    sink = h.sink;
    text = h.text;
    goes = λ layout old new Bs. goes_halt Bs (unread_by layout old new) part [] p k 0 h.done halt (h.goes layout old new Bs);
  }
