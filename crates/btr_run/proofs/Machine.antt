-- What a walk over words word by word finds of them: the longest beginning that leads somewhere.
use Rattle.std.proofs.Common.{◌≡◌, ℕ, zero, suc, ◌+◌, ◌<◌, List, [], ◌∷◌, ◌++◌, length, take, get_or, Option, Some, None, refl, ap, ◌∙◌, arith}
use Rattle.std.specs.Option.{option_and_then}
use Rattle.std.proofs.lemmas.List.{append_assoc, length-take-le, take_more}
use Rattle.btr_run.specs.Walk.{Stage, behind}
use Rattle.btr_run.specs.Words.{Words}

-- the place behind one more word, the one of this number
abbrev pub step : Stage → ℕ → List ℕ → Option Stage
step s at word = behind s.next s.left s.read at word

-- where the words lead from a place, from the word of a number on
abbrev pub reached : Stage → ℕ → Words → Option Stage
reached s at [] = Some s
reached s at (word ∷ words) = option_and_then (λ next. reached next (at + 1) words) (step s at word)

-- from a place, or from none
on : (f g : Stage → Option Stage) → ((s : Stage) → f s ≡ g s) → (o : Option Stage) → option_and_then f o ≡ option_and_then g o
on f g e None = refl
on f g e (Some s) = e s

-- going on from a place, and then on from there, is one way on
and_then_twice : (f g : Stage → Option Stage) (o : Option Stage) → option_and_then (λ s. option_and_then g (f s)) o ≡ option_and_then g (option_and_then f o)
and_then_twice f g None = refl
and_then_twice f g (Some s) = refl

-- the words lead on from where the words before them led
pub reached-append : (before words : Words) (s : Stage) (at end : ℕ) → at + length before ≡ end
    → reached s at (before ++ words) ≡ option_and_then (λ next. reached next end words) (reached s at before)
reached-append [] words s at end is = ap (λ n. reached s n words) (omega (arith, is))
reached-append (word ∷ before) words s at end is =
    on (λ p. reached p (at + 1) (before ++ words)) (λ p. option_and_then (λ q. reached q end words) (reached p (at + 1) before))
    (λ p. reached-append before words p (at + 1) end (omega (arith, is))) (step s at word)
    ∙ and_then_twice (λ p. reached p (at + 1) before) (λ q. reached q end words) (step s at word)

-- behind words that led to a place the words lead on from there
pub reached_from : (before words : Words) (s next : Stage) (at end : ℕ) → at + length before ≡ end → reached s at before ≡ Some next
    → reached s at (before ++ words) ≡ reached next end words
reached_from before words s next at end is e =
    reached-append before words s at end is ∙ ap (option_and_then (λ p. reached p end words)) e

-- so many words are taken
so_many : (words : Words) (i : ℕ) → i < length words → 0 + length (take i words) ≡ i
so_many words i lt = omega (arith, length-take-le i words (omega (arith, lt)))

-- one more word
pub reached_more : (words : Words) (i : ℕ) (d : List ℕ) (s here next : Stage) → i < length words → reached s 0 (take i words) ≡ Some here
    → step here i (get_or words i d) ≡ Some next → reached s 0 (take (i + 1) words) ≡ Some next
reached_more words i d s here next lt led more =
    ap (reached s 0) (take_more words i d lt) ∙ reached_from (take i words) (get_or words i d ∷ []) s here 0 i (so_many words i lt) led
    ∙ ap (option_and_then (λ p. reached p (i + 1) [])) more

-- the words at and behind one that a longer beginning has
cut : (words : Words) (i n : ℕ) (d : List ℕ) → i < length words → i < n → (more : Words) × (take n words ≡ take i words ++ get_or words i d ∷ more)
cut [] i n d lt below = absurd (omega arith)
cut (word ∷ words) i zero d lt below = absurd (omega arith)
cut (word ∷ words) zero (suc n) d lt below = (take n words, refl)
cut (word ∷ words) (suc i) (suc n) d lt below = let of = cut words i n d (omega arith) (omega arith) in (of.0, ap (λ l. word ∷ l) of.1)

-- no word more
pub reached_stuck : (words : Words) (i n : ℕ) (d : List ℕ) (s here : Stage) → i < length words → i < n → reached s 0 (take i words) ≡ Some here
    → step here i (get_or words i d) ≡ None → (rest : Words) → reached s 0 (take n words ++ rest) ≡ None
reached_stuck words i n d s here lt below led stuck rest =
    let of = cut words i n d lt below in
    ap (λ l. reached s 0 (l ++ rest)) of.1 ∙ ap (reached s 0) (append_assoc (take i words) (get_or words i d ∷ of.0) rest)
    ∙ reached_from (take i words) (get_or words i d ∷ (of.0 ++ rest)) s here 0 i (so_many words i lt) led
    ∙ ap (option_and_then (λ p. reached p (i + 1) (of.0 ++ rest))) stuck
