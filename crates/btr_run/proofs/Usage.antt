-- Where words go wrong: along one form of sentences, and along all.
use Rattle.std.proofs.Common.{◌≡◌, ◌⊎◌, inl, inr, ⊎_elim, Bool, true, false, cond, ℕ, ◌+◌, ◌<◌, ◌≤◌, List, [], ◌++◌, length, take, get_or, Option, Some, None}
use Rattle.std.proofs.Common.{refl, sym, ap, ◌∙◌, subst, arith, Ordering, Less, Equal, Greater, is_lt, is_le, nat_cmp}
use Rattle.std.specs.Option.{option_and_then}
use Rattle.std.proofs.Math.Nat.{eq-or-lt_of_le}
use Rattle.std.specs.Ordering.{ord_max}
use Rattle.std.proofs.lemmas.Map.Keys.{ge_from_not_lt, le_from_is_le}
use Rattle.std.proofs.lemmas.List.{append-nil, take_all}
use Rattle.btr_run.specs.Walk.{Stage, read_by, stage}
use Rattle.btr_run.specs.Words.{Begins, IsRead, IsShort, IsUsageAt, Words, nothing_of, parts_of, plan_for}
use Rattle.btr_run.specs.declared.place.Next.TheVariants as next
use Rattle.btr_run.specs.declared.place.Read.{Read}
use Rattle.btr_run.specs.declared.sentence.Sentence.{Sentence}
use Rattle.btr_run.specs.declared.sentence.Sentence.TheVariants.{Super}
use Rattle.btr_run.proofs.Apart.{numbered}
use Rattle.btr_run.proofs.Forms.{form_at, forms}
use Rattle.btr_run.proofs.Machine.{reached, reached_from, reached_stuck, step}
use Rattle.btr_run.proofs.Reading.{accepted, live, sound}

-- before the first word of a sentence
abbrev pub start : Sentence → Stage
start sentence = stage (parts_of sentence) next.Part (nothing_of sentence)

-- what the walk ends with was read
pub was_read : (sentence : Sentence) (words : Words) (here : Stage) (read : Read) → reached (start sentence) 0 words ≡ Some here
    → read_by here.next here.read ≡ Some read → IsRead sentence words read
was_read sentence words here read led is =
    sound next.Part (parts_of sentence) (nothing_of sentence) 0 words read (ap (option_and_then (λ (t : Stage). read_by t.next t.read)) led ∙ is)

-- from each place of it some words lead on
begins : (sentence : Sentence) (words : Words) (here : Stage) → reached (start sentence) 0 words ≡ Some here → (rest : Words) × (read : Read)
    × IsRead sentence (words ++ rest) read
begins sentence words here led =
    let more = live here.next here.left here.read (length words) in (
      more.0,
      more.1,
      sound next.Part (parts_of sentence) (nothing_of sentence) 0 (words ++ more.0) more.1
          (ap (option_and_then (λ (t : Stage). read_by t.next t.read)) (reached_from words more.0 (start sentence) here 0 (length words) (omega arith) led)
          ∙ more.2),
    )

-- where words lead nowhere nothing is read
nowhere : (o : Option Stage) (read : Read) → o ≡ None → option_and_then (λ (t : Stage). read_by t.next t.read) o ≡ Some read → ⊥
nowhere o read none some = cc (sym (ap (option_and_then (λ (t : Stage). read_by t.next t.read)) none) ∙ some)

-- where a word doesn't lead on, those before it, and no more, begin a sentence of this form
pub short_at : (sentence : Sentence) (words : Words) (i : ℕ) (d : List ℕ) (here : Stage) → i < length words
    → reached (start sentence) 0 (take i words) ≡ Some here
    → step here i (get_or words i d) ≡ None → IsShort sentence words i
short_at sentence words i d here lt led stuck = record {
  none = λ read is. further (length words) [] read lt (subst (λ l. IsRead sentence l read) (sym whole) is);
  within = omega (arith, lt);
  begins = begins sentence (take i words) here led;
  longest = λ n below le rest read is. further n rest read below is;
}
  where
    further : (n : ℕ) (rest : Words) (read : Read) → i < n → IsRead sentence (take n words ++ rest) read → ⊥
    further n rest read below is =
        nowhere (reached (start sentence) 0 (take n words ++ rest)) read (reached_stuck words i n d (start sentence) here lt below led stuck rest)
        (accepted (parts_of sentence) 0 (take n words ++ rest) (nothing_of sentence) read is)

    whole : take (length words) words ++ [] ≡ words
    whole = append-nil (take (length words) words) ∙ take_all (length words) words (omega arith)

-- words that end before the sentence does, all of them, begin one
pub short_end : (sentence : Sentence) (words : Words) (here : Stage) → reached (start sentence) 0 words ≡ Some here → read_by here.next here.read ≡ None
    → IsShort sentence words (length words)
short_end sentence words here led none = record {
  none = λ read is. cc (sym none ∙ sym (ap (option_and_then (λ (t : Stage). read_by t.next t.read)) led)
      ∙ accepted (parts_of sentence) 0 words (nothing_of sentence) read is);
  within = omega arith;
  begins = subst (λ l. (rest : Words) × (read : Read) × IsRead sentence (l ++ rest) read) (sym (take_all (length words) words (omega arith)))
      (begins sentence words here led);
  longest = λ n below le. absurd (omega (arith, below, le));
}

-- ---- all forms

-- the words are no sentence of one form, and no more of them than so many begin one
pub record IsNoneOf (words : Words) (longest : ℕ) (sentence : Sentence) : Type 0 where
  none : (read : Read) → IsRead sentence words read → ⊥
  over : (n : ℕ) → longest < n → n ≤ length words → (rest : Words) (read : Read) → IsRead sentence (take n words ++ rest) read → ⊥

-- where no more words than some number begin a sentence of a form, no more than a larger number do
pub none_longer : (words : Words) (a b : ℕ) (sentence : Sentence) → a ≤ b → IsNoneOf words a sentence → IsNoneOf words b sentence
none_longer words a b sentence le none = record { none = none.none; over = λ n below. none.over n (omega (arith, le, below)) }

-- words that are short of a form are none of it, and no more of them begin one
pub short_none : (words : Words) (at : ℕ) (sentence : Sentence) → IsShort sentence words at → IsNoneOf words at sentence
short_none words at sentence short = record { none = short.none; over = short.longest }

-- the words up to where they are short of a form begin a sentence
pub short_begins : (words : Words) (at : ℕ) (sentence : Sentence) → IsShort sentence words at → Begins (take at words)
short_begins words at sentence short = record {
  plan = plan_for sentence short.begins.1;
  rest = short.begins.0;
  sentence = record { sentence = sentence; read = short.begins.1; is_read = short.begins.2; plan_is = refl };
}

-- the forms before one of a number were tried: none is that of the words, and the longest beginning is so long
pub record AreTried (words : Words) (longest number : ℕ) : Type 0 where
  within : longest ≤ length words
  begin : Begins (take longest words)
  each : (k : ℕ) → k < number → IsNoneOf words longest (form_at k)

-- before any form was tried, the longest beginning is of no word
pub none_tried : (words : Words) → AreTried words 0 0
none_tried words = record {
  within = omega arith;
  begin = record {
    plan = plan_for Super first.1;
    rest = first.0;
    sentence = record { sentence = Super; read = first.1; is_read = first.2; plan_is = refl };
  };
  each = λ k lt. absurd (omega (arith, lt));
}
  where
    first : (rest : Words) × (read : Read) × IsRead Super rest read
    first = begins Super [] (start Super) refl

-- the larger of two numbers
record IsLarger (a b top : ℕ) : Type 0 where
  first : a ≤ top
  second : b ≤ top
  one : (top ≡ a) ⊎ (top ≡ b)

lt_le : (o : Ordering) → is_lt o ≡ true → is_le o ≡ true
lt_le Less e = refl
lt_le Equal e = absurd (cc e)
lt_le Greater e = absurd (cc e)

-- the maximum of two numbers is one of them, and neither is above it
larger_is : (a b : ℕ) → IsLarger a b (ord_max nat_cmp a b)
larger_is a b = of (is_lt (nat_cmp b a)) refl
  where
    of : (less : Bool) → is_lt (nat_cmp b a) ≡ less → IsLarger a b (cond less a b)
    of true e = record { first = omega arith; second = le_from_is_le b a (lt_le (nat_cmp b a) e); one = inl refl }
    of false e = record { first = ge_from_not_lt b a e; second = omega arith; one = inr refl }

-- one more
pub one_tried : (words : Words) (longest number at : ℕ) → AreTried words longest number → IsShort (form_at number) words at
    → AreTried words (ord_max nat_cmp longest at) (number + 1)
one_tried words longest number at tried short = of (ord_max nat_cmp longest at) (larger_is longest at)
  where
    of : (top : ℕ) → IsLarger longest at top → AreTried words top (number + 1)
    of top larger = record {
      within = ⊎_elim (λ is. subst (λ n. n ≤ length words) (sym is) tried.within) (λ is. subst (λ n. n ≤ length words) (sym is) short.within) larger.one;
      begin = ⊎_elim (λ is. subst (λ n. Begins (take n words)) (sym is) tried.begin)
          (λ is. subst (λ n. Begins (take n words)) (sym is) (short_begins words at (form_at number) short)) larger.one;
      each = λ k lt. ⊎_elim
          (λ (is : k ≡ number). subst (λ n. IsNoneOf words top (form_at n)) (sym is)
          (none_longer words at top (form_at number) larger.second (short_none words at (form_at number) short)))
          (λ (below : k < number). none_longer words longest top (form_at k) larger.first (tried.each k below)) (eq-or-lt_of_le (omega (arith, lt)));
    }

-- all of them
pub all_tried : (words : Words) (longest number : ℕ) → length forms ≤ number → AreTried words longest number → IsUsageAt words longest
all_tried words longest number le tried = record {
  no_sentence = λ plan s. (none s.sentence).none s.read s.is_read;
  within = tried.within;
  begins = tried.begin;
  longest = λ n below short b. (none b.sentence.sentence).over n below short b.rest b.sentence.read b.sentence.is_read;
}
  where
    none : (sentence : Sentence) → IsNoneOf words longest sentence
    none sentence = let n = numbered sentence in subst (IsNoneOf words longest) n.is (tried.each n.number (omega (arith, le, n.below)))
