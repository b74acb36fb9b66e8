-- Words are a sentence of one form at most.
use Rattle.std.proofs.Common.{◌≡◌, ◌⊎◌, inl, inr, ⊎_elim, ℕ, ◌+◌, ◌<◌, Bool, true, false, not, cond, List, [], ◌∷◌, ◌++◌, length, refl, sym, ap, ◌∙◌, subst}
use Rattle.std.proofs.Common.{ap₂, arith, eqb, eqb-true, ltb, ltb-true, zero, suc}
use Rattle.std.specs.Prelude.{◌||◌, codes}
use Rattle.std.specs.Bool.{Decides}
use Rattle.std.specs.Str.{bytes_eq}
use Rattle.std.proofs.Math.Nat.{eq-or-lt_of_le}
use Rattle.std.proofs.lemmas.Slice.Eq.{bytes_eq-Decides}
use Rattle.btr_run.specs.Restores.{OneOption, Root, Snapshots, Verbose, Dry, Salvage, options_words}
use Rattle.btr_run.specs.Words.{Destination, File, IsRead, IsSentence, Number, Part, ReadsParts, TakesDestination, Volume, Word, Words, is_name, nothing_of}
use Rattle.btr_run.specs.Words.{parts_of, plan_for}
use Rattle.btr_run.specs.declared.place.Read.{Read}
use Rattle.btr_run.specs.declared.plan.Plan.{Plan}
use Rattle.btr_run.specs.declared.sentence.Sentence.{Sentence}
use Rattle.btr_run.specs.declared.sentence.Sentence.TheVariants.{Super}
use Rattle.btr_run.proofs.Forms.{form_at, forms}
use Rattle.btr_run.proofs.Reading.{accepted, same_word}

-- the word of an option
abbrev is_option : List ℕ → Bool
is_option word = bytes_eq word (codes "-r") || bytes_eq word (codes "-s") || bytes_eq word (codes "-v") || bytes_eq word (codes "-D") || bytes_eq word
    (codes "-i")

-- some parts may begin with this word
abbrev may_begin : List Part → List ℕ → Bool
may_begin [] word = is_name word
may_begin (Word this ∷ left) word = bytes_eq word this
may_begin (Number ∷ left) word = true
may_begin (File ∷ left) word = true
may_begin (Volume ∷ left) word = true
may_begin (Destination ∷ left) word = is_name word || is_option word

-- no words are of both
abbrev apart : List Part → List Part → Bool
apart [] q = false
apart (Word a ∷ p) [] = not (may_begin [] a)
apart (Word a ∷ p) (Word b ∷ q) = cond (bytes_eq a b) (apart p q) true
apart (Word a ∷ p) (Number ∷ q) = false
apart (Word a ∷ p) (File ∷ q) = false
apart (Word a ∷ p) (Volume ∷ q) = false
apart (Word a ∷ p) (Destination ∷ q) = not (may_begin (Destination ∷ q) a)
apart (Number ∷ p) q = false
apart (File ∷ p) q = false
apart (Volume ∷ p) q = false
apart (Destination ∷ p) q = false

-- the first word is one that may begin them
pub record BeginsSo (parts : List Part) (words : Words) : Type 0 where
  pub word : List ℕ
  pub more : Words
  pub are : words ≡ word ∷ more
  may : may_begin parts word ≡ true

-- the first word of options, and of a destination
destination_begins : (left : List Part) (options : List OneOption) (name : List ℕ) (rest : Words) → is_name name ≡ true
    → BeginsSo (Destination ∷ left) (options_words options ++ name ∷ [] ++ rest)
destination_begins left [] name rest is = record { word = name; more = rest; are = refl; may = ap (λ b. b || is_option name) is }
destination_begins left (Root id ∷ options) name rest is = record { word = codes "-r"; more = _; are = refl; may = refl }
destination_begins left (Snapshots ∷ options) name rest is = record { word = codes "-s"; more = _; are = refl; may = refl }
destination_begins left (Verbose ∷ options) name rest is = record { word = codes "-v"; more = _; are = refl; may = refl }
destination_begins left (Dry ∷ options) name rest is = record { word = codes "-D"; more = _; are = refl; may = refl }
destination_begins left (Salvage ∷ options) name rest is = record { word = codes "-i"; more = _; are = refl; may = refl }

-- words that some parts take begin with a word that may begin these parts
pub begins_so : (parts : List Part) (at : ℕ) (words : Words) (old new : Read) → ReadsParts parts at words old new → BeginsSo parts words
begins_so [] at [] old new reads = absurd reads.0
begins_so [] at (first ∷ more) old new reads = record { word = first; more = more; are = refl; may = reads.0 0 first (omega arith) }
begins_so (Word this ∷ left) at words old new reads =
    record { word = this; more = reads.1; are = reads.3 ∙ ap (λ t. t ++ reads.1) reads.4.0; may = same_word this }
begins_so (File ∷ left) at words old new reads =
    record { word = reads.4.0; more = reads.1; are = reads.3 ∙ ap (λ t. t ++ reads.1) reads.4.2; may = refl }
begins_so (Volume ∷ left) at words old new reads = record { word = reads.1; more = []; are = reads.4; may = refl }
begins_so (Number ∷ left) at words old new reads =
    record { word = reads.4.1; more = reads.1; are = reads.3 ∙ ap (λ t. t ++ reads.1) reads.4.3; may = refl }
begins_so (Destination ∷ left) at words old new reads =
    subst (BeginsSo (Destination ∷ left)) (sym (reads.3 ∙ ap (λ t. t ++ reads.1) d.words_are)) (destination_begins left d.options d.name reads.1 d.named)
  where
    d : TakesDestination at reads.0 old reads.2
    d = reads.4

-- a word that begins one and not the other
first_apart : (a : List ℕ) (rest : Words) (q : List Part) (words : Words) → words ≡ a ∷ rest → BeginsSo q words → not (may_begin q a) ≡ true → ⊥
first_apart a rest q words are begins none = of (may_begin q a) (ap (may_begin q) same ∙ begins.may) none
  where
    same : a ≡ begins.word
    same = cc (sym are ∙ begins.are)

    of : (b : Bool) → b ≡ true → not b ≡ true → ⊥
    of true e f = absurd (cc f)
    of false e f = absurd (cc e)

-- no words are taken by both of two lists of parts that are apart
never_both : (p q : List Part) → apart p q ≡ true → (at other : ℕ) (words : Words) (old new old' new' : Read)
    → ReadsParts p at words old new → ReadsParts q other words old' new' → ⊥
never_both [] q is at other words old new old' new' a b = absurd (cc is)
never_both (Number ∷ p) q is at other words old new old' new' a b = absurd (cc is)
never_both (File ∷ p) q is at other words old new old' new' a b = absurd (cc is)
never_both (Destination ∷ p) q is at other words old new old' new' a b = absurd (cc is)
never_both (Volume ∷ p) q is at other words old new old' new' a b = absurd (cc is)
never_both (Word this ∷ p) [] is at other words old new old' new' a b =
    first_apart this a.1 [] words (a.3 ∙ ap (λ t. t ++ a.1) a.4.0) (begins_so [] other words old' new' b) is
never_both (Word this ∷ p) (Number ∷ q) is at other words old new old' new' a b = absurd (cc is)
never_both (Word this ∷ p) (File ∷ q) is at other words old new old' new' a b = absurd (cc is)
never_both (Word this ∷ p) (Volume ∷ q) is at other words old new old' new' a b = absurd (cc is)
never_both (Word this ∷ p) (Destination ∷ q) is at other words old new old' new' a b =
    first_apart this a.1 (Destination ∷ q) words (a.3 ∙ ap (λ t. t ++ a.1) a.4.0) (begins_so (Destination ∷ q) other words old' new' b) is
never_both (Word this ∷ p) (Word that ∷ q) is at other words old new old' new' a b =
    of (bytes_eq this that) (bytes_eq-Decides this that) is
    (λ e. never_both p q e (at + length a.0) (other + length b.0) a.1 a.2 new b.2 new' a.5
    (subst (λ l. ReadsParts q (other + length b.0) l b.2 new') (sym rests) b.5))
  where
    both : this ∷ a.1 ≡ that ∷ b.1
    both = sym (a.3 ∙ ap (λ t. t ++ a.1) a.4.0) ∙ b.3 ∙ ap (λ t. t ++ b.1) b.4.0

    rests : a.1 ≡ b.1
    rests = cc both

    of : (same : Bool) → Decides same (this ≡ that) → cond same (apart p q) true ≡ true → (apart p q ≡ true → ⊥) → ⊥
    of true d e more = more e
    of false d e more = absurd (cc (d.1 (cc both)))

-- ---- all forms

-- two forms are one, or no words are of both
abbrev are_apart : Sentence → Sentence → Bool
are_apart s t = apart (parts_of s) (parts_of t) || apart (parts_of t) (parts_of s)

-- a form has a number
pub record IsNumbered (sentence : Sentence) : Type 0 where
  pub number : ℕ
  pub below : number < length forms
  pub is : form_at number ≡ sentence

-- the place of the first form that isn't apart from one, which is its own
abbrev place_of : Sentence → List Sentence → ℕ
place_of s [] = 0
place_of s (t ∷ ts) = cond (are_apart s t) (suc (place_of s ts)) 0

-- each number below the count of forms is that of a form
by_number : (n : ℕ) → ltb n (length forms) ≡ true → IsNumbered (form_at n)
by_number n lt = record { number = n; below = ltb-true n (length forms) lt; is = refl }

-- each form has a number
pub numbered : (sentence : Sentence) → IsNumbered sentence
numbered Super = by_number (place_of Super forms) refl
numbered sentence = by_number (place_of sentence forms) refl

-- a test of all numbers below some
abbrev all_below : ℕ → (ℕ → Bool) → Bool
all_below zero p = true
all_below (suc n) p = cond (p n) (all_below n p) false

-- what holds by the test of all numbers below some holds of each of them
each_below : (n : ℕ) (p : ℕ → Bool) → all_below n p ≡ true → (k : ℕ) → k < n → p k ≡ true
each_below zero p all k lt = absurd (omega (arith, lt))
each_below (suc n) p all k lt = of (p n) refl all (λ rest below. each_below n p rest k below)
  where
    of : (b : Bool) → p n ≡ b → cond b (all_below n p) false ≡ true → (all_below n p ≡ true → k < n → p k ≡ true) → p k ≡ true
    of true e f more = ⊎_elim (λ (same : k ≡ n). ap p same ∙ e) (λ (below : k < n). more f below) (eq-or-lt_of_le (omega (arith, lt)))
    of false e f more = absurd (cc f)

-- any two forms with different numbers are apart
all_apart : all_below (length forms) (λ i. all_below (length forms) (λ j. eqb i j || are_apart (form_at i) (form_at j))) ≡ true
all_apart = refl

-- any two forms are the same, or apart
same_or_apart : (s t : Sentence) → (s ≡ t) ⊎ (are_apart s t ≡ true)
same_or_apart s t =
    of (eqb a.number b.number) refl
    (each_below (length forms) (λ j. eqb a.number j || are_apart (form_at a.number) (form_at j))
    (each_below (length forms) (λ i. all_below (length forms) (λ j. eqb i j || are_apart (form_at i) (form_at j))) all_apart a.number a.below) b.number b.below)
  where
    a : IsNumbered s
    a = numbered s

    b : IsNumbered t
    b = numbered t

    of : (same : Bool) → eqb a.number b.number ≡ same → (same || are_apart (form_at a.number) (form_at b.number)) ≡ true → (s ≡ t) ⊎ (are_apart s t ≡ true)
    of true e f = inl (sym a.is ∙ ap form_at (eqb-true a.number b.number e) ∙ b.is)
    of false e f = inr (sym (ap₂ are_apart a.is b.is) ∙ f)

-- words are of one form
one_form : (words : Words) (s t : Sentence) (read other : Read) → IsRead s words read → IsRead t words other → s ≡ t
one_form words s t read other a b = ⊎_elim (λ same. same) (λ far. absurd (of (apart (parts_of s) (parts_of t)) refl far)) (same_or_apart s t)
  where
    of : (one : Bool) → apart (parts_of s) (parts_of t) ≡ one → (one || apart (parts_of t) (parts_of s)) ≡ true → ⊥
    of true e f = never_both (parts_of s) (parts_of t) e 0 0 words (nothing_of s) read (nothing_of t) other a b
    of false e f = never_both (parts_of t) (parts_of s) f 0 0 words (nothing_of t) other (nothing_of s) read b a

-- words are read in one way
one_reading : (words : Words) (s : Sentence) (read other : Read) → IsRead s words read → IsRead s words other → read ≡ other
one_reading words s read other a b =
    cc (sym (accepted (parts_of s) 0 words (nothing_of s) read a) ∙ accepted (parts_of s) 0 words (nothing_of s) other b)

-- the words have one plan
pub one_plan : (words : Words) (plan other : Plan) → IsSentence plan words → IsSentence other words → plan ≡ other
one_plan words plan other a b =
    let form = one_form words a.sentence b.sentence a.read b.read a.is_read b.is_read in
    let again : IsRead b.sentence words a.read = subst (λ s. IsRead s words a.read) form a.is_read in
    a.plan_is ∙ ap (λ s. plan_for s a.read) form ∙ ap (plan_for b.sentence) (one_reading words b.sentence a.read b.read again b.is_read) ∙ sym b.plan_is
