-- What a sentence asks for fits its command: the words that it cites are there, the one that names a file is such a name, a volume can be made, and a
-- self-test names no image.
use Rattle.std.proofs.Common.{◌≡◌, ◌⊎◌, inl, inr, ⊎_elim, ℕ, ◌+◌, Bool, true, false, not, List, [], ◌∷◌, ◌++◌, length, get_or, refl, sym, ap, ◌∙◌}
use Rattle.std.proofs.Common.{◌<◌, ◌≤◌, subst, arith}
use Rattle.std.specs.Prelude.{◌&&◌, nat_le}
use Rattle.std.proofs.lemmas.Bool.Decides.{nat_tests}
use Rattle.std.proofs.lemmas.List.{append_assoc, length-append, length-drop}
use Rattle.std.proofs.Math.Seq.{get_or-append_seam}
use Rattle.btr_rack.specs.Name.{is_bad}
use Rattle.btr_send.specs.Names.{IsStreamName}
use Rattle.btr_run.specs.Commands.{IsFit}
use Rattle.btr_run.specs.Queries.{IsQueryFit}
use Rattle.btr_run.specs.Restores.{plan_by}
use Rattle.btr_run.specs.Words.{Destination, File, IsSentence, Number, Part, ReadsParts, TakesDestination, Word, Words, command_of, is_file, is_name}
use Rattle.btr_run.specs.Words.{nothing_of}
use Rattle.btr_run.specs.Words.{Volume, images_of, is_volume, parts_of, restore_of}
use Rattle.btr_run.specs.Images.{most_images}
use Rattle.btr_run.specs.declared.plan.Command.TheVariants as command
use Rattle.btr_run.specs.declared.place.Read.{Read}
use Rattle.btr_run.specs.declared.plan.Plan.{Plan}
use Rattle.btr_run.specs.declared.sentence.Sentence.{Sentence}
use Rattle.btr_run.specs.declared.sentence.Sentence.TheVariants.{Restore, Send, SelfTest}
use Rattle.btr_run.proofs.Cited.{AreThere, are_there}

-- the word of this number names a file
abbrev IsFileAt : Words → ℕ → Type 0
IsFileAt whole n = is_file (get_or whole n []) ≡ true

-- a file is named among some parts
abbrev HasFile : List Part → Type 0
HasFile [] = ⊥
HasFile (Word this ∷ left) = HasFile left
HasFile (Number ∷ left) = HasFile left
HasFile (Destination ∷ left) = HasFile left
HasFile (File ∷ left) = Unit {0}
HasFile (Volume ∷ left) = ⊥

-- a file is named among some parts, or was named before them
abbrev IsNamed : Words → List Part → Read → Type 0
IsNamed whole left read = HasFile left ⊎ IsFileAt whole read.file

-- behind one part
module _ (whole before taken rest words : Words) (at : ℕ) (place : at ≡ length before) (is : whole ≡ before ++ words) (split : words ≡ taken ++ rest) where
  -- the words behind a part have the number behind its own
  next_place : at + length taken ≡ length (before ++ taken)
  next_place = omega (arith, place, length-append before taken)

  -- they are what is left of all words behind those before and the part's own
  next_is : whole ≡ (before ++ taken) ++ rest
  next_is = is ∙ ap (λ l. before ++ l) split ∙ sym (append_assoc before taken rest)

-- a word behind some others has their count as its number
word_there : (whole before : Words) (word : List ℕ) (rest : Words) (at : ℕ) → at ≡ length before → whole ≡ before ++ word ∷ rest → get_or whole at [] ≡ word
word_there whole before word rest at place is = ap (λ n. get_or whole n []) place ∙ ap (λ l. get_or l (length before) []) is
    ∙ get_or-append_seam before word rest []

-- behind parts that name a file, or before which one was named, the word of its number is such a name
file_named : (whole before : Words) (left : List Part) (at : ℕ) (words : Words) (old new : Read) → at ≡ length before → whole ≡ before ++ words
    → ReadsParts left at words old new
    → IsNamed whole left old → IsFileAt whole new.file
file_named whole before [] at words old new place is reads named =
    ⊎_elim (λ none. absurd none) (λ there. subst (IsFileAt whole) (sym (ap (λ (r : Read). r.file) reads.1)) there) named
file_named whole before (Word this ∷ left) at words old new place is reads named =
    file_named whole (before ++ reads.0) left (at + length reads.0) reads.1 reads.2 new (next_place whole before reads.0 reads.1 words at place is reads.3)
    (next_is whole before reads.0 reads.1 words at place is reads.3) reads.5 (subst (IsNamed whole left) (sym reads.4.1) named)
file_named whole before (Number ∷ left) at words old new place is reads named =
    file_named whole (before ++ reads.0) left (at + length reads.0) reads.1 reads.2 new (next_place whole before reads.0 reads.1 words at place is reads.3)
    (next_is whole before reads.0 reads.1 words at place is reads.3) reads.5 (subst (IsNamed whole left) (sym reads.4.4) named)
file_named whole before (Destination ∷ left) at words old new place is reads named =
    file_named whole (before ++ reads.0) left (at + length reads.0) reads.1 reads.2 new (next_place whole before reads.0 reads.1 words at place is reads.3)
    (next_is whole before reads.0 reads.1 words at place is reads.3) reads.5 (subst (IsNamed whole left) (sym d.read_is) named)
  where
    d : TakesDestination at reads.0 old reads.2
    d = reads.4
file_named whole before (File ∷ left) at words old new place is reads named =
    file_named whole (before ++ reads.0) left (at + length reads.0) reads.1 reads.2 new (next_place whole before reads.0 reads.1 words at place is reads.3)
    (next_is whole before reads.0 reads.1 words at place is reads.3) reads.5 (inr (subst (λ (r : Read). IsFileAt whole r.file) (sym reads.4.3) here))
  where
    here : IsFileAt whole at
    here =
        ap is_file (word_there whole before reads.4.0 reads.1 at place (is ∙ ap (λ l. before ++ l) (reads.3 ∙ ap (λ t. t ++ reads.1) reads.4.2)))
        ∙ reads.4.1
file_named whole before (Volume ∷ left) at words old new place is reads named =
    ⊎_elim (λ none. absurd none) (λ there. subst (IsFileAt whole) (sym (ap (λ (r : Read). r.file) reads.5)) there) named

pub both : (a b : Bool) → (a && b) ≡ true → (a ≡ true) × (b ≡ true)
both true b e = (refl, e)
both false b e = absurd (cc e)

not_true : (b : Bool) → not b ≡ true → b ≡ false
not_true true e = absurd (cc e)
not_true false e = refl

-- such a word is the name of a stream's file
stream_name : (word : List ℕ) → is_file word ≡ true → IsStreamName word
stream_name word is =
    let tests = both (not (is_bad word)) (nat_le (length word) 255) (both (is_name word) (not (is_bad word) && nat_le (length word) 255) is).1 in
    (not_true (is_bad word) tests.0, grind (arith, nat_tests, tests.1))

-- a volume can be made of so many directories
volume_size : (n : ℕ) → is_volume n ≡ true → (1 ≤ n) × (n ≤ 1000)
volume_size n is = let tests = both (nat_le 1 n) (nat_le n 1000) is in (grind (arith, nat_tests, tests.0), grind (arith, nat_tests, tests.1))

-- of each form, what its command asks for of the words that were read is so
named : (sentence : Sentence) (words : Words) (read : Read) → AreThere read (length words)
    → ReadsParts (parts_of sentence) 0 words (nothing_of sentence) read → IsFit (command_of sentence read) words
named Restore words read there is = of read.options.salvage
  where
    of : (salvage : Bool) → IsQueryFit (restore_of salvage read.name (plan_by read.options)) words
    of true = (there.0, refl)
    of false = there.0
named Send words read there is = (
  there.0,
  there.1,
  stream_name (get_or words read.file []) (file_named words [] (parts_of Send) 0 words (nothing_of Send) read refl refl is (inl tt)),
)
named SelfTest words read there is = subst (λ n. (1 ≤ n) × (n ≤ 1000)) (sym (ap (λ (r : Read). r.number) is.5.5)) (volume_size is.5.0 is.5.3)
named sentence words read there is = tt

-- what a command asks for of its words holds of a sentence
pub is_fit : (plan : Plan) (words : Words) → IsSentence plan words → IsFit plan.command words
is_fit plan words s = subst (λ (p : Plan). IsFit p.command words) (sym s.plan_is) (named s.sentence words s.read (are_there plan words s) s.is_read)

-- only its own form asks for a self-test
its_form : (sentence : Sentence) (read : Read) (number : ℕ) → command_of sentence read ≡ command.SelfTest number → sentence ≡ SelfTest
its_form SelfTest read number e = refl
its_form sentence read number e = absurd (cc e)

-- no word of it names an image
all_read : (words : Words) (read : Read) → ReadsParts (parts_of SelfTest) 0 words (nothing_of SelfTest) read → length words ≤ read.images
all_read words read is = omega (
  arith,
  ap (λ (r : Read). r.images) is.5.5,
  ap (λ (l : Words). length l) is.3,
  length-append is.0 is.1,
  ap (λ (l : Words). length l) is.5.4,
)

-- a self-test names no image, and so not too many
pub none_named : (plan : Plan) (words : Words) (number : ℕ) → IsSentence plan words → plan.command ≡ command.SelfTest number
    → most_images < length (images_of plan words) → ⊥
none_named plan words number s is many =
    let form = its_form s.sentence s.read number (sym (ap (λ (p : Plan). p.command) s.plan_is) ∙ is) in
    let read = subst (λ t. ReadsParts (parts_of t) 0 words (nothing_of t) s.read) form s.is_read in
    omega (arith, many, all_read words s.read read, ap (λ (p : Plan). p.images) s.plan_is, length-drop plan.images words)
