-- The words that the plan of a sentence names are there: images, a destination and a file in it.
use Rattle.std.proofs.Common.{ℕ, ◌+◌, ◌<◌, ◌≤◌, List, [], ◌∷◌, length, refl, sym, ap, subst, arith}
use Rattle.std.proofs.lemmas.List.{length-append, length-drop}
use Rattle.btr_run.specs.Restores.{options_words}
use Rattle.btr_run.specs.Words.{Destination, File, IsSentence, Number, Part, ReadsParts, TakesDestination, Volume, Word, Words, command_of, images_of}
use Rattle.btr_run.specs.Words.{nothing_of}
use Rattle.btr_run.specs.SelfTested.{TakesImages}
use Rattle.btr_run.specs.Words.{parts_of}
use Rattle.btr_run.specs.declared.place.Read.{Read}
use Rattle.btr_run.specs.declared.plan.Plan.{Plan}
use Rattle.btr_run.specs.declared.sentence.Sentence.{Sentence}
use Rattle.btr_run.specs.declared.sentence.Sentence.TheVariants.{SelfTest}
use Rattle.btr_run.proofs.Apart.{begins_so}

-- images are named behind some parts
abbrev NamesImages : List Part → Type 0
NamesImages [] = Unit {0}
NamesImages (Volume ∷ left) = ⊥
NamesImages (part ∷ left) = NamesImages left

-- the word of the first image
images_there : (left : List Part) (at : ℕ) (words : Words) (old new : Read) → NamesImages left → ReadsParts left at words old new
    → new.images < at + length words
images_there [] at [] old new named reads = absurd reads.0
images_there [] at (first ∷ more) old new named reads = omega (arith, ap (λ (r : Read). r.images) reads.1)
images_there (Volume ∷ left) at words old new named reads = absurd named
images_there (Word this ∷ left) at words old new named reads =
    omega (
      arith,
      images_there left (at + length reads.0) reads.1 reads.2 new named reads.5,
      ap (λ (l : Words). length l) reads.3,
      length-append
          reads.0 reads.1,
    )
images_there (Number ∷ left) at words old new named reads =
    omega (
      arith,
      images_there left (at + length reads.0) reads.1 reads.2 new named reads.5,
      ap (λ (l : Words). length l) reads.3,
      length-append
          reads.0 reads.1,
    )
images_there (Destination ∷ left) at words old new named reads =
    omega (
      arith,
      images_there left (at + length reads.0) reads.1 reads.2 new named reads.5,
      ap (λ (l : Words). length l) reads.3,
      length-append
          reads.0 reads.1,
    )
images_there (File ∷ left) at words old new named reads =
    omega (
      arith,
      images_there left (at + length reads.0) reads.1 reads.2 new named reads.5,
      ap (λ (l : Words). length l) reads.3,
      length-append
          reads.0 reads.1,
    )

-- or the end of the words
images_within : (left : List Part) (at : ℕ) (words : Words) (old new : Read) → ReadsParts left at words old new → new.images ≤ at + length words
images_within [] at words old new reads = omega (arith, ap (λ (r : Read). r.images) reads.1)
images_within (Volume ∷ left) at words old new reads = omega (arith, ap (λ (r : Read). r.images) reads.5, ap (λ (l : Words). length l) reads.4)
images_within (Word this ∷ left) at words old new reads =
    omega (arith, images_within left (at + length reads.0) reads.1 reads.2 new reads.5, ap (λ (l : Words). length l) reads.3, length-append reads.0 reads.1)
images_within (Number ∷ left) at words old new reads =
    omega (arith, images_within left (at + length reads.0) reads.1 reads.2 new reads.5, ap (λ (l : Words). length l) reads.3, length-append reads.0 reads.1)
images_within (Destination ∷ left) at words old new reads =
    omega (arith, images_within left (at + length reads.0) reads.1 reads.2 new reads.5, ap (λ (l : Words). length l) reads.3, length-append reads.0 reads.1)
images_within (File ∷ left) at words old new reads =
    omega (arith, images_within left (at + length reads.0) reads.1 reads.2 new reads.5, ap (λ (l : Words). length l) reads.3, length-append reads.0 reads.1)

-- the word of the destination, and of the file in it
abbrev pub AreThere : Read → ℕ → Type 0
AreThere read bound = (read.name < bound) × (read.file < bound)

-- behind some parts, too, the destination and the file have numbers below a bound that the words don't go beyond
names_there : (left : List Part) (at : ℕ) (words : Words) (old new : Read) (bound : ℕ) → ReadsParts left at words old new → AreThere old bound
    → at + length words ≤ bound
    → AreThere new bound
names_there [] at words old new bound reads before within = subst (λ r. AreThere r bound) (sym reads.1) before
names_there (Volume ∷ left) at words old new bound reads before within = subst (λ r. AreThere r bound) (sym reads.5) before
names_there (Word this ∷ left) at words old new bound reads before within =
    names_there left (at + length reads.0) reads.1 reads.2 new bound reads.5 (subst (λ r. AreThere r bound) (sym reads.4.1) before)
    (omega (arith, within, ap (λ (l : Words). length l) reads.3, length-append reads.0 reads.1))
names_there (Number ∷ left) at words old new bound reads before within =
    names_there left (at + length reads.0) reads.1 reads.2 new bound reads.5 (subst (λ r. AreThere r bound) (sym reads.4.4) before)
    (omega (arith, within, ap (λ (l : Words). length l) reads.3, length-append reads.0 reads.1))
names_there (File ∷ left) at words old new bound reads before within =
    names_there left (at + length reads.0) reads.1 reads.2 new bound reads.5
    (subst (λ r. AreThere r bound) (sym reads.4.3)
    (before.0, omega (arith, within, ap (λ (l : Words). length l) reads.3, length-append reads.0 reads.1, ap (λ (l : Words). length l) reads.4.2)))
    (omega (arith, within, ap (λ (l : Words). length l) reads.3, length-append reads.0 reads.1))
names_there (Destination ∷ left) at words old new bound reads before within =
    names_there left (at + length reads.0) reads.1 reads.2 new bound reads.5 (subst (λ r. AreThere r bound) (sym d.read_is) (inside, before.1))
    (omega (arith, within, ap (λ (l : Words). length l) reads.3, length-append reads.0 reads.1))
  where
    d : TakesDestination at reads.0 old reads.2
    d = reads.4

    inside : at + length (options_words d.options) < bound
    inside = omega (
      arith,
      within,
      ap (λ (l : Words). length l) reads.3,
      length-append reads.0 reads.1,
      ap (λ (l : Words). length l) d.words_are,
      length-append (options_words d.options) (d.name ∷ []),
    )

-- all other forms than the self-test's name images
names_images : (sentence : Sentence) (read : Read) → TakesImages (command_of sentence read) → NamesImages (parts_of sentence)
names_images SelfTest read takes = absurd (takes read.number refl)
names_images sentence read takes = tt

module _ (plan : Plan) (words : Words) (s : IsSentence plan words) where
  -- the images of a sentence begin within its words, or at their end
  pub first_image : plan.images ≤ length words
  first_image = subst (λ (p : Plan). p.images ≤ length words) (sym s.plan_is)
      (omega (arith, images_within (parts_of s.sentence) 0 words (nothing_of s.sentence) s.read s.is_read))

  -- a sentence of a command that takes images names at least one
  pub some_image : TakesImages plan.command → 0 < length (images_of plan words)
  some_image takes = omega (
    arith,
    length-drop plan.images words,
    ap (λ (p : Plan). p.images) s.plan_is,
    images_there (parts_of s.sentence) 0 words (nothing_of s.sentence) s.read
        (names_images s.sentence s.read (subst (λ (p : Plan). TakesImages p.command) s.plan_is takes)) s.is_read,
  )

  -- there is some word
  some_word : 0 < length words
  some_word = let first = begins_so (parts_of s.sentence) 0 words (nothing_of s.sentence) s.read s.is_read in
      omega (arith, ap (λ (l : Words). length l) first.are)

  -- the words that were read as a destination and as a file in it
  pub are_there : AreThere s.read (length words)
  are_there = names_there (parts_of s.sentence) 0 words (nothing_of s.sentence) s.read (length words) s.is_read (some_word, some_word) (omega arith)
