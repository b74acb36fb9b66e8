-- The walk over the words of a sentence reads exactly what they say.
use Rattle.std.proofs.Common.{◌≡◌, ◌⊎◌, inl, inr, ⊎_elim, ℕ, suc, ◌+◌, Bool, true, false, cond, List, [], ◌∷◌, ◌++◌, length, Option, Some, None, refl, sym, ap}
use Rattle.std.proofs.Common.{◌∙◌, subst, arith}
use Rattle.std.specs.Prelude.{All, ◌||◌, codes, is_some}
use Rattle.std.specs.Bool.{Decides}
use Rattle.std.specs.Char.{encode_utf8}
use Rattle.std.specs.Fmt.{decimal}
use Rattle.std.specs.Option.{option_and_then, option_map}
use Rattle.std.specs.Str.{bytes_eq, chars, is_utf8}
use Rattle.std.proofs.lemmas.Bool.Decides.{nat_tests}
use Rattle.std.proofs.lemmas.Fmt.{decimal_digit}
use Rattle.std.proofs.lemmas.List.{append_assoc, length-append}
use Rattle.std.proofs.lemmas.List.Elements.{All-cons, All-nil}
use Rattle.std.proofs.lemmas.Slice.Eq.{bytes_eq-Decides}
use Rattle.btr_run.specs.Numbers.{IsNumber, number_of}
use Rattle.btr_run.specs.Restores.{AreFree, IsFree, OneOption, Root, Snapshots, Verbose, Dry, Salvage, is_subvolume, option_words, options_words, with_option}
use Rattle.btr_run.specs.Restores.{with_options, with_root}
use Rattle.btr_run.specs.Walk.{Stage, behind, behind_id, behind_number, behind_option, behind_part, read_by, stage, with_given}
use Rattle.btr_run.specs.Words.{Destination, File, IsName, Number, Part, ReadsParts, TakesDestination, Volume, Word, Words, is_file, is_name, is_volume}
use Rattle.btr_run.specs.declared.options.Options.{Options}
use Rattle.btr_run.specs.declared.place.Next.{Next}
use Rattle.btr_run.specs.declared.place.Next.TheVariants as next
use Rattle.btr_run.specs.declared.place.Read.{Read}
use Rattle.btr_run.proofs.Machine.{reached}
use Rattle.btr_run.proofs.Numerals.{number_read, number_sound}

-- the walk from a place over these words ends with what was read
abbrev pub Accepts : Stage → ℕ → Words → Read → Type 0
Accepts s at words new = option_and_then (λ (t : Stage). read_by t.next t.read) (reached s at words) ≡ Some new

-- what is still to be read from a place on
abbrev pub Rest : Next → List Part → Read → ℕ → Words → Read → Type 0
Rest next.Part left old at words new = ReadsParts left at words old new
Rest next.Id left old at words new =
    (id : ℕ) × (word : List ℕ) × (more : Words) × IsNumber id word × (is_subvolume id ≡ true) × (words ≡ word ∷ more)
    × ReadsParts left (at + 1) more (record old { options = with_option old.options (Root id) }) new
Rest next.Image left old at words new = All IsName words × (new ≡ old)
Rest next.End left old at words new = (words ≡ []) × (new ≡ old)

-- ---- what is accepted was read

some_is : (s t : Stage) → ◌≡◌ {A = Option Stage} (Some s) (Some t) → s ≡ t
some_is s t e = cc e

-- a word that a test took
taken : (b : Bool) (s t : Stage) → cond b (Some s) None ≡ Some t → (b ≡ true) × (s ≡ t)
taken true s t e = (refl, some_is s t e)
taken false s t e = absurd (cc e)

-- a word that is this one, or another
this_or : (word this : List ℕ) (here other : Option Stage) (t : Stage) → cond (bytes_eq word this) here other ≡ Some t
    → ((word ≡ this) × (here ≡ Some t)) ⊎ (other ≡ Some t)
this_or word this here other t = of (bytes_eq word this) (bytes_eq-Decides word this)
  where
    of : (b : Bool) → Decides b (word ≡ this) → cond b here other ≡ Some t → ((word ≡ this) × (here ≡ Some t)) ⊎ (other ≡ Some t)
    of true d e = inl (d.0 refl, e)
    of false d e = inr e

-- a word that is a number
numbered : (word : List ℕ) (place : ℕ → Stage) (t : Stage) → option_map place (number_of word) ≡ Some t → (n : ℕ) × IsNumber n word × (place n ≡ t)
numbered word place t = of (number_of word) refl
  where
    of : (o : Option ℕ) → number_of word ≡ o → option_map place o ≡ Some t → (n : ℕ) × IsNumber n word × (place n ≡ t)
    of None is e = absurd (cc e)
    of (Some n) is e = (n, number_sound n word is, some_is (place n) t e)

-- an option that may stand once
flagged : (flag : Bool) (place : Options → Stage) (after : Options) (t : Stage) → option_map place (cond flag None (Some after)) ≡ Some t
    → (flag ≡ false) × (place after ≡ t)
flagged true place after t e = absurd (cc e)
flagged false place after t e = (refl, some_is (place after) t e)

-- one of two that exclude each other
neither : (a b : Bool) → (a || b) ≡ false → (a ≡ false) × (b ≡ false)
neither true b e = absurd (cc e)
neither false b e = (refl, e)

both_false : (a b : Bool) → (a ≡ false) × (b ≡ false) → (a || b) ≡ false
both_false a b e = ap (λ x. x || b) e.0 ∙ e.1

-- an option that may stand beside neither of two
excluded : (a b : Bool) (place : Options → Stage) (after : Options) (t : Stage) → option_map place (cond (a || b) None (Some after)) ≡ Some t
    → ((a ≡ false) × (b ≡ false)) × (place after ≡ t)
excluded a b place after t e = let one = flagged (a || b) place after t e in (neither a b one.0, one.1)

-- an option with an id
rooted : (root : Option ℕ) (s t : Stage) → cond (is_some root) None (Some s) ≡ Some t → (root ≡ None) × (s ≡ t)
rooted None s t e = (refl, some_is s t e)
rooted (Some id) s t e = absurd (cc e)

-- options and a destination behind one option more
one_option : (option : OneOption) (left : List Part) (old new : Read) → IsFree old.options option → (words more : Words) (at end : ℕ)
    → words ≡ option_words option ++ more → at + length (option_words option) ≡ end
    → ReadsParts (Destination ∷ left) end more (record old { options = with_option old.options option }) new → ReadsParts (Destination ∷ left) at words old new
one_option option left old new free words more at end are count reads = (
  option_words option ++ took,
  reads.1,
  reads.2,
  are ∙ ap (λ l. option_words option ++ l) reads.3 ∙ sym (append_assoc (option_words option) took reads.1),
  record {
    options = option ∷ d.options;
    name = d.name;
    free = (free, d.free);
    named = d.named;
    words_are = ap (λ l. option_words option ++ l) d.words_are ∙ sym (append_assoc (option_words option) (options_words d.options) (d.name ∷ []));
    read_is = d.read_is ∙ ap (λ n. record old { options = with_options (with_option old.options option) d.options; name = n }) named_at;
  },
  subst (λ n. ReadsParts left n reads.1 reads.2 new) (omega (arith, count, length-append (option_words option) took)) reads.5,
)
  where
    took : Words
    took = reads.0

    d : TakesDestination end took (record old { options = with_option old.options option }) reads.2
    d = reads.4

    named_at : end + length (options_words d.options) ≡ at + length (option_words option ++ options_words d.options)
    named_at = omega (arith, count, length-append (option_words option) (options_words d.options))

-- behind an option, or the destination
option_led : (left : List Part) (old : Read) (at : ℕ) (word : List ℕ) (words : Words) (new : Read) (t : Stage)
    → behind_option left old at word ≡ Some t → Rest t.next t.left t.read (at + 1) words new → ReadsParts (Destination ∷ left) at (word ∷ words) old new
option_led left old at word words new t e rest =
    ⊎_elim (λ one. by_root one.0 (rooted old.options.root (stage (Destination ∷ left) next.Id old) t one.1))
    (λ other.
    ⊎_elim (λ one. by_flag Snapshots (ap (λ w. w ∷ []) one.0)
    (flagged old.options.snapshots (with_given (Destination ∷ left) old) (with_option old.options Snapshots) t one.1))
    (λ other.
    ⊎_elim (λ one. by_flag Verbose (ap (λ w. w ∷ []) one.0)
    (flagged old.options.verbose (with_given (Destination ∷ left) old) (with_option old.options Verbose) t one.1))
    (λ other.
    ⊎_elim (λ one. by_flag Dry (ap (λ w. w ∷ []) one.0)
    (excluded old.options.dry old.options.salvage (with_given (Destination ∷ left) old) (with_option old.options Dry) t one.1))
    (λ other.
    ⊎_elim (λ one. by_flag Salvage (ap (λ w. w ∷ []) one.0)
    (excluded old.options.dry old.options.salvage (with_given (Destination ∷ left) old) (with_option old.options Salvage) t one.1))
    (λ other. by_name (taken (is_name word) (stage left next.Part (record old { name = at })) t other))
    (this_or word (codes "-i") _ _ t other)) (this_or word (codes "-D") _ _ t other)) (this_or word (codes "-v") _ _ t other))
    (this_or word (codes "-s") _ _ t other))
    (this_or word (codes "-r") _ _ t e)
  where
    at_stage : (s : Stage) → s ≡ t → Rest s.next s.left s.read (at + 1) words new
    at_stage s is = subst (λ (s : Stage). Rest s.next s.left s.read (at + 1) words new) (sym is) rest

    -- behind `-r`, which an id follows
    by_root : word ≡ codes "-r" → (old.options.root ≡ None) × (stage (Destination ∷ left) next.Id old ≡ t)
        → ReadsParts (Destination ∷ left) at (word ∷ words) old new
    by_root is one = of (at_stage (stage (Destination ∷ left) next.Id old) one.1)
      where
        of : Rest next.Id (Destination ∷ left) old (at + 1) words new → ReadsParts (Destination ∷ left) at (word ∷ words) old new
        of r =
            one_option (Root r.0) left old new (one.0, r.4) (word ∷ words) r.2 at (at + 1 + 1)
            (ap (λ w. w ∷ words) is ∙ ap (λ l. codes "-r" ∷ l) r.5 ∙ ap (λ w. codes "-r" ∷ w ∷ r.2) r.3.1) (omega arith) r.6

    -- behind an option of one word
    by_flag : (option : OneOption) → word ∷ [] ≡ option_words option → IsFree old.options option
        × (with_given (Destination ∷ left) old (with_option old.options option) ≡ t)
        → ReadsParts (Destination ∷ left) at (word ∷ words) old new
    by_flag option is one =
        one_option option left old new one.0 (word ∷ words) words at (at + 1) (ap (λ l. l ++ words) is)
        (omega (arith, ap (λ (l : Words). length l) is)) (at_stage (with_given (Destination ∷ left) old (with_option old.options option)) one.1)

    -- behind the destination's name
    by_name : (is_name word ≡ true) × (stage left next.Part (record old { name = at }) ≡ t) → ReadsParts (Destination ∷ left) at (word ∷ words) old new
    by_name one = (
      word ∷ [],
      words,
      record old { name = at },
      refl,
      record { options = []; name = word; free = tt; named = one.0; words_are = refl; read_is = ap (λ n. record old { name = n }) (omega arith) },
      at_stage (stage left next.Part (record old { name = at })) one.1,
    )

-- behind one more word
part_led : (left : List Part) (old : Read) (at : ℕ) (word : List ℕ) (words : Words) (new : Read) (t : Stage)
    → behind_part left old at word ≡ Some t → Rest t.next t.left t.read (at + 1) words new → ReadsParts left at (word ∷ words) old new
part_led [] old at word words new t e rest =
    let one = taken (is_name word) (stage [] next.Image (record old { images = at })) t e in
    let names = subst (λ (s : Stage). Rest s.next s.left s.read (at + 1) words new) (sym one.1) rest in
    (All-cons IsName word words one.0 names.0, names.1)
part_led (Word this ∷ left) old at word words new t e rest = of (bytes_eq word this) (bytes_eq-Decides word this) e
  where
    of : (b : Bool) → Decides b (word ≡ this) → cond b (Some (stage left next.Part old)) None ≡ Some t → ReadsParts (Word this ∷ left) at (word ∷ words) old new
    of true d e = (
      word ∷ [],
      words,
      old,
      refl,
      (ap (λ w. w ∷ []) (d.0 refl), refl),
      subst (λ (s : Stage). Rest s.next s.left s.read (at + 1) words new) (sym (some_is (stage left next.Part old) t e)) rest,
    )
    of false d e = absurd (cc e)
part_led (Number ∷ left) old at word words new t e rest =
    let read = numbered word (λ n. stage left next.Part (record old { number = n })) t e in (
      word ∷ [],
      words,
      record old { number = read.0 },
      refl,
      (read.0, word, read.1, refl, refl),
      subst (λ (s : Stage). Rest s.next s.left s.read (at + 1) words new) (sym read.2) rest,
    )
part_led (Destination ∷ left) old at word words new t e rest = option_led left old at word words new t e rest
part_led (File ∷ left) old at word words new t e rest =
    let one = taken (is_file word) (stage left next.Part (record old { file = at })) t e in (
      word ∷ [],
      words,
      record old { file = at },
      refl,
      (word, one.0, refl, refl),
      subst (λ (s : Stage). Rest s.next s.left s.read (at + 1) words new) (sym one.1) rest,
    )
part_led (Volume ∷ left) old at word words new t e rest = of (number_of word) refl e
  where
    from : Read
    from = record old { images = at + 1 }

    of : (o : Option ℕ) → number_of word ≡ o → option_and_then (behind_number left from) o ≡ Some t → ReadsParts (Volume ∷ left) at (word ∷ words) old new
    of None is e = absurd (cc e)
    of (Some n) is e =
        let one = taken (is_volume n) (stage left next.End (record from { number = n })) t e in
        let end = subst (λ (s : Stage). Rest s.next s.left s.read (at + 1) words new) (sym one.1) rest in
        (n, word, number_sound n word is, one.0, ap (λ l. word ∷ l) end.0, end.1)

-- behind the id of a subvolume
id_led : (left : List Part) (old : Read) (at : ℕ) (word : List ℕ) (words : Words) (new : Read) (t : Stage)
    → behind_id left old word ≡ Some t → Rest t.next t.left t.read (at + 1) words new → Rest next.Id left old at (word ∷ words) new
id_led left old at word words new t e rest = of (number_of word) refl e
  where
    of : (o : Option ℕ) → number_of word ≡ o → option_map (with_given left old) (option_and_then (λ id. with_root id old.options) o) ≡ Some t
        → Rest next.Id left old at (word ∷ words) new
    of None is e = absurd (cc e)
    of (Some id) is e = in_range (is_subvolume id) refl e
      where
        after : Options
        after = with_option old.options (Root id)

        in_range : (b : Bool) → is_subvolume id ≡ b → option_map (with_given left old) (cond b (Some after) None) ≡ Some t
            → Rest next.Id left old at (word ∷ words) new
        in_range true fits e = (
          id,
          word,
          words,
          number_sound id word is,
          fits,
          refl,
          subst (λ (s : Stage). Rest s.next s.left s.read (at + 1) words new) (sym (some_is (with_given left old after) t e)) rest,
        )
        in_range false fits e = absurd (cc e)

-- behind a word, whatever may come next at its place
led : (n : Next) (left : List Part) (old : Read) (at : ℕ) (word : List ℕ) (words : Words) (new : Read) (t : Stage)
    → behind n left old at word ≡ Some t → Rest t.next t.left t.read (at + 1) words new → Rest n left old at (word ∷ words) new
led next.Part left old at word words new t e rest = part_led left old at word words new t e rest
led next.Id left old at word words new t e rest = id_led left old at word words new t e rest
led next.Image left old at word words new t e rest =
    let one = taken (is_name word) (stage left next.Image old) t e in
    let names = subst (λ (s : Stage). Rest s.next s.left s.read (at + 1) words new) (sym one.1) rest in
    (All-cons IsName word words one.0 names.0, names.1)
led next.End left old at word words new t e rest = absurd (cc e)

-- what the walk accepts from a place on is what was to be read from there on
pub sound : (n : Next) (left : List Part) (old : Read) (at : ℕ) (words : Words) (new : Read) → Accepts (stage left n old) at words new
    → Rest n left old at words new
sound next.Part left old at [] new e = absurd (cc e)
sound next.Id left old at [] new e = absurd (cc e)
sound next.Image left old at [] new e = (All-nil IsName, cc e)
sound next.End left old at [] new e = (refl, cc e)
sound n left old at (word ∷ words) new e = of (behind n left old at word) refl e (λ t accepts. sound t.next t.left t.read (at + 1) words new accepts)
  where
    of : (o : Option Stage) → behind n left old at word ≡ o
        → option_and_then (λ (t : Stage). read_by t.next t.read) (option_and_then (λ p. reached p (at + 1) words) o) ≡ Some new
        → ((t : Stage) → Accepts t (at + 1) words new → Rest t.next t.left t.read (at + 1) words new) → Rest n left old at (word ∷ words) new
    of None is e more = absurd (cc e)
    of (Some t) is e more = led n left old at word words new t is (more t e)

-- ---- what is read is accepted

-- an option's words lead on
one_walked : (left : List Part) (old : Read) (option : OneOption) (rest : Words) (at end : ℕ) → IsFree old.options option
    → at + length (option_words option) ≡ end
    → reached (stage (Destination ∷ left) next.Part old) at (option_words option ++ rest)
    ≡ reached (with_given (Destination ∷ left) old (with_option old.options option)) end rest
one_walked left old (Root id) rest at end free count =
    of old.options.root free.0
    ∙ ap (λ o. option_and_then (λ s. reached s (at + 1 + 1) rest)
    (option_map (with_given (Destination ∷ left) old) (option_and_then (λ n. with_root n old.options) o)))
    (number_read id (decimal id) (grind (arith, nat_tests, free.1), refl))
    ∙ ap (λ b. option_and_then (λ s. reached s (at + 1 + 1) rest)
    (option_map (with_given (Destination ∷ left) old) (cond b (Some (with_option old.options (Root id))) None))) free.1
    ∙ ap (λ n. reached (with_given (Destination ∷ left) old (with_option old.options (Root id))) n rest) (omega (arith, count))
  where
    of : (root : Option ℕ) → root ≡ None
        → option_and_then (λ s. reached s (at + 1) (decimal id ∷ rest)) (cond (is_some root) None (Some (stage (Destination ∷ left) next.Id old)))
        ≡ reached (stage (Destination ∷ left) next.Id old) (at + 1) (decimal id ∷ rest)
    of None e = refl
    of (Some n) e = absurd (cc e)
one_walked left old Snapshots rest at end free count =
    ap (λ b. option_and_then (λ s. reached s (at + 1) rest)
    (option_map (with_given (Destination ∷ left) old) (cond b None (Some (with_option old.options Snapshots))))) free
    ∙ ap (λ n. reached (with_given (Destination ∷ left) old (with_option old.options Snapshots)) n rest) count
one_walked left old Verbose rest at end free count =
    ap (λ b. option_and_then (λ s. reached s (at + 1) rest)
    (option_map (with_given (Destination ∷ left) old) (cond b None (Some (with_option old.options Verbose))))) free
    ∙ ap (λ n. reached (with_given (Destination ∷ left) old (with_option old.options Verbose)) n rest) count
one_walked left old Dry rest at end free count =
    ap (λ b. option_and_then (λ s. reached s (at + 1) rest)
    (option_map (with_given (Destination ∷ left) old) (cond b None (Some (with_option old.options Dry)))))
    (both_false old.options.dry old.options.salvage free)
    ∙ ap (λ n. reached (with_given (Destination ∷ left) old (with_option old.options Dry)) n rest) count
one_walked left old Salvage rest at end free count =
    ap (λ b. option_and_then (λ s. reached s (at + 1) rest)
    (option_map (with_given (Destination ∷ left) old) (cond b None (Some (with_option old.options Salvage)))))
    (both_false old.options.dry old.options.salvage free)
    ∙ ap (λ n. reached (with_given (Destination ∷ left) old (with_option old.options Salvage)) n rest) count

-- the place behind the words of some options
walked : (left : List Part) (old : Read) (options : List OneOption) (rest : Words) (at end : ℕ) → AreFree old.options options
    → at + length (options_words options) ≡ end
    → reached (stage (Destination ∷ left) next.Part old) at (options_words options ++ rest)
    ≡ reached (with_given (Destination ∷ left) old (with_options old.options options)) end rest
walked left old [] rest at end free count = ap (λ n. reached (stage (Destination ∷ left) next.Part old) n rest) (omega (arith, count))
walked left old (option ∷ options) rest at end free count =
    ap (reached (stage (Destination ∷ left) next.Part old) at) (append_assoc (option_words option) (options_words options) rest)
    ∙ one_walked left old option (options_words options ++ rest) at (at + length (option_words option)) free.0 refl
    ∙ walked left (record old { options = with_option old.options option }) options rest (at + length (option_words option)) end free.1
    (omega (arith, count, length-append (option_words option) (options_words options)))

-- a name is no option
no_option : (name option : List ℕ) (here other : Option Stage) → is_name name ≡ true → is_name option ≡ false → cond (bytes_eq name option) here other ≡ other
no_option name option here other is not_name = of (bytes_eq name option) (bytes_eq-Decides name option)
  where
    of : (b : Bool) → Decides b (name ≡ option) → cond b here other ≡ other
    of true d = absurd (cc (sym is ∙ ap is_name (d.0 refl) ∙ not_name))
    of false d = refl

-- the name of a destination leads on
named_on : (left : List Part) (old : Read) (at : ℕ) (name : List ℕ) → is_name name ≡ true
    → behind_option left old at name ≡ Some (stage left next.Part (record old { name = at }))
named_on left old at name is =
    no_option name (codes "-r") _ _ is refl ∙ no_option name (codes "-s") _ _ is refl ∙ no_option name (codes "-v") _ _ is refl
    ∙ no_option name (codes "-D") _ _ is refl ∙ no_option name (codes "-i") _ _ is refl ∙ ap
    (λ b. cond b (Some (stage left next.Part (record old { name = at }))) None) is

-- a word is itself, by the test
pub same_word : (word : List ℕ) → bytes_eq word word ≡ true
same_word word = of (bytes_eq word word) (bytes_eq-Decides word word)
  where
    of : (b : Bool) → Decides b (word ≡ word) → b ≡ true
    of true d = refl
    of false d = absurd (cc (d.1 refl))

-- what was read at the end
abbrev at_end : Option Stage → Option Read
at_end o = option_and_then (λ (t : Stage). read_by t.next t.read) o

-- the names of further images are accepted
names_accepted : (left : List Part) (old : Read) (at : ℕ) (names : Words) → All IsName names → Accepts (stage left next.Image old) at names old
names_accepted left old at [] all = refl
names_accepted left old at (word ∷ names) all =
    ap (λ b. at_end (option_and_then (λ s. reached s (at + 1) names) (cond b (Some (stage left next.Image old)) None))) (all 0 word (omega arith))
    ∙ names_accepted left old (at + 1) names (λ k d lt. all (suc k) d (omega (arith, lt)))

-- words that some parts of a sentence take are accepted
pub accepted : (left : List Part) (at : ℕ) (words : Words) (old new : Read) → ReadsParts left at words old new → Accepts (stage left next.Part old) at words new
accepted [] at [] old new reads = absurd reads.0
accepted [] at (first ∷ more) old new reads =
    ap (λ b. at_end (option_and_then (λ s. reached s (at + 1) more) (cond b (Some (stage [] next.Image (record old { images = at }))) None)))
    (reads.0 0 first (omega arith))
    ∙ names_accepted [] (record old { images = at }) (at + 1) more (λ k d lt. reads.0 (suc k) d (omega (arith, lt))) ∙ ap (λ r. Some r) (sym reads.1)
accepted (Word this ∷ left) at words old new reads =
    ap (λ l. at_end (reached (stage (Word this ∷ left) next.Part old) at l)) (reads.3 ∙ ap (λ t. t ++ reads.1) reads.4.0)
    ∙ ap (λ b. at_end (option_and_then (λ s. reached s (at + 1) reads.1) (cond b (Some (stage left next.Part old)) None))) (same_word this)
    ∙ accepted left (at + 1) reads.1 old new
    (subst (λ m. ReadsParts left (at + 1) reads.1 m new) reads.4.1 (subst (λ t. ReadsParts left (at + length t) reads.1 reads.2 new) reads.4.0 reads.5))
accepted (Number ∷ left) at words old new reads =
    ap (λ l. at_end (reached (stage (Number ∷ left) next.Part old) at l)) (reads.3 ∙ ap (λ t. t ++ reads.1) reads.4.3)
    ∙ ap (λ o. at_end (option_and_then (λ s. reached s (at + 1) reads.1) (option_map (λ n. stage left next.Part (record old { number = n })) o)))
    (number_read reads.4.0 reads.4.1 reads.4.2)
    ∙ accepted left (at + 1) reads.1 (record old { number = reads.4.0 }) new
    (subst (λ m. ReadsParts left (at + 1) reads.1 m new) reads.4.4 (subst (λ t. ReadsParts left (at + length t) reads.1 reads.2 new) reads.4.3 reads.5))
accepted (Destination ∷ left) at words old new reads =
    ap (λ l. at_end (reached (stage (Destination ∷ left) next.Part old) at l))
    (reads.3 ∙ ap (λ t. t ++ reads.1) d.words_are ∙ append_assoc (options_words d.options) (d.name ∷ []) reads.1)
    ∙ ap at_end (walked left old d.options (d.name ∷ reads.1) at end d.free refl)
    ∙ ap (λ o. at_end (option_and_then (λ s. reached s (end + 1) reads.1) o)) (named_on left given end d.name d.named)
    ∙ accepted left (end + 1) reads.1 (record given { name = end }) new
    (subst (λ m. ReadsParts left (end + 1) reads.1 m new) d.read_is (subst (λ n. ReadsParts left n reads.1 reads.2 new) count reads.5))
  where
    d : TakesDestination at reads.0 old reads.2
    d = reads.4

    end : ℕ
    end = at + length (options_words d.options)

    given : Read
    given = record old { options = with_options old.options d.options }

    count : at + length reads.0 ≡ end + 1
    count = omega (arith, ap (λ (l : Words). length l) d.words_are, length-append (options_words d.options) (d.name ∷ []))
accepted (File ∷ left) at words old new reads =
    ap (λ l. at_end (reached (stage (File ∷ left) next.Part old) at l)) (reads.3 ∙ ap (λ t. t ++ reads.1) reads.4.2)
    ∙ ap (λ b. at_end (option_and_then (λ s. reached s (at + 1) reads.1) (cond b (Some (stage left next.Part (record old { file = at }))) None))) reads.4.1
    ∙ accepted left (at + 1) reads.1 (record old { file = at }) new
    (subst (λ m. ReadsParts left (at + 1) reads.1 m new) reads.4.3 (subst (λ t. ReadsParts left (at + length t) reads.1 reads.2 new) reads.4.2 reads.5))
accepted (Volume ∷ left) at words old new reads =
    ap (λ l. at_end (reached (stage (Volume ∷ left) next.Part old) at l)) reads.4
    ∙ ap (λ o. at_end (option_and_then (λ s. reached s (at + 1) []) (option_and_then (behind_number left (record old { images = at + 1 })) o)))
    (number_read reads.0 reads.1 reads.2)
    ∙ ap (λ b. at_end (option_and_then (λ s. reached s (at + 1) [])
    (cond b (Some (stage left next.End (record old { number = reads.0; images = at + 1 }))) None))) reads.3
    ∙ ap (λ r. Some r) (sym reads.5)

-- what is to be read from a place on is accepted from there on
pub complete : (n : Next) (left : List Part) (old : Read) (at : ℕ) (words : Words) (new : Read) → Rest n left old at words new
    → Accepts (stage left n old) at words new
complete next.Part left old at words new reads = accepted left at words old new reads
complete next.Id left old at words new r =
    ap (λ l. at_end (reached (stage left next.Id old) at l)) r.5
    ∙ ap (λ o. at_end (option_and_then (λ s. reached s (at + 1) r.2) (option_map (with_given left old) (option_and_then (λ id. with_root id old.options) o))))
    (number_read r.0 r.1 r.3)
    ∙ ap (λ b. at_end (option_and_then (λ s. reached s (at + 1) r.2)
    (option_map (with_given left old) (cond b (Some (with_option old.options (Root r.0))) None)))) r.4
    ∙ accepted left (at + 1) r.2 (record old { options = with_option old.options (Root r.0) }) new r.6
complete next.Image left old at words new names = names_accepted left old at words names.0 ∙ ap (λ r. Some r) (sym names.1)
complete next.End left old at words new r = ap (λ l. at_end (reached (stage left next.End old) at l)) r.0 ∙ ap (λ r. Some r) (sym r.1)

-- ---- from each place some words lead on to a sentence

-- some name: `a`
abbrev some_name : List ℕ
some_name = 97 ∷ []

-- it is the name of a file, too
some_file : is_file some_name ≡ true
unfolding is_utf8 chars encode_utf8
some_file = refl

zero_is : IsNumber 0 (codes "0")
zero_is = (omega arith, sym (decimal_digit 0 (omega arith)))

five_is : IsNumber 5 (codes "5")
five_is = (omega arith, sym (decimal_digit 5 (omega arith)))

one_is : IsNumber 1 (codes "1")
one_is = (omega arith, sym (decimal_digit 1 (omega arith)))

-- any parts of a sentence take some words
some_words : (left : List Part) (at : ℕ) (old : Read) → (words : Words) × (new : Read) × ReadsParts left at words old new
some_words [] at old = (some_name ∷ [], record old { images = at }, (All-cons IsName some_name [] refl (All-nil IsName), refl))
some_words (Word this ∷ left) at old =
    let more = some_words left (at + 1) old in (this ∷ more.0, more.1, (this ∷ [], more.0, old, refl, (refl, refl), more.2))
some_words (Number ∷ left) at old =
    let more = some_words left (at + 1) (record old { number = 0 }) in
    (codes "0" ∷ more.0, more.1, (codes "0" ∷ [], more.0, record old { number = 0 }, refl, (0, codes "0", zero_is, refl, refl), more.2))
some_words (Destination ∷ left) at old =
    let more = some_words left (at + 1) (record old { name = at }) in (
      some_name ∷ more.0,
      more.1,
      (
        some_name ∷ [],
        more.0,
        record old { name = at },
        refl,
        record { options = []; name = some_name; free = tt; named = refl; words_are = refl; read_is = ap (λ n. record old { name = n }) (omega arith) },
        more.2,
      ),
    )
some_words (File ∷ left) at old =
    let more = some_words left (at + 1) (record old { file = at }) in
    (some_name ∷ more.0, more.1, (some_name ∷ [], more.0, record old { file = at }, refl, (some_name, some_file, refl, refl), more.2))
some_words (Volume ∷ left) at old = (codes "1" ∷ [], record old { number = 1; images = at + 1 }, (1, codes "1", one_is, refl, refl, refl))

-- from each place on some words are accepted
pub live : (n : Next) (left : List Part) (old : Read) (at : ℕ) → (words : Words) × (new : Read) × Accepts (stage left n old) at words new
live next.Part left old at = let some = some_words left at old in (some.0, some.1, accepted left at some.0 old some.1 some.2)
live next.Id left old at =
    let some = some_words left (at + 1) (record old { options = with_option old.options (Root 5) }) in
    (codes "5" ∷ some.0, some.1, complete next.Id left old at (codes "5" ∷ some.0) some.1 (5, codes "5", some.0, five_is, refl, refl, some.2))
live next.Image left old at = ([], old, refl)
live next.End left old at = ([], old, refl)
