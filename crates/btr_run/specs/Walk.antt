-- The walk along a sentence, word by word.
use Rattle.std.specs.Prelude.{ℕ, ◌+◌, if◌then◌else◌, List, [], ◌∷◌, map, codes, Option, Some, None, is_some}
use Rattle.std.specs.Option.{option_and_then, option_map}
use Rattle.std.specs.Str.{bytes_eq}
use Rattle.btr_run.specs.Numbers.{number_of}
use Rattle.btr_run.specs.Restores.{with_dry, with_root, with_salvage, with_snapshots, with_verbose}
use Rattle.btr_run.specs.Words.{Part, Word, Number, Destination, File, Volume, is_file, is_name, is_volume, part_of}
use Rattle.btr_run.specs.declared.options.Options.{Options as Given}
use Rattle.btr_run.specs.declared.place.Next.{Next}
use Rattle.btr_run.specs.declared.place.Next.TheVariants as next
use Rattle.btr_run.specs.declared.place.SentencePlace.{SentencePlace}
use Rattle.btr_run.specs.declared.place.Read.{Read}

-- a place in a sentence: the parts that are left, which word may come next, and what was read
pub record Stage : Type 0 where
  pub left : List Part
  pub next : Next
  pub read : Read

-- a place in a sentence, made of its parts
abbrev pub stage : List Part → Next → Read → Stage
stage left next read = record { left = left; next = next; read = read }

-- the place in a sentence that a reader of words stands at
abbrev pub stage_of : SentencePlace → Stage
stage_of place = stage (map part_of place.left.now) place.next place.read

-- behind some options
abbrev pub with_given : List Part → Read → Given → Stage
with_given left read given = stage left next.Part (record read { options = given })

-- behind a word that has to be this one
abbrev pub behind_word : List ℕ → List ℕ → List Part → Read → Option Stage
behind_word word this left read = if bytes_eq word this then Some (stage left next.Part read) else None

-- behind a name
abbrev pub behind_name : List ℕ → List Part → Next → Read → Option Stage
behind_name word left next read = if is_name word then Some (stage left next read) else None

-- behind the name of a file
abbrev pub behind_file : List ℕ → List Part → Read → Option Stage
behind_file word left read = if is_file word then Some (stage left next.Part read) else None

-- behind `-r`, which may stand there once
abbrev pub behind_root : List Part → Read → Option Stage
behind_root left read = if is_some read.options.root then None else Some (stage left next.Id read)

-- behind an option, or the destination's name
abbrev pub behind_option : List Part → Read → ℕ → List ℕ → Option Stage
behind_option left read at word =
    if bytes_eq word (codes "-r") then behind_root (Destination ∷ left) read
    else if bytes_eq word (codes "-s") then option_map (with_given (Destination ∷ left) read) (with_snapshots read.options)
    else if bytes_eq word (codes "-v") then option_map (with_given (Destination ∷ left) read) (with_verbose read.options)
    else if bytes_eq word (codes "-D") then option_map (with_given (Destination ∷ left) read) (with_dry read.options)
    else if bytes_eq word (codes "-i") then option_map (with_given (Destination ∷ left) read) (with_salvage read.options)
    else behind_name word left next.Part (record read { name = at })

-- behind the number of directories of a volume
abbrev pub behind_number : List Part → Read → ℕ → Option Stage
behind_number left read n = if is_volume n then Some (stage left next.End (record read { number = n })) else None

-- the place behind a word that is the number of directories of a volume, which ends the sentence
abbrev pub behind_volume : List Part → Read → List ℕ → Option Stage
behind_volume left read word = option_and_then (behind_number left read) (number_of word)

-- behind a word of the part that is left next, or of the first image: the word of this number
abbrev pub behind_part : List Part → Read → ℕ → List ℕ → Option Stage
behind_part [] read at word = behind_name word [] next.Image (record read { images = at })
behind_part (Word this ∷ left) read at word = behind_word word this left read
behind_part (Number ∷ left) read at word = option_map (λ n. stage left next.Part (record read { number = n })) (number_of word)
behind_part (Destination ∷ left) read at word = behind_option left read at word
behind_part (File ∷ left) read at word = behind_file word left (record read { file = at })
behind_part (Volume ∷ left) read at word = behind_volume left (record read { images = at + 1 }) word

-- behind the id of a subvolume
abbrev pub behind_id : List Part → Read → List ℕ → Option Stage
behind_id left read word = option_map (with_given left read) (option_and_then (λ id. with_root id read.options) (number_of word))

-- the place behind one more word, where the sentence has it here
abbrev pub behind : Next → List Part → Read → ℕ → List ℕ → Option Stage
behind next.Part left read at word = behind_part left read at word
behind next.Id left read at word = behind_id left read word
behind next.Image left read at word = behind_name word left next.Image read
behind next.End left read at word = None

-- what was read, where the words so far are a whole sentence
abbrev pub read_by : Next → Read → Option Read
read_by next.Part read = None
read_by next.Id read = None
read_by next.Image read = Some read
read_by next.End read = Some read
