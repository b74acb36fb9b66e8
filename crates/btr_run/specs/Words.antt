-- The sentences of the command line, and where other words go wrong.
use Rattle.std.specs.Prelude.{◌≡◌, ℕ, ◌+◌, ◌<◌, ◌≤◌, Bool, true, false, IsTrue, not, ◌&&◌, nat_le}
use Rattle.std.specs.Prelude.{◌==◌, List, [], ◌∷◌, ◌++◌, length, take, drop, codes, All}
use Rattle.btr_files.specs.declared.plan.RestorePlan.{RestorePlan}
use Rattle.btr_rack.specs.Name.{is_bad}
use Rattle.btr_run.specs.Numbers.{IsNumber}
use Rattle.btr_run.specs.Restores.{AreFree, OneOption, id_alone, no_options, options_words, plan_by}
use Rattle.btr_run.specs.Restores.{send_by, with_options}
use Rattle.btr_run.specs.declared.options.Options.{Options}
use Rattle.btr_run.specs.declared.part.Part.{Part as declared_part}
use Rattle.btr_run.specs.declared.part.Part.TheVariants as declared
use Rattle.btr_run.specs.declared.place.Read.{Read}
use Rattle.btr_run.specs.declared.plan.Command.{Command}
use Rattle.btr_run.specs.declared.plan.Command.TheVariants as command
use Rattle.btr_run.specs.declared.query.DumpChoice.TheVariants as dump
use Rattle.btr_run.specs.declared.plan.Plan.{Plan}
use Rattle.btr_run.specs.declared.query.Query.{Query}
use Rattle.btr_run.specs.declared.query.Query.TheVariants as query
use Rattle.btr_run.specs.declared.sentence.Sentence.{Sentence}
use Rattle.btr_run.specs.declared.sentence.Sentence.TheVariants.{Super, DumpAll, DumpBlock}
use Rattle.btr_run.specs.declared.sentence.Sentence.TheVariants.{DumpTree, DumpRoots, Resolve}
use Rattle.btr_run.specs.declared.sentence.Sentence.TheVariants.{Check, CheckData, Scrub, ScrubRead}
use Rattle.btr_run.specs.declared.sentence.Sentence.TheVariants.{Roots, Restore, Send, SelfTest}

-- the words of a command line
abbrev pub Words : Type 0
Words = List (List ℕ)

-- a name is not empty and does not begin with a dash
abbrev pub is_name : List ℕ → Bool
is_name [] = false
is_name (first ∷ rest) = not (first == 45)

-- a word may be a name
abbrev pub IsName : List ℕ → Type 0
IsName word = IsTrue (is_name word)

-- the name of a file that is made in a folder: such a name, without a `/` or a zero byte and
-- neither `.` nor `..`, of at most 255 bytes
abbrev pub is_file : List ℕ → Bool
is_file word = is_name word && (not (is_bad word) && nat_le (length word) 255)

-- a volume is made of so many directories
abbrev pub is_volume : ℕ → Bool
is_volume directories = nat_le 1 directories && nat_le directories 1000

-- what stands at one place of a sentence: a word itself, a number of 64 bits, options and behind
-- them the destination's name, the name of a file in it, or, in the place of images, a volume by
-- its number of directories
pub data Part : Type 0 where
  Word : List ℕ → Part
  Number : Part
  Destination : Part
  File : Part
  Volume : Part

-- the same, of the program's table
abbrev pub part_of : declared_part → Part
part_of (declared.Word word) = Word word.now
part_of declared.Number = Number
part_of declared.Destination = Destination
part_of declared.File = File
part_of declared.Volume = Volume

-- the sentences: what stands at the places of each, before the names of one or more images if no
-- volume is made
abbrev pub parts_of : Sentence → List Part
parts_of Super = Word (codes "super") ∷ []
parts_of DumpAll = Word (codes "inspect-internal") ∷ Word (codes "dump-tree") ∷ []
parts_of DumpBlock = Word (codes "inspect-internal") ∷ Word (codes "dump-tree") ∷ Word (codes "-b")
    ∷ Number ∷ []
parts_of DumpTree = Word (codes "inspect-internal") ∷ Word (codes "dump-tree") ∷ Word (codes "-t")
    ∷ Number ∷ []
parts_of DumpRoots = Word (codes "inspect-internal") ∷ Word (codes "dump-tree") ∷ Word (codes "-r")
    ∷ []
parts_of Resolve = Word (codes "inspect-internal") ∷ Word (codes "logical-resolve") ∷ Number ∷ []
parts_of Check = Word (codes "check") ∷ []
parts_of CheckData = Word (codes "check") ∷ Word (codes "--check-data-csum") ∷ []
parts_of Scrub = Word (codes "scrub") ∷ Word (codes "start") ∷ []
parts_of ScrubRead = Word (codes "scrub") ∷ Word (codes "start") ∷ Word (codes "-r") ∷ []
parts_of Roots = Word (codes "restore") ∷ Word (codes "-l") ∷ []
parts_of Restore = Word (codes "restore") ∷ Destination ∷ []
parts_of Send = Word (codes "send") ∷ Destination ∷ File ∷ []
parts_of SelfTest = Word (codes "self-test") ∷ Volume ∷ []

-- a restore, which may go on behind blocks that can't be had
abbrev pub restore_of : Bool → ℕ → RestorePlan → Query
restore_of true dest plan = query.Salvage dest (record plan { dry = false })
restore_of false dest plan = query.Restore dest plan

-- what each asks for, by what is read of its words
abbrev pub command_of : Sentence → Read → Command
command_of Super read = command.Super
command_of DumpAll read = command.Ask (query.Dump dump.All)
command_of DumpBlock read = command.Ask (query.Dump (dump.Block read.number))
command_of DumpTree read = command.Ask (query.Dump (dump.Tree read.number))
command_of DumpRoots read = command.Ask (query.Dump dump.RootLines)
command_of Resolve read = command.Ask (query.Resolve read.number)
command_of Check read = command.Check false
command_of CheckData read = command.Check true
command_of Scrub read = command.Scrub true
command_of ScrubRead read = command.Scrub false
command_of Roots read = command.Ask (query.Dump dump.RootLines)
command_of Restore read =
    command.Ask (restore_of read.options.salvage read.name (plan_by read.options))
command_of Send read = command.Ask (query.Send read.name read.file (send_by read.options))
command_of SelfTest read = command.SelfTest read.number

-- the images that a sentence names: one or more
abbrev pub AreImages : Words → Type 0
AreImages [] = ⊥
AreImages (first ∷ more) = All IsName (first ∷ more)

-- options, each of which isn't among those before it, and behind them the destination's name
pub record TakesDestination (at : ℕ) (words : Words) (old new : Read) : Type 0 where
  pub options : List OneOption
  pub name : List ℕ
  pub free : AreFree old.options options
  pub named : IsName name
  pub words_are : words ≡ options_words options ++ name ∷ []
  pub read_is : new ≡ record old {
    options = with_options old.options options;
    name = at + length (options_words options);
  }

-- one part of a sentence takes these words, the first of which has this number, and more is read
-- then than before
abbrev pub PartTakes : Part → ℕ → Words → Read → Read → Type 0
PartTakes (Word this) at words old new = (words ≡ this ∷ []) × (new ≡ old)
PartTakes Number at words old new =
    (n : ℕ) × (word : List ℕ) × IsNumber n word × (words ≡ word ∷ [])
    × (new ≡ record old { number = n })
PartTakes Destination at words old new = TakesDestination at words old new
PartTakes File at words old new =
    (word : List ℕ) × IsTrue (is_file word) × (words ≡ word ∷ []) × (new ≡ record old { file = at })
PartTakes Volume at words old new =
    (n : ℕ) × (word : List ℕ) × IsNumber n word × IsTrue (is_volume n) × (words ≡ word ∷ [])
    × (new ≡ record old { number = n; images = at + 1 })

-- the parts of a sentence take these words, one behind another, and a volume or the images' names
-- come last
abbrev pub ReadsParts : List Part → ℕ → Words → Read → Read → Type 0
ReadsParts [] at words old new = AreImages words × (new ≡ record old { images = at })
ReadsParts (Volume ∷ parts) at words old new = PartTakes Volume at words old new
ReadsParts (part ∷ parts) at words old new =
    (taken : Words) × (rest : Words) × (mid : Read) × (words ≡ taken ++ rest)
    × PartTakes part at taken old mid × ReadsParts parts (at + length taken) rest mid new

-- before the first word nothing is read
abbrev pub nothing : Read
nothing = record { number = 0; options = no_options; name = 0; file = 0; images = 0 }

-- the options before the first word; for a send as if all but an id stood there, as it takes no
-- others
abbrev pub options_of : Sentence → Options
options_of Send = id_alone
options_of sentence = no_options

-- what is read of a sentence before its first word
abbrev pub nothing_of : Sentence → Read
nothing_of sentence = record nothing { options = options_of sentence }

-- the plan of a sentence
abbrev pub plan_for : Sentence → Read → Plan
plan_for sentence read = record { command = command_of sentence read; images = read.images }

-- the words are a sentence of this form, and this is read of them
abbrev pub IsRead : Sentence → Words → Read → Type 0
IsRead sentence words read = ReadsParts (parts_of sentence) 0 words (nothing_of sentence) read

-- the words are no sentence of this form, and so many of them, and no more, begin one
pub record IsShort (sentence : Sentence) (words : Words) (at : ℕ) : Type 0 where
  pub none : (read : Read) → ¬ IsRead sentence words read
  pub within : at ≤ length words
  pub begins : (rest : Words) × (read : Read) × IsRead sentence (take at words ++ rest) read
  pub longest : (n : ℕ) → at < n → n ≤ length words → (rest : Words) (read : Read)
      → ¬ IsRead sentence (take n words ++ rest) read

-- the words ask for a command and name one or more images
pub record IsSentence (plan : Plan) (words : Words) : Type 0 where
  pub sentence : Sentence
  pub read : Read
  pub is_read : IsRead sentence words read
  pub plan_is : plan ≡ plan_for sentence read

-- the names of the images
abbrev pub images_of : Plan → Words → Words
images_of plan words = drop plan.images words

-- the words begin some sentence
pub record Begins (words : Words) : Type 0 where
  pub plan : Plan
  pub rest : Words
  pub sentence : IsSentence plan (words ++ rest)

-- the words are no sentence, and so many of them, and no more, begin one
pub record IsUsageAt (words : Words) (at : ℕ) : Type 0 where
  pub no_sentence : (plan : Plan) → ¬ IsSentence plan words
  pub within : at ≤ length words
  pub begins : Begins (take at words)
  pub longest : (n : ℕ) → at < n → n ≤ length words → ¬ Begins (take n words)
