use Rattle.std.proofs.Common.{◌≡◌, ◌<◌, ◌≤◌, ◌∙◌, ℕ, List, [], String, Option, sym, ap, subst, arith, map, length, take, get_or, Some}
use Rattle.std.specs.Option.{option_map}
use Rattle.std.specs.String.{string_bytes}
use Rattle.std.specs.declared.alloc.Global.{Global}
use Rattle.std.proofs.lemmas.List.{get_or-map, length-map, take_all}
use Rattle.btr_run.specs.Walk.{Stage, stage_of}
use Rattle.btr_run.specs.Words.{IsShort}
use Rattle.btr_run.specs.declared.sentence.Sentence.{Sentence}
use Rattle.btr_run.proofs.Machine.{reached, reached_more, step}
use Rattle.btr_run.proofs.Usage.{short_at, short_end, start, was_read}
use Rattle.btr_run.proofs.sentence.Sentence.read.Goals as goal

-- the word at an index, as the words' texts have it
abbrev word : String Global → List ℕ
word s = string_bytes s

-- where the word at an index leads from a place
word_at : (xs : List (String Global)) (i : ℕ) (x : String Global) (w : List ℕ) (here : Stage) (o : Option Stage) → i < length xs → w ≡ word x
    → x ≡ get_or xs i x
    → o ≡ step here i w → step here i (get_or (map word xs) i []) ≡ o
word_at xs i x w here o lt is at e = ap (step here i) (get_or-map word xs i x [] lt ∙ sym (ap word at) ∙ sym is) ∙ sym e

all_words : (sentence : Sentence) (xs : List (String Global)) (i : ℕ) (here : Stage) → length xs ≤ i
    → reached (start sentence) 0 (take i (map word xs)) ≡ Some here
    → reached (start sentence) 0 (map word xs) ≡ Some here
all_words sentence xs i here le led = ap (reached (start sentence) 0) (sym (take_all i (map word xs) (omega (arith, length-map xs word)))) ∙ led

pub returns-in-None-clause-short : goal.returns-in-None-clause-short
returns-in-None-clause-short c =
    short_at c.args.self (map word c.args.words.now) c.loop-at.at [] (stage_of c.loop-at.place)
    (omega (arith, length-map c.args.words.now word)) c.loop-at.invariant
    (word_at c.args.words.now c.loop-at.at c.index-words-at.result c.as_str.result.now (stage_of c.loop-at.place) (option_map stage_of c.behind.result)
    (omega arith)
    c.as_str.ensures.value c.index-words-at.is c.behind.ensures ∙ ap (option_map stage_of) c.in-None.is)

pub loop-at-preserved : goal.loop-at-preserved
loop-at-preserved c =
    reached_more (map word c.args.words.now) c.loop-at.at [] (start c.args.self) (stage_of c.loop-at.place) (stage_of c.in-Some.next)
    (omega (arith, length-map c.args.words.now word)) c.loop-at.invariant
    (word_at c.args.words.now c.loop-at.at c.index-words-at.result c.as_str.result.now (stage_of c.loop-at.place) (option_map stage_of c.behind.result)
    (omega arith)
    c.as_str.ensures.value c.index-words-at.is c.behind.ensures ∙ ap (option_map stage_of) c.in-Some.is)

pub returns-in-Some-read-clause-whole : goal.returns-in-Some-read-clause-whole
returns-in-Some-read-clause-whole c =
    was_read c.args.self (map word c.args.words.now) (stage_of c.loop-at.place) c.in-Some-read.read
    (all_words c.args.self c.args.words.now c.loop-at.at (stage_of c.loop-at.place) c.loop-at-test.false c.loop-at.invariant)
    (sym c.read.ensures ∙ c.in-Some-read.is)

pub returns-in-None-read-clause-short : goal.returns-in-None-read-clause-short
returns-in-None-read-clause-short c =
    subst (IsShort c.args.self (map word c.args.words.now)) (length-map c.args.words.now word)
    (short_end c.args.self (map word c.args.words.now) (stage_of c.loop-at.place)
    (all_words c.args.self c.args.words.now c.loop-at.at (stage_of c.loop-at.place) c.loop-at-test.false c.loop-at.invariant)
    (sym c.read.ensures ∙ c.in-None-read.is))
