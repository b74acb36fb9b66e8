-- The forms of sentences, by number.
use Rattle.std.proofs.Common.{ℕ, List, get_or}
use Rattle.btr_run.specs.declared.sentence.Sentence.{Sentence}
use Rattle.btr_run.specs.declared.sentence.Sentence.TheVariants.{Super}
use Rattle.btr_run.specs.declared.sentence.TheConstants.Sentence.{ALL}

-- all of them
abbrev pub forms : List Sentence
forms = ALL

-- the form of a number
abbrev pub form_at : ℕ → Sentence
form_at number = get_or forms number Super
