-- What the words of a command line ask for.
use Rattle.std.specs.Prelude.{ℕ, ◌^◌, ◌<◌, List, IfSome, IsTrue}
use Rattle.std.specs.Str.Parse.{IsNumeral, digits_value, without_leading_plus}
use Rattle.btr_bench.specs.Task.{task_of, takes}

-- a word is a decimal number of 64 bits
abbrev pub IsNumber : List ℕ → Type 0
IsNumber word = IsNumeral 10 (without_leading_plus word) × (digits_value 10 (without_leading_plus word) < 2 ^ 64)

-- the number that it is
abbrev pub number_of : List ℕ → ℕ
number_of word = digits_value 10 (without_leading_plus word)

-- where the words name a task, a size that it takes and a number of turns
abbrev pub IfPlanned : List ℕ → List ℕ → List ℕ → Type 0 → Type 0
IfPlanned task size times P =
    IfSome (task_of task) (λ found. IsNumber size → IsTrue (takes found (number_of size)) → IsNumber times → P)
