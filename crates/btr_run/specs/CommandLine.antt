-- The words of a command line, as bytes and as text.
use Rattle.std.specs.Prelude.{◌≡◌, ℕ, ◌<◌, List, [], length, take, get_or, slice_get, Option, Some, None, IfSome, IsSomeAnd, Result, Ok, Err, IsUtf8, Vec}
use Rattle.std.specs.declared.alloc.Global.{Global}
use Rattle.std.specs.declared.env.FillError.{FillError}
use Rattle.std.specs.declared.env.FillError.TheVariants.{NotPresent, TooLong}

-- the word of a number was copied into a buffer, or there is none, or it is
-- longer than the buffer, where the words are told
abbrev pub IsWordIn : Option (List (List ℕ)) → ℕ → List ℕ → Result ℕ FillError → Type 0
IsWordIn told number buffer (Ok len) = IfSome told (λ words. slice_get words number ≡ Some (take len buffer))
IsWordIn told number buffer (Err NotPresent) = IfSome told (λ words. slice_get words number ≡ None)
IsWordIn told number buffer (Err TooLong) = IfSome told (λ words. IsSomeAnd (slice_get words number) (λ word. length buffer < length word))

-- the whole word of a number, or there is none
abbrev pub IsWord : Option (List (List ℕ)) → ℕ → Option (Vec ℕ Global) → Type 0
IsWord told number (Some word) = IfSome told (λ words. slice_get words number ≡ Some word.items)
IsWord told number None = IfSome told (λ words. slice_get words number ≡ None)

-- a word as text: its bytes where they are UTF-8, and an empty text otherwise
pub record IsTextOf (bytes text : List ℕ) : Type 0 where
  pub valid : IsUtf8 bytes → text ≡ bytes
  pub broken : (IsUtf8 bytes → ⊥) → text ≡ []

-- texts are those of all words
pub record AreAllTexts (words texts : List (List ℕ)) : Type 0 where
  pub many : length texts ≡ length words
  pub each : (number : ℕ) → number < length words → IsTextOf (get_or words number []) (get_or texts number [])

-- texts are those of all words, where the words are told
abbrev pub AreTexts : Option (List (List ℕ)) → List (List ℕ) → Type 0
AreTexts told texts = IfSome told (λ words. AreAllTexts words texts)
