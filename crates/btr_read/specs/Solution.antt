-- The one solution of equations over lists of bytes.
use Rattle.std.specs.Prelude.{ℕ, zero, suc, Bool, List, [], ◌∷◌, ◌++◌, map}
use Rattle.std.specs.List.{find, range_with_len}
use Rattle.std.specs.Option.{unwrap_or}

-- the lists that begin with one of the bytes and go on as one of the rests
abbrev pub each_before : List ℕ → List (List ℕ) → List (List ℕ)
each_before [] rests = []
each_before (byte ∷ bytes) rests = map (λ rest. byte ∷ rest) rests ++ each_before bytes rests

-- all lists of n bytes
unfoldable pub byte_lists : ℕ → List (List ℕ)
byte_lists zero = [] ∷ []
byte_lists (suc n) = each_before (range_with_len 0 256) (byte_lists n)

-- the list of n bytes that solves equations, where just one does
unfoldable pub the_one : ℕ → (List ℕ → Bool) → List ℕ
the_one n solves = unwrap_or (find solves (byte_lists n)) []
