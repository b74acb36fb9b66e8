-- Names of files and folders.
use Rattle.std.specs.Prelude.{◌≡◌, ℕ, Bool, false, not, ◌||◌, ◌==◌, List, [], codes}
use Rattle.std.specs.List.{list_any}
use Rattle.std.specs.Str.{bytes_eq, is_utf8}

-- empty, `.` or `..`
abbrev pub is_reserved : List ℕ → Bool
is_reserved name = bytes_eq name [] || bytes_eq name (codes ".") || bytes_eq name (codes "..")

-- it holds `/` or a zero byte
abbrev pub is_split : List ℕ → Bool
is_split name = list_any (λ b. (b == 47) || (b == 0)) name

-- a name that no folder has for an entry: it isn't UTF-8, is empty, `.` or `..`, or holds `/` or a zero byte
abbrev pub is_bad : List ℕ → Bool
is_bad name = not (is_utf8 name) || is_reserved name || is_split name

-- a name of an entry of a folder
abbrev pub IsGoodName : List ℕ → Type 0
IsGoodName name = is_bad name ≡ false
