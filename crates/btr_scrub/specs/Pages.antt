-- A list in pages.
use Rattle.std.specs.Prelude.{◌≡◌, ℕ, List, [], ◌∷◌, ◌++◌, length, Vec}
use Rattle.std.specs.declared.alloc.Global.{Global}

module _ {T : Type 0} where
  -- the items of pages, and those behind them
  abbrev pub items_in : List (Vec T Global) → List T → List T
  items_in [] last = last
  items_in (page ∷ pages) last = page.items ++ items_in pages last

  -- how many there are
  abbrev pub count_in : List (Vec T Global) → List T → ℕ
  count_in pages last = length (items_in pages last)

  -- each page has 4096 items
  abbrev pub AreFull : List (Vec T Global) → Type 0
  AreFull [] = Unit {0}
  AreFull (page ∷ pages) = (length page.items ≡ 4096) × AreFull pages
