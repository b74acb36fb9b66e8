-- References in a list, in their order, and how often they are counted beside it.
use Rattle.std.specs.Prelude.{◌≡◌, ℕ, ◌<◌, List, [], ◌∷◌, ◌++◌, map, length, replicate, None, T}
use Rattle.std.specs.FinMap.{is_sorted}
use Rattle.std.specs.List.{All, HoldsAt}
use Rattle.std.specs.List.Sorted.{IsStrictlySortedBy}
use Rattle.std.specs.Map.{keys_of}
use Rattle.btr_refs.specs.declared.counted.Counted.{Counted}
use Rattle.btr_refs.specs.declared.ref_key.RefKey.{RefKey}
use Rattle.btr_refs.specs.Counts.{RefCounts, counted_all, found_at}
use Rattle.btr_refs.specs.RefKey.{ref_cmp}

-- the references of a list as the entries of a map
abbrev pub entries_of : List Counted → RefCounts
entries_of refs = map (λ (one : Counted). (one.key, one.count)) refs

-- they stand in their order, each once
abbrev pub Ascends : List Counted → Type 0
Ascends refs = IsStrictlySortedBy ref_cmp (keys_of (entries_of refs))

-- a reference stands at a place
pub record HasKey (refs : List Counted) (key : RefKey) (at : ℕ) : Type 0 where
  pub below : at < length refs
  pub is : HoldsAt (λ (one : Counted). one.key ≡ key) refs at

-- each reference as often as the number beside it says, once each time
abbrev pub met_times : List Counted → List ℕ → List Counted
met_times [] times = []
met_times (one ∷ refs) [] = []
met_times (one ∷ refs) (n ∷ times) = replicate n (record { key = one.key; count = 1 }) ++ met_times refs times

-- how often each is counted, by the numbers beside them; and so are others
abbrev pub tallied : List Counted → List ℕ → RefCounts → RefCounts
tallied refs times others = counted_all others (met_times refs times)

-- a map has its references in their order
abbrev pub IsOrdered : RefCounts → Type 0
IsOrdered counts = T (is_sorted ref_cmp counts)

-- references in their order have a number each beside them, and none of the others, which are in their order, is one of them
pub record AreTallied (refs : List Counted) (times : List ℕ) (others : RefCounts) : Type 0 where
  pub ascends : Ascends refs
  pub beside : length times ≡ length refs
  pub ordered : IsOrdered others
  pub apart : All (λ key. found_at (entries_of refs) key ≡ None) (keys_of others)
