-- How often references are met, as sums and as a map.
use Rattle.std.specs.Prelude.{◌≡◌, ℕ, ◌+◌, Bool, cond, List, [], fold, sum_by, unwrap_or, Option, Some, None, if◌then◌else◌}
use Rattle.std.specs.BTreeMap.{insert_entry, is_at}
use Rattle.std.specs.List.{list_any}
use Rattle.std.specs.Map.{lookup}
use Rattle.btr_refs.specs.declared.counted.Counted.{Counted}
use Rattle.btr_refs.specs.declared.ref_key.RefKey.{RefKey}
use Rattle.btr_refs.specs.RefKey.{ref_cmp, same_ref}

-- how often one is met among some, in all
abbrev pub sum_of : List Counted → RefKey → ℕ
sum_of refs one = sum_by (λ (other : Counted). cond (same_ref one other.key) other.count 0) refs

-- whether one is met among some, be it 0 times
abbrev pub is_met : List Counted → RefKey → Bool
is_met refs one = list_any (λ (other : Counted). same_ref one other.key) refs

-- how often a reference is met among some, if it is met
abbrev pub count_of : List Counted → RefKey → Option ℕ
count_of refs one = if is_met refs one then Some (sum_of refs one) else None

-- references, each with a count, in the order of the references
abbrev pub RefCounts : Type 0
RefCounts = List (RefKey × ℕ)

-- how often a reference is counted, if it is
abbrev pub found_at : RefCounts → RefKey → Option ℕ
found_at counts one = lookup (is_at (ref_cmp one)) counts

-- a map has just the references that are met, and how often they are
abbrev pub HasCounts : List Counted → RefCounts → Type 0
HasCounts refs counts = (one : RefKey) → found_at counts one ≡ count_of refs one

-- what a map says of one: 0 where it has no entry
abbrev pub count_in : RefCounts → RefKey → ℕ
count_in counts one = unwrap_or (found_at counts one) 0

-- the counts with one more reference
abbrev pub counted : RefCounts → Counted → RefCounts
counted counts one = insert_entry ref_cmp counts one.key (count_in counts one.key + one.count)

-- the counts with some more references
abbrev pub counted_all : RefCounts → List Counted → RefCounts
counted_all counts refs = fold counted counts refs

-- counting some references gives the map that has just these
abbrev pub CountsLaw : Type 0
CountsLaw = (refs : List Counted) → HasCounts refs (counted_all [] refs)
