-- Names that two items each are to give.
use Rattle.std.specs.Prelude.{◌≡◌, ℕ, ◌==◌, Bool, true, false, ◌&&◌, ◌||◌, not, cond, List, ◌++◌, Option, Some, None, refl}
use Rattle.std.specs.BTreeMap.{is_at}
use Rattle.std.specs.Coded.{Coded, code_by, coded×, coded_ℕ, coded_bool, coded_list}
use Rattle.std.specs.FinMap.{FinMap, code, empty, entries, from_entries, get, insert, len, remove}
use Rattle.std.specs.Map.{lookup}
use Rattle.std.specs.Ordering.{nat_cmp, ordering_then}
use Rattle.std.specs.Str.{bytes_eq}
use Rattle.std.specs.declared.cmp.Ordering.{Ordering}
use Rattle.btr_base.specs.declared.key.Key.{Key}
use Rattle.btr_check_names.specs.declared.claim.Claim.{Claim}
use Rattle.btr_check_names.specs.declared.dir_entry.Target.{Target}
use Rattle.btr_check_names.specs.Entry.{Entry, NameRef}
use Rattle.btr_check_names.specs.Names.{mode_of_kind}
use Rattle.btr_check_names.specs.Sets.{target_cmp}

-- what a location leads to
abbrev pub target_of : Key → Target
target_of key = record { objectid = key.objectid; kind = key.kind; offset = key.offset }

-- what leads to the inode of a number
abbrev pub inode_target : ℕ → Target
inode_target number = record { objectid = number; kind = 1; offset = 0 }

-- what an entry of a directory says, but for its name
abbrev pub entry_claim : Entry → Claim
entry_claim entry = record { dir = entry.dir; offset = entry.offset; target = target_of entry.location; kind = entry.kind }

-- what an entry says of the inode that it leads to
abbrev pub link_claim : Entry → Claim
link_claim entry = record { dir = entry.dir; offset = entry.offset; target = inode_target entry.location.objectid; kind = mode_of_kind entry.kind }

-- what a reference says of its inode, whose mode has this kind
abbrev pub ref_claim : ℕ → NameRef → Claim
ref_claim format ref = record { dir = ref.parent; offset = ref.index; target = inode_target ref.inode; kind = format }

-- claims are ordered field by field
abbrev pub claim_cmp : Claim → Claim → Ordering
claim_cmp a b = ordering_then (nat_cmp a.dir b.dir) (ordering_then (nat_cmp a.offset b.offset) (ordering_then (target_cmp a.target b.target)
    (nat_cmp a.kind b.kind)))

-- one of two items that are to give the same name, and the name that it gives
pub record Half : Type 0 where
  pub is_first : Bool
  pub name : List ℕ

-- an item and the one that waits are the two, and give the same name
abbrev pub fits : Half → Bool → List ℕ → Bool
fits half is_first name = cond half.is_first (not is_first) is_first && bytes_eq half.name name

-- what waits at claims, and whether two items have given different names
pub record Pairs : Type 0 where
  pub waiting : FinMap claim_cmp Half
  pub differ : Bool

-- a claim as numbers and lists of these
abbrev pub coded_claim : Coded Claim
coded_claim =
    code_by (ℕ × (ℕ × ((ℕ × (ℕ × ℕ)) × ℕ))) (coded× coded_ℕ (coded× coded_ℕ (coded× (coded× coded_ℕ (coded× coded_ℕ coded_ℕ)) coded_ℕ)))
    (λ c. (c.dir, (c.offset, ((c.target.objectid, (c.target.kind, c.target.offset)), c.kind))))
    (λ p. record { dir = p.0; offset = p.1.0; target = record { objectid = p.1.1.0.0; kind = p.1.1.0.1.0; offset = p.1.1.0.1.1 }; kind = p.1.1.1 }) (λ _. refl)

-- the same of a half
abbrev pub coded_half : Coded Half
coded_half = code_by (Bool × List ℕ) (coded× coded_bool (coded_list coded_ℕ)) (λ h. (h.is_first, h.name)) (λ p. record { is_first = p.0; name = p.1 })
    (λ _. refl)

-- the same of what waits
abbrev pub coded_waiting : Coded (FinMap claim_cmp Half)
coded_waiting = code coded_claim coded_half

-- the same of pairs
abbrev pub coded_pairs : Coded Pairs
coded_pairs = code_by (FinMap claim_cmp Half × Bool) (coded× coded_waiting coded_bool) (λ p. (p.waiting, p.differ))
    (λ p. record { waiting = p.0; differ = p.1 }) (λ _. refl)

-- what waits in a list and in a map
abbrev pub joined : FinMap claim_cmp Half → List (Claim × Half) → FinMap claim_cmp Half
joined list map = from_entries (entries list ++ map)

-- what a map has at a claim
abbrev pub map_at : List (Claim × Half) → Claim → Option Half
map_at map claim = lookup (is_at (claim_cmp claim)) map

-- a map differs from an older one at a claim alone, where it has this
abbrev pub SetsOnly : List (Claim × Half) → Claim → Option Half → List (Claim × Half) → Type 0
SetsOnly old claim half new = (other : Claim) → map_at new other ≡ cond (is_at (claim_cmp claim) other) half (map_at old other)

-- what waits in a list doesn't wait in a map
abbrev pub WaitOnce : FinMap claim_cmp Half → List (Claim × Half) → Type 0
WaitOnce list map = (claim : Claim) (half : Half) → get list claim ≡ Some half → map_at map claim ≡ None

-- nothing waits yet, and no names differ
abbrev pub no_pairs : Pairs
no_pairs = record { waiting = empty; differ = false }

-- what waits at a claim
abbrev pub waiting_at : FinMap claim_cmp Half → Claim → Option Half
waiting_at waiting claim = get waiting claim

-- an item comes where another one waits, or none
abbrev pub met_fits : Option Half → Bool → List ℕ → Bool
met_fits None is_first name = true
met_fits (Some half) is_first name = fits half is_first name

-- what waits after an item: it waits where none waited, and else the other one does no more
abbrev pub met_left : FinMap claim_cmp Half → Option Half → Claim → Bool → List ℕ → FinMap claim_cmp Half
met_left waiting None claim is_first name = insert waiting claim (record { is_first = is_first; name = name })
met_left waiting (Some half) claim is_first name = remove waiting claim

-- what waits then
abbrev pub waiting_then : FinMap claim_cmp Half → Claim → Bool → List ℕ → FinMap claim_cmp Half
waiting_then waiting claim is_first name = met_left waiting (waiting_at waiting claim) claim is_first name

-- the pairs after one more item with a claim and a name
abbrev pub met : Pairs → Claim → Bool → List ℕ → Pairs
met pairs claim is_first name = record {
  waiting = waiting_then pairs.waiting claim is_first name;
  differ = pairs.differ || not (met_fits (waiting_at pairs.waiting claim) is_first name);
}

-- each name was given by both, and none waits
abbrev pub are_met : Pairs → Bool
are_met pairs = not pairs.differ && (len pairs.waiting == 0)
