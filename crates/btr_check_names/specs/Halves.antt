-- The halves of names: each name is given by two items, and is counted on both sides.
use Rattle.std.specs.Prelude.{◌≡◌, ℕ, ◌==◌, Bool, true, false, ◌&&◌, ◌||◌, not, cond, List, [], ◌∷◌, ◌++◌, count_by, filter_map, Option, Some, None}
use Rattle.std.specs.Prelude.{option_map, if◌then◌else◌}
use Rattle.std.specs.BTreeMap.{is_at}
use Rattle.std.specs.List.{list_any}
use Rattle.std.specs.Str.{bytes_eq}
use Rattle.btr_check_names.specs.declared.claim.Claim.{Claim}
use Rattle.btr_check_names.specs.declared.inode_at.InodeAt.{InodeAt}
use Rattle.btr_check_names.specs.Entry.{Entry, NameRef}
use Rattle.btr_check_names.specs.Names.{Names, format_of, is_free, is_unlinked, leads_to_inode, under_hash}
use Rattle.btr_check_names.specs.Pairs.{Pairs, met, claim_cmp, entry_claim, link_claim, ref_claim}

-- a half: what one of two items claims, which of the two it is, and the name that it gives
pub record ClaimedHalf : Type 0 where
  pub claim : Claim
  pub is_first : Bool
  pub name : List ℕ

-- a half is this one
abbrev pub gives : Claim → Bool → List ℕ → ClaimedHalf → Bool
gives claim is_first name half = is_at (claim_cmp claim) half.claim && (cond half.is_first is_first (not is_first) && bytes_eq half.name name)

-- how often a half is given
abbrev pub times : List ClaimedHalf → Claim → Bool → List ℕ → ℕ
times halves claim is_first name = count_by (gives claim is_first name) halves

-- each name is given at each claim as often by first items as by second ones
abbrev pub IsBalanced : List ClaimedHalf → Type 0
IsBalanced halves = (claim : Claim) (name : List ℕ) → times halves claim true name ≡ times halves claim false name

-- the pairs after one more half, if there is one
abbrev pub meets : Pairs → Option ClaimedHalf → Pairs
meets pairs None = pairs
meets pairs (Some half) = met pairs half.claim half.is_first half.name

-- a half with its side exchanged
abbrev pub turned : ClaimedHalf → ClaimedHalf
turned half = record { claim = half.claim; is_first = not half.is_first; name = half.name }

-- a half as it counts, with its side exchanged or not
abbrev pub sided : Bool → Option ClaimedHalf → Option ClaimedHalf
sided is_turned half = if is_turned then option_map turned half else half

-- an entry at an index asks for one under its name's hash, unless its directory has no links
abbrev pub index_half : Bool → Entry → Option ClaimedHalf
index_half gone entry = if gone then None else Some (record { claim = entry_claim (under_hash entry); is_first = true; name = entry.name })

-- an entry under a hash asks for one at an index, unless its directory has no links
abbrev pub hash_half : Bool → Entry → Option ClaimedHalf
hash_half gone entry = if gone then None else Some (record { claim = entry_claim entry; is_first = false; name = entry.name })

-- an entry that leads to an inode asks for a reference of it, unless its directory has no links
abbrev pub asked_half : Bool → Entry → Option ClaimedHalf
asked_half gone entry = if gone || not (leads_to_inode entry) then None else Some (record { claim = link_claim entry; is_first = true; name = entry.name })

-- a reference of an inode whose mode has this kind asks for an entry, unless it needs none
abbrev pub ref_half : ℕ → ℕ → NameRef → Option ClaimedHalf
ref_half dirid format ref = if is_free dirid ref then None else Some (record { claim = ref_claim format ref; is_first = false; name = ref.name })

-- a directory of this number is there, and has no links
abbrev pub is_gone_in : List InodeAt → ℕ → Bool
is_gone_in inodes dir = list_any (λ (at : InodeAt). (at.number == dir) && is_unlinked at) inodes

-- the kind in the mode of the inode of a number, and 0 where there is none
abbrev pub format_at : List InodeAt → ℕ → ℕ
format_at [] number = 0
format_at (at ∷ inodes) number = if at.number == number then format_of at.inode else format_at inodes number

module _ (names : Names) where
  -- what the entries of a tree give of one another
  abbrev pub entry_halves : List ClaimedHalf
  entry_halves =
      filter_map (λ (entry : Entry). index_half (is_gone_in names.inodes entry.dir) entry) names.indexed
      ++ filter_map (λ (entry : Entry). hash_half (is_gone_in names.inodes entry.dir) entry) names.hashed

  -- what entries that lead to inodes and the references of these give of one another
  abbrev pub link_halves : List ClaimedHalf
  link_halves =
      filter_map (λ (entry : Entry). asked_half (is_gone_in names.inodes entry.dir) entry) names.indexed
      ++ filter_map (λ (ref : NameRef). ref_half names.dirid (format_at names.inodes ref.inode) ref) names.refs
