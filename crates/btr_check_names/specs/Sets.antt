-- Sets and sums that are made of lists, to look up in.
use Rattle.std.specs.Prelude.{◌≡◌, ℕ, ◌==◌, ◌&&◌, Bool, List, unwrap_or}
use Rattle.std.specs.BTreeMap.{BTreeMap, get}
use Rattle.std.specs.BTreeSet.{BTreeSet, contains}
use Rattle.std.specs.List.{list_any}
use Rattle.std.specs.Ordering.{nat_cmp, ordering_then}
use Rattle.std.specs.Cmp.Lexicographic.{slice_cmp}
use Rattle.std.specs.declared.cmp.Ordering.{Ordering}
use Rattle.btr_check_names.specs.declared.dir_entry.DirEntry.{DirEntry}
use Rattle.btr_check_names.specs.declared.dir_entry.Target.{Target}
use Rattle.btr_check_names.specs.declared.inode_at.InodeAt.{InodeAt}
use Rattle.btr_check_names.specs.declared.link_name.LinkName.{LinkName}
use Rattle.btr_check_names.specs.declared.mode_at.ModeAt.{ModeAt}
use Rattle.btr_check_names.specs.Entry.{Entry, NameRef, entry_of, ref_of}
use Rattle.btr_check_names.specs.Names.{is_among, is_entry, same_ref, format_of}

-- what entries lead to is ordered field by field
abbrev pub target_cmp : Target → Target → Ordering
target_cmp a b = ordering_then (nat_cmp a.objectid b.objectid) (ordering_then (nat_cmp a.kind b.kind) (nat_cmp a.offset b.offset))

-- entries are ordered field by field
abbrev pub entry_cmp : DirEntry → DirEntry → Ordering
entry_cmp a b =
    ordering_then (nat_cmp a.dir b.dir)
    (ordering_then (nat_cmp a.offset b.offset)
    (ordering_then (target_cmp a.target b.target) (ordering_then (nat_cmp a.kind b.kind) (slice_cmp nat_cmp a.name.now b.name.now))))

-- references are ordered field by field
abbrev pub link_cmp : LinkName → LinkName → Ordering
link_cmp a b = ordering_then (nat_cmp a.inode b.inode)
    (ordering_then (nat_cmp a.parent b.parent) (ordering_then (nat_cmp a.index b.index) (slice_cmp nat_cmp a.name.now b.name.now)))

-- modes are ordered by the inode's number, then the kind
abbrev pub mode_cmp : ModeAt → ModeAt → Ordering
mode_cmp a b = ordering_then (nat_cmp a.number b.number) (nat_cmp a.format b.format)

-- a set has just the entries of a list
abbrev pub HasEntries : List Entry → BTreeSet DirEntry → Type 0
HasEntries entries set = (one : DirEntry) → contains entry_cmp set one ≡ list_any (is_entry (entry_of one)) entries

-- a set has just the references of a list
abbrev pub HasRefs : List NameRef → BTreeSet LinkName → Type 0
HasRefs refs set = (one : LinkName) → contains link_cmp set one ≡ list_any (same_ref (ref_of one)) refs

-- an inode has this number, and this kind in its mode
abbrev pub is_mode : ModeAt → InodeAt → Bool
is_mode mode at = (mode.number == at.number) && (mode.format == format_of at.inode)

-- a set has just the numbers of inodes with the kinds in their modes
abbrev pub HasModes : List InodeAt → BTreeSet ModeAt → Type 0
HasModes inodes set = (one : ModeAt) → contains mode_cmp set one ≡ list_any (is_mode one) inodes

-- a set has just the numbers of a list
abbrev pub HasNumbers : List ℕ → BTreeSet ℕ → Type 0
HasNumbers numbers set = (one : ℕ) → contains nat_cmp set one ≡ is_among numbers one

-- a map has these sums at all numbers; where it has none the sum is 0
abbrev pub sum_in : BTreeMap ℕ ℕ → ℕ → ℕ
sum_in sums number = unwrap_or (get nat_cmp sums number) 0

-- a map has these sums at all numbers
abbrev pub HasSums : (ℕ → ℕ) → BTreeMap ℕ ℕ → Type 0
HasSums sum sums = (number : ℕ) → sum_in sums number ≡ sum number
