-- Ranges of inodes, and the items of a tree that are theirs.
use Rattle.std.specs.Prelude.{◌≡◌, ◌≤◌, ℕ, ◌^◌, ◌-◌, Bool, true, ◌&&◌, not, nat_le, nat_lt, List}
use Rattle.std.specs.Prelude.{[], ◌∷◌, filter, Option, Some, None}
use Rattle.std.specs.List.{list_any}
use Rattle.btr_base.specs.Key.{key_le, key_number, last_key}
use Rattle.btr_base.specs.declared.key.Key.{Key}
use Rattle.btr_walk.specs.declared.block_pointer.BlockPointer.{BlockPointer}
use Rattle.btr_walk.specs.BlockPointer.{is_below}
use Rattle.btr_walk.specs.Le.{TreeItem}
use Rattle.btr_check_differences.specs.declared.inode_range.InodeRange.{InodeRange}

-- the first key that an item of some inodes can have
abbrev pub low : InodeRange → Key
low range = record { objectid = range.first; kind = 0; offset = 0 }

-- the last one
abbrev pub high : InodeRange → Key
high range = record { objectid = range.last; kind = 255; offset = 2 ^ 64 - 1 }

-- a key is one of an item of these inodes
abbrev pub holds : Key → InodeRange → Bool
holds key range = key_le (low range) key && key_le key (high range)

-- a key is one of an item of the inodes in some ranges
abbrev pub is_among : List InodeRange → Key → Bool
is_among ranges key = list_any (holds key) ranges

-- the items of these inodes
abbrev pub items_among : List InodeRange → List TreeItem → List TreeItem
items_among ranges items = filter (λ (item : TreeItem). is_among ranges item.key) items

-- the items of all other inodes
abbrev pub items_beside : List InodeRange → List TreeItem → List TreeItem
items_beside ranges items = filter (λ (item : TreeItem). not (is_among ranges item.key)) items

-- each key of some ranges is one of others
abbrev pub AreIn : List InodeRange → List InodeRange → Type 0
AreIn some others = (key : Key) → is_among some key ≡ true → is_among others key ≡ true

-- a range ends before the first one of others begins
abbrev pub is_before : InodeRange → List InodeRange → Bool
is_before range [] = true
is_before range (next ∷ ranges) = nat_lt range.last next.first

-- a range ends where it begins or behind, and has numbers of 64 bits
abbrev pub is_range : InodeRange → Bool
is_range range = nat_le range.first range.last && nat_le range.last (2 ^ 64 - 1)

-- ranges ascend, and no two of them meet
abbrev pub are_apart : List InodeRange → Bool
are_apart [] = true
are_apart (range ∷ ranges) = is_range range && (is_before range ranges && are_apart ranges)

-- a key isn't below the first one of a block, if that is known
abbrev pub is_from : Option Key → Key → Bool
is_from None key = true
is_from (Some first) key = key_le first key

-- a block at a pointer may have a key
abbrev pub may_have : BlockPointer → Key → Bool
may_have pointer key = is_from pointer.first key && (is_below pointer.up key && key_le key last_key)

-- a block with this first key has no items of inodes below this one
abbrev pub BeginsAt : Option Key → ℕ → Type 0
BeginsAt first inode = (key : Key) → is_from first key ≡ true
    → key_number (low (record { first = inode; last = inode })) ≤ key_number key

-- a block with this bound has no items of inodes above this one
abbrev pub EndsAt : Option Key → ℕ → Type 0
EndsAt up inode = (key : Key) → is_below up key ≡ true → key_le key last_key ≡ true
    → key_number key ≤ key_number (high (record { first = inode; last = inode }))

-- a range has each inode of which a block at a pointer may have items
abbrev pub Covers : BlockPointer → InodeRange → Type 0
Covers pointer range = (key : Key) → may_have pointer key ≡ true → holds key range ≡ true

-- a range has all of two others
pub record Joins (one other both : InodeRange) : Type 0 where
  pub first : both.first ≤ one.first
  pub last : one.last ≤ both.last
  pub other_first : both.first ≤ other.first
  pub other_last : other.last ≤ both.last

-- a range came to others
pub record Takes (old : List InodeRange) (range : InodeRange) (new : List InodeRange) : Type 0 where
  pub kept : AreIn old new
  pub taken : AreIn (range ∷ []) new

-- the inodes of which blocks at some pointers may have items came to others
pub record TakesAll (old : List InodeRange) (block_pointers : List BlockPointer) (new : List InodeRange)
    : Type 0 where
  pub kept : AreIn old new
  pub taken : (key : Key) → list_any (λ pointer. may_have pointer key) block_pointers ≡ true
      → is_among new key ≡ true
