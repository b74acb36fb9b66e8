-- The inodes of a tree, one after another, and what is counted of each one's items.
use Rattle.std.specs.Prelude.{ℕ, ◌+◌, ◌*◌, ◌==◌, Bool, true, false, ◌&&◌, ◌||◌, not, nat_le, List, [], length, Option, Some, None, option_map, if◌then◌else◌}
use Rattle.std.specs.BTreeMap.{is_at}
use Rattle.std.specs.BTreeSet.{insert_key}
use Rattle.std.specs.Ordering.{nat_cmp}
use Rattle.std.specs.Set.{remove_key}
use Rattle.btr_check_names.specs.declared.current.Current.{Current}
use Rattle.btr_check_names.specs.declared.inode_at.InodeAt.{InodeAt}
use Rattle.btr_check_names.specs.Names.{format_of, has_links, has_size, is_unlinked}

-- the inode whose items come; whether one states something else than what was counted, or an item isn't that of the
-- inode before it; and the inodes without links that no orphan item has named yet
pub record Inodes : Type 0 where
  pub last : Option Current
  pub is_wrong : Bool
  pub unlinked : List ℕ

-- what is kept before the first inode
abbrev pub no_inodes : Inodes
no_inodes = record { last = None; is_wrong = false; unlinked = [] }

-- nothing is counted yet
abbrev pub begun_with : InodeAt → Current
begun_with at = record { at = at; links = 0; names = 0 }

-- an inode states how many references it has, and, of a directory with links, how
-- long the names in it are, each counted twice
abbrev pub is_counted : Current → Bool
is_counted current = has_links current.at current.links && (is_unlinked current.at || has_size current.at current.names)

-- the last inode, if there is one, states what was counted
abbrev pub last_counted : Option Current → Bool
last_counted None = true
last_counted (Some current) = is_counted current

-- the kind in the mode of the last inode, and 0 where there is none
abbrev pub last_format : Option Current → ℕ
last_format None = 0
last_format (Some current) = format_of current.at.inode

-- an inode comes behind one of a lower number that states what was counted
abbrev pub may_follow : Option Current → ℕ → Bool
may_follow None number = true
may_follow (Some current) number = not (nat_le number current.at.number) && is_counted current

-- the last inode has this number
abbrev pub is_last : ℕ → Option Current → Bool
is_last number None = false
is_last number (Some current) = current.at.number == number

-- the last inode is a directory of this number, without links
abbrev pub is_gone : ℕ → Option Current → Bool
is_gone dir None = false
is_gone dir (Some current) = (current.at.number == dir) && is_unlinked current.at

-- an inode with one reference more
abbrev pub one_link : Current → Current
one_link current = record { at = current.at; links = current.links + 1; names = current.names }

-- an inode with one name more, whose length counts twice
abbrev pub one_name : List ℕ → Current → Current
one_name name current = record { at = current.at; links = current.links; names = current.names + 2 * length name }

-- the last inode with one reference more
abbrev pub last_linked : Option Current → Option Current
last_linked last = option_map one_link last

-- the last inode with one name more
abbrev pub last_named : Option Current → List ℕ → Option Current
last_named last name = option_map (one_name name) last

-- an inode without links waits for an orphan item
abbrev pub with_unlinked : InodeAt → List ℕ → List ℕ
with_unlinked at unlinked = if at.inode.nlink == 0 then insert_key nat_cmp unlinked at.number else unlinked

-- an inode comes
abbrev pub begun : Inodes → InodeAt → Inodes
begun inodes at = record {
  last = Some (begun_with at);
  is_wrong = inodes.is_wrong || not (may_follow inodes.last at.number);
  unlinked = with_unlinked at inodes.unlinked;
}

-- a reference of an inode comes
abbrev pub linked : Inodes → ℕ → Inodes
linked inodes number = record {
  last = last_linked inodes.last;
  is_wrong = inodes.is_wrong || not (is_last number inodes.last);
  unlinked = inodes.unlinked;
}

-- a name in a directory comes
abbrev pub named : Inodes → ℕ → List ℕ → Inodes
named inodes number name = record {
  last = last_named inodes.last name;
  is_wrong = inodes.is_wrong || not (is_last number inodes.last);
  unlinked = inodes.unlinked;
}

-- an entry in a directory comes, under its name's hash
abbrev pub hashed : Inodes → ℕ → Inodes
hashed inodes number = record { last = inodes.last; is_wrong = inodes.is_wrong || not (is_last number inodes.last); unlinked = inodes.unlinked }

-- an orphan item names an inode
abbrev pub released : Inodes → ℕ → Inodes
released inodes number = record { last = inodes.last; is_wrong = inodes.is_wrong; unlinked = remove_key (is_at (nat_cmp number)) inodes.unlinked }

-- each inode states what was counted, and all without links were named by orphan items
abbrev pub are_settled : Inodes → Bool
are_settled inodes = not inodes.is_wrong && (length inodes.unlinked == 0) && last_counted inodes.last
