-- Trees of files whose names are settled, by counts.
use Rattle.std.specs.Prelude.{◌≡◌, ◌&&◌, Bool, true, [], All}
use Rattle.btr_check_names.specs.declared.current.Current.{Current}
use Rattle.btr_check_names.specs.declared.inode_at.InodeAt.{InodeAt}
use Rattle.btr_check_names.specs.Halves.{IsBalanced, entry_halves, link_halves}
use Rattle.btr_check_names.specs.Inodes.{is_counted}
use Rattle.btr_check_names.specs.Names.{Names, links_of, names_findings, names_size, orphan_kept}

-- an inode, how many references it has, and how long the names in it are
abbrev pub counted_in : Names → InodeAt → Current
counted_in names at = record { at = at; links = links_of names.refs at.number; names = names_size names.indexed at.number }

-- an inode states how many references it has and, of a directory, how long the names in it are; without links it is an orphan
abbrev pub is_kept : Names → InodeAt → Bool
is_kept names at = is_counted (counted_in names at) && orphan_kept names.orphans at

-- all that items are to give one another is balanced, and each inode states what there is of it
pub record AreSettled (names : Names) : Type 0 where
  pub entries : IsBalanced (entry_halves names)
  pub links : IsBalanced (link_halves names)
  pub inodes : All (λ at. is_kept names at ≡ true) names.inodes

-- nothing is wrong with names that are settled, kinds 15 to 22
abbrev pub SettledLaw : Type 0
SettledLaw = (names : Names) → AreSettled names → names_findings names ≡ []
