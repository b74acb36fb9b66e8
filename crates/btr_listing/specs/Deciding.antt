-- What an entry of a directory comes to, by its name, its kind and lookups: the first rule that fits decides.
use Rattle.std.specs.Prelude.{◌≡◌, ℕ, ◌^◌, Bool, true, false, not, ◌&&◌, ◌==◌, nat_le, nat_lt, if◌then◌else◌}
use Rattle.std.specs.Prelude.{List, length, Option, Some, None, IsSome}
use Rattle.btr_items.specs.declared.inode.Inode.{Inode}
use Rattle.btr_items.specs.Types.{inode_item}
use Rattle.btr_prog.specs.Prog.{Return, bind}
use Rattle.btr_rack.specs.Name.{IsGoodName, is_bad}
use Rattle.btr_super.specs.declared.superblock.Super.{Super}
use Rattle.btr_volume.specs.declared.root.TreeRoot.{TreeRoot}
use Rattle.btr_volume.specs.Lookup.{Lookup}
use Rattle.btr_volume.specs.Tree.{tree_of}
use Rattle.btr_files.specs.declared.clearness.Survey.{Survey}
use Rattle.btr_files.specs.declared.clearness.Survey.TheVariants.{Clear, Compressed, Encoded}
use Rattle.btr_files.specs.Entries.{DirEntry}
use Rattle.btr_files.specs.Extents.{survey}
use Rattle.btr_files.specs.Names.{Link, Mount, inode_in, link, linked, mount, mounted}
use Rattle.btr_listing.specs.declared.cause.Cause.{Cause}
use Rattle.btr_listing.specs.declared.cause.Cause.TheVariants as cause
use Rattle.btr_listing.specs.declared.decision.Decision.{Decision}
use Rattle.btr_listing.specs.declared.decision.Decision.TheVariants.{Skip, File, Empty, Folder}
use Rattle.btr_listing.specs.declared.rules.Rules.{Rules}
use Rattle.btr_listing.specs.Lines.{path_in}

-- an entry as it is met: in a directory of a tree, which may be too deep to enter another one, and with its path
pub record Met : Type 0 where
  pub tree : TreeRoot
  pub dirid : ℕ
  pub deep : Bool
  pub path : List ℕ
  pub entry : DirEntry

-- an entry of a directory that has a path
abbrev pub met_in : Bool → TreeRoot → ℕ → List ℕ → DirEntry → Met
met_in deep tree dirid path entry =
    record { tree = tree; dirid = dirid; deep = deep; path = path_in path entry.name; entry = entry }

-- the number of the inode, or of the subvolume, that an entry leads to
abbrev pub target : Met → ℕ
target met = met.entry.row.location.objectid

-- the name that an entry is of its inode
abbrev pub link_of : Met → Link
link_of met = link met.dirid met.entry.row.index met.entry.name

-- the name that an entry is of its subvolume
abbrev pub mount_of : Met → Mount
mount_of met = mount met.tree.id (link_of met)

-- a file by what its extents come to
abbrev pub surveyed : Inode → Survey → Decision
surveyed inode Clear = File inode
surveyed inode Compressed = Skip cause.Compressed
surveyed inode Encoded = Skip cause.Encoded

-- a file by its inode, if that is there
abbrev pub file_found : Met → Option Inode → Lookup Decision
file_found met None = Return (Skip cause.Missing)
file_found met (Some inode) =
    if nat_lt (2 ^ 60) inode.size then Return (Skip cause.Size)
    else bind (survey met.tree (target met)) (λ found. Return (surveyed inode found))

-- what a file of an inode comes to, by the lookup of that inode
abbrev pub file_decided : Met → Lookup Decision
file_decided met = bind (inode_in met.tree (target met)) (file_found met)

-- a directory, by whether an entry is its one name
abbrev pub link_found : Met → Bool → Decision
link_found met is = if is then Folder met.tree (target met) else Skip cause.Link

-- what a directory comes to, by the lookup of whether the entry is its one name
abbrev pub directory_decided : Met → Lookup Decision
directory_decided met = bind (linked (link_of met) met.tree (target met)) (λ is. Return (link_found met is))

-- a path that is longer than one may be
abbrev pub is_long : Option ℕ → List ℕ → Bool
is_long None path = false
is_long (Some most) path = nat_lt most (length path)

module _ (rules : Rules) where
  -- a subvolume by its root, if that is there
  abbrev pub root_found : Option TreeRoot → Decision
  root_found None = Skip cause.Missing
  root_found (Some inner) =
      if not (inner.offset == 0) && not rules.snapshots then Skip cause.Snapshot else Folder inner inner.dirid

  -- what a subvolume comes to, by the lookup of its root
  abbrev pub root_decided : Super → Met → Lookup Decision
  root_decided s met = bind (tree_of s (target met)) (λ found. Return (root_found found))

  -- a subvolume, by whether an entry is its one name; else a directory that stays empty
  abbrev pub mount_found : Met → Super → Bool → Lookup Decision
  mount_found met s is = if is then root_decided s met else Return Empty

  -- what a subvolume comes to, by whether it is to be entered and by the lookup of whether the entry is its one name
  abbrev pub subvolume_decided : Super → Met → Lookup Decision
  subvolume_decided s met =
      if not rules.subvolumes then Return (Skip cause.Subvolume)
      else bind (mounted (mount_of met) s (target met)) (mount_found met s)

  -- a directory or a subvolume, in a directory that may be too deep for it
  abbrev pub folder_decided : Super → Met → Lookup Decision
  folder_decided s met =
      if met.deep then Return (Skip cause.Depth)
      else if met.entry.row.location.kind == inode_item then directory_decided met
      else subvolume_decided s met

  -- an entry of a good name, by its path and its kind
  abbrev pub named_decided : Super → Met → Lookup Decision
  named_decided s met =
      if is_long rules.longest met.path then Return (Skip cause.Path)
      else if met.entry.row.kind == 7 then Return (Skip cause.Symlink)
      else if nat_le 3 met.entry.row.kind then Return (Skip cause.Special)
      else if met.entry.row.kind == 1 then file_decided met
      else folder_decided s met

  -- an entry, by its name, its path and its kind: the first rule that fits decides
  abbrev pub decided : Super → Met → Lookup Decision
  decided s met = if is_bad met.entry.name then Return (Skip cause.Name) else named_decided s met

  -- an entry may be left out for a cause: what the rules, its name and its depth say of that
  abbrev pub MayLeaveOut : Met → Cause → Type 0
  MayLeaveOut met cause.Name = is_bad met.entry.name ≡ true
  MayLeaveOut met cause.Path = IsSome rules.longest
  MayLeaveOut met cause.Symlink = Unit {0}
  MayLeaveOut met cause.Special = Unit {0}
  MayLeaveOut met cause.Missing = Unit {0}
  MayLeaveOut met cause.Size = Unit {0}
  MayLeaveOut met cause.Compressed = Unit {0}
  MayLeaveOut met cause.Encoded = Unit {0}
  MayLeaveOut met cause.Depth = met.deep ≡ true
  MayLeaveOut met cause.Link = Unit {0}
  MayLeaveOut met cause.Subvolume = rules.subvolumes ≡ false
  MayLeaveOut met cause.Snapshot = rules.snapshots ≡ false

  -- a decision fits its entry: it is left out for a cause that it may have, or it has a good name,
  -- and no directory is entered that is too deep
  abbrev pub Fits : Met → Decision → Type 0
  Fits met (Skip cause) = MayLeaveOut met cause
  Fits met (File inode) = IsGoodName met.entry.name
  Fits met Empty = (met.deep ≡ false) × IsGoodName met.entry.name
  Fits met (Folder tree dirid) = (met.deep ≡ false) × IsGoodName met.entry.name
