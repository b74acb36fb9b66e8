-- Inodes and their names, and the names of subvolumes.
use Rattle.std.specs.Prelude.{ℕ, Bool, false, ◌&&◌, ◌==◌, if◌then◌else◌, List, [], ◌∷◌, ◌++◌, map, filter_map, Option, Some, None, Result, Err}
use Rattle.std.specs.Result.{result_ok}
use Rattle.std.specs.Str.{bytes_eq}
use Rattle.btr_base.specs.Field.{bytes_at}
use Rattle.btr_base.specs.declared.key.Key.{Key}
use Rattle.btr_items.specs.ExtRef.{ext_refs_of}
use Rattle.btr_items.specs.Form.{fields_if, map_ok}
use Rattle.btr_items.specs.Inode.{inode_of}
use Rattle.btr_items.specs.InodeRef.{inode_refs_of}
use Rattle.btr_items.specs.Item.{are_some}
use Rattle.btr_items.specs.RootRef.{root_ref_of}
use Rattle.btr_items.specs.Types.{inode_item, inode_ref, inode_extref, root_backref}
use Rattle.btr_items.specs.declared.ext_ref.ExtRef.{ExtRef}
use Rattle.btr_items.specs.declared.fault.ItemFault.{ItemFault}
use Rattle.btr_items.specs.declared.inode.Inode.{Inode}
use Rattle.btr_items.specs.declared.inode_ref.InodeRef.{InodeRef}
use Rattle.btr_items.specs.declared.root_ref.RootRef.{RootRef}
use Rattle.btr_prog.specs.Prog.{Return, bind}
use Rattle.btr_prog.specs.Thread.{thread}
use Rattle.btr_super.specs.declared.superblock.Super.{Super}
use Rattle.btr_walk.specs.Range.{range}
use Rattle.btr_volume.specs.declared.root.TreeRoot.{TreeRoot}
use Rattle.btr_volume.specs.Lookup.{Lookup, formed, each}
use Rattle.btr_volume.specs.Tree.{key, last, root_root}

-- the inode of a number, if its item is there
abbrev pub inode_in : TreeRoot → ℕ → Lookup (Option Inode)
inode_in tree ino =
    thread (λ (u : Unit {0}) item. formed item (inode_of item.body) (λ inode. Return (Err (Some inode)))) (λ u v. None) tt
    (range (key ino inode_item 0) (key ino inode_item 0) tree.place)

-- a name of an inode: the directory, the index there, and the name
pub record Link : Type 0 where
  pub parent : ℕ
  pub index : ℕ
  pub name : List ℕ

-- a name of an inode, made of its parts
abbrev pub link : ℕ → ℕ → List ℕ → Link
link parent index name = record { parent = parent; index = index; name = name }

-- the name in a part of an INODE_REF, whose key has the directory
abbrev pub inode_link : ℕ → List ℕ → InodeRef → Link
inode_link parent body part = link parent part.index (bytes_at part.name_len part.name_at body)

-- the name in a part of an INODE_EXTREF
abbrev pub ext_link : List ℕ → ExtRef → Link
ext_link body part = link part.parent part.index (bytes_at part.name_len part.name_at body)

-- one or more parts, from the first byte of a body to the last
abbrev pub parts_of : {T : Type 0} → List ℕ → List (Result T ItemFault) → Result (List T) ItemFault
parts_of body parts = fields_if (are_some body parts) (filter_map result_ok parts)

-- the names in an INODE_REF or an INODE_EXTREF
abbrev pub links_of : Key → List ℕ → Result (List Link) ItemFault
links_of key body =
    if key.kind == inode_ref then map_ok (map (inode_link key.offset body)) (parts_of body (inode_refs_of body))
    else map_ok (map (ext_link body)) (parts_of body (ext_refs_of body))

-- all names of an inode, read whole
abbrev pub links : TreeRoot → ℕ → Lookup (List Link)
links tree ino =
    each (λ found item. formed item (links_of item.key item.body) (λ more. Return (found ++ more))) []
    (range (key ino inode_ref 0) (key ino inode_extref last) tree.place)

-- two names are the same
abbrev pub same_link : Link → Link → Bool
same_link a b = (a.parent == b.parent) && (a.index == b.index) && bytes_eq a.name b.name

-- these names are one, which is the wanted one
abbrev pub is_link : Link → List Link → Bool
is_link wanted [] = false
is_link wanted (found ∷ []) = same_link found wanted
is_link wanted (found ∷ (other ∷ more)) = false

-- whether an inode has one name in all, which is the wanted one
abbrev pub linked : Link → TreeRoot → ℕ → Lookup Bool
linked wanted tree ino = bind (links tree ino) (λ found. Return (is_link wanted found))

-- a name of a subvolume: the tree that has it, and the name in a directory there
pub record Mount : Type 0 where
  pub tree : ℕ
  pub link : Link

-- a name of a subvolume, made of its parts
abbrev pub mount : ℕ → Link → Mount
mount tree link = record { tree = tree; link = link }

-- the name in a ROOT_BACKREF, whose key has the tree
abbrev pub mount_of : Key → List ℕ → RootRef → Mount
mount_of key body part = mount key.offset (link part.dirid part.sequence (bytes_at part.name_len part.name_at body))

-- all ROOT_BACKREFs of a subvolume, read whole
abbrev pub mounts : Super → ℕ → Lookup (List Mount)
mounts s id =
    each (λ found item. formed item (root_ref_of item.body) (λ part. Return (found ++ mount_of item.key item.body part ∷ []))) []
    (range (key id root_backref 0) (key id root_backref last) (root_root s))

-- two names of a subvolume are the same
abbrev pub same_mount : Mount → Mount → Bool
same_mount a b = (a.tree == b.tree) && same_link a.link b.link

-- these names are one, which is the wanted one
abbrev pub is_mount : Mount → List Mount → Bool
is_mount wanted [] = false
is_mount wanted (found ∷ []) = same_mount found wanted
is_mount wanted (found ∷ (other ∷ more)) = false

-- whether a subvolume has one name in all, which is the wanted one
abbrev pub mounted : Mount → Super → ℕ → Lookup Bool
mounted wanted s id = bind (mounts s id) (λ found. Return (is_mount wanted found))
