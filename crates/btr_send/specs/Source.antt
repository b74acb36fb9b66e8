-- The subvolume that is sent: its root, and what its ROOT_ITEM says of who it is.
use Rattle.std.specs.Prelude.{ℕ, ◌==◌, if◌then◌else◌, List, length, replicate, Option, Some, None}
use Rattle.btr_base.specs.Field.{bytes_at, number_at}
use Rattle.btr_items.specs.RootItem.{root_item_of}
use Rattle.btr_items.specs.Types.{root_item}
use Rattle.btr_prog.specs.Prog.{Return, bind}
use Rattle.btr_super.specs.declared.superblock.Super.{Super}
use Rattle.btr_walk.specs.declared.place.RootPlace.{RootPlace}
use Rattle.btr_walk.specs.Le.{TreeItem, le}
use Rattle.btr_volume.specs.declared.root.TreeRoot.{TreeRoot}
use Rattle.btr_volume.specs.Lookup.{Lookup, formed}
use Rattle.btr_volume.specs.Table.{chunk_root}
use Rattle.btr_volume.specs.Tree.{described, is_root_of, key, last, named_root, root_root}
use Rattle.btr_send.specs.declared.source.Source.{Source}

-- the uuid in the body of a ROOT_ITEM; the old form, of 239 bytes, has none: zeros
abbrev pub uuid_in : List ℕ → List ℕ
uuid_in body = if length body == 439 then bytes_at 16 247 body else replicate 16 0

-- the transid in the body of a ROOT_ITEM; the old form, of 239 bytes, has none: 0
abbrev pub transid_in : List ℕ → ℕ
transid_in body = if length body == 439 then number_at 8 295 body else 0

-- the subvolume that a ROOT_ITEM describes
abbrev pub source_at : TreeItem → TreeRoot → Source
source_at item root = record { root = root; uuid = uuid_in item.body; transid = transid_in item.body }

-- a tree whose root the superblock names has no ROOT_ITEM
abbrev pub unnamed : TreeRoot → Source
unnamed root = record { root = root; uuid = replicate 16 0; transid = 0 }

-- the subvolume in what was found for an id: none where it is another one's item
abbrev pub source_found : ℕ → Option TreeItem → Lookup (Option Source)
source_found id None = Return None
source_found id (Some item) =
    if is_root_of id item.key then formed item (root_item_of item.body) (λ root. Return (Some (source_at item (described item.key root))))
    else Return None

-- the subvolume of an id in a root tree: the ROOT_ITEM with the greatest offset has it
abbrev pub source_in : RootPlace → ℕ → Lookup (Option Source)
source_in root id = bind (le root (key id root_item last)) (source_found id)

-- the subvolume of an id, by the one item that its root is read from
abbrev pub source_of : Super → ℕ → Lookup (Option Source)
source_of s id =
    if id == 1 then Return (Some (unnamed (named_root 1 (root_root s))))
    else if id == 3 then Return (Some (unnamed (named_root 3 (chunk_root s))))
    else source_in (root_root s) id
