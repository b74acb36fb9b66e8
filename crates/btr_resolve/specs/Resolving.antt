-- The owners of an address, as one program over wants whose steps are lines.
use Rattle.std.specs.Prelude.{ℕ, ◌-◌, ◌^◌, Bool, false, not, ◌&&◌, ◌||◌, ◌==◌, nat_le}
use Rattle.std.specs.Prelude.{if◌then◌else◌, List, [], ◌∷◌, ◌++◌, length, slice_get, Option, Some, None}
use Rattle.btr_base.specs.Key.{last_key}
use Rattle.btr_base.specs.declared.key.Key.{Key}
use Rattle.btr_chunk.specs.Table.{chunk_at}
use Rattle.btr_chunk.specs.declared.chunk.Chunk.{Chunk}
use Rattle.btr_items.specs.Types.{root_item}
use Rattle.btr_prog.specs.Prog.{Return, Stop, Emit, bind}
use Rattle.btr_read.specs.Fate.{Unmapped}
use Rattle.btr_super.specs.declared.superblock.Super.{Super}
use Rattle.btr_walk.specs.Range.{range}
use Rattle.btr_volume.specs.Lookup.{Program, Lookup, looks, each}
use Rattle.btr_volume.specs.Table.{first_key}
use Rattle.btr_volume.specs.Tree.{root_root, tree_of}
use Rattle.btr_volume.specs.declared.root.TreeRoot.{TreeRoot}
use Rattle.btr_files.specs.Names.{Link, links}
use Rattle.btr_resolve.specs.Lines.{owner_line, total_line, more}
use Rattle.btr_resolve.specs.Owning.{owners}
use Rattle.btr_resolve.specs.Paths.{Path, name_path}
use Rattle.btr_resolve.specs.declared.owner.Owner.{Owner}

-- a line of the text
abbrev pub Line : Type 0
Line = List ℕ

-- an item that has the root of a subvolume, whose id is 5 or from 256 to minus 256
abbrev pub is_subvolume : Key → Bool
is_subvolume key = (key.kind == root_item) && ((key.objectid == 5) || (nat_le 256 key.objectid && nat_le key.objectid (2 ^ 64 - 256)))

-- an id is this one
abbrev pub is_id : ℕ → Option ℕ → Bool
is_id id None = false
is_id id (Some other) = other == id

-- some ids, and that of an item behind them, each once: those of one subvolume stand together
abbrev pub with_id : List ℕ → Key → List ℕ
with_id ids key =
    if is_subvolume key && not (is_id key.objectid (slice_get ids (length ids - 1))) then ids ++ key.objectid ∷ [] else ids

-- the ids of all subvolumes, ascending: of the items of the root tree the keys alone are read
abbrev pub subvolumes : Super → Lookup (List ℕ)
subvolumes s = each (λ ids item. Return (with_id ids item.key)) [] (range first_key last_key (root_root s))

-- an owner with a path, and how many lines there are then
abbrev pub path_told : Owner → ℕ → Path → Program Line ℕ
path_told owner count path = Emit (owner_line owner path) (Return (more count))

-- an owner by a name of it
abbrev pub name_told : Owner → ℕ → Link → Program Line ℕ
name_told owner count name = looks (name_path owner.tree name) (path_told owner count)

-- an owner by each of some names
abbrev pub each_told : Owner → ℕ → List Link → Program Line ℕ
each_told owner count [] = Return count
each_told owner count (name ∷ names) = bind (name_told owner count name) (λ count. each_told owner count names)

-- an owner by all of its names; one without names has one line
abbrev pub names_told : Owner → ℕ → List Link → Program Line ℕ
names_told owner count [] = path_told owner count None
names_told owner count (name ∷ names) = each_told owner count (name ∷ names)

-- an owner, treated wholly
abbrev pub owner_told : ℕ → Owner → Program Line ℕ
owner_told count owner = looks (links owner.tree owner.inode) (names_told owner count)

-- the owners in a tree, if it is there, each treated wholly before the next item of the tree is read
abbrev pub tree_told : ℕ → ℕ → Option TreeRoot → Program Line ℕ
tree_told addr count None = Return count
tree_told addr count (Some tree) = each owner_told count (owners addr tree)

-- the owners in the tree of an id
abbrev pub subvolume_told : Super → ℕ → ℕ → ℕ → Program Line ℕ
subvolume_told s addr count id = looks (tree_of s id) (tree_told addr count)

-- the owners in the trees of some ids
abbrev pub subvolumes_told : Super → ℕ → ℕ → List ℕ → Program Line ℕ
subvolumes_told s addr count [] = Return count
subvolumes_told s addr count (id ∷ ids) = bind (subvolume_told s addr count id) (λ count. subvolumes_told s addr count ids)

-- the owners in the trees of some ids, and then how many lines there are
abbrev pub all_told : Super → ℕ → List ℕ → Program Line ℕ
all_told s addr ids = bind (subvolumes_told s addr 0 ids) (λ count. Emit (total_line count) (Return count))

-- the owners of an address that a chunk holds
abbrev pub resolved_in : Super → ℕ → Option Chunk → Program Line ℕ
resolved_in s addr None = Stop (Unmapped addr)
resolved_in s addr (Some chunk) = looks (subvolumes s) (all_told s addr)

-- the owners of an address, by the superblock and the table of chunks
abbrev pub resolved : Super → List Chunk → ℕ → Program Line ℕ
resolved s chunks addr = resolved_in s addr (chunk_at chunks addr)
