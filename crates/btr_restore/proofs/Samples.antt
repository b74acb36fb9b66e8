-- Two small journeys that compute. In the first volume stands one symbolic link; in the second a file of a hole, two inline bytes, zeros up
-- to the next extent, and three bytes of a sector without a checksum.
use Rattle.std.proofs.Common.{◌≡◌, ℕ, zero, suc, ◌+◌, ◌*◌, ◌/◌, ◌%◌, List, [], ◌∷◌, ◌++◌, map, length, replicate, Some, None, Result, Ok, Err, refl, true}
use Rattle.std.proofs.Common.{false, cond}
use Rattle.std.specs.Prelude.{codes, nat_eq}
use Rattle.btr_base.specs.declared.key.Key.{Key}
use Rattle.btr_base.specs.declared.kind.SumKind.TheVariants.{Crc32c}
use Rattle.btr_node.specs.Block.{is_leaf, items, entry_count, item_at, entry_key}
use Rattle.std.specs.Str.{is_utf8, chars}
use Rattle.std.specs.Char.{encode_utf8}
use Rattle.std.specs.Fmt.{digits}
use Rattle.btr_prog.specs.Prog.{exec, steps, needs}
use Rattle.btr_prog.specs.Stages.{Early, Late}
use Rattle.btr_read.specs.Fate.{Fault, Lost}
use Rattle.btr_read.specs.Want.{addr_of}
use Rattle.btr_read.specs.declared.want.Want.{Want}
use Rattle.btr_read.specs.declared.want.Want.TheVariants.{Tree}
use Rattle.btr_files.specs.Content.{content}
use Rattle.btr_files.specs.Extents.{extents}
use Rattle.btr_files.specs.FileAt.{bytes_of, file_at}
use Rattle.btr_volume.specs.declared.root.TreeRoot.{TreeRoot}
use Rattle.btr_items.specs.Parts.{parts_within}
use Rattle.btr_rack.specs.declared.row.Row.TheVariants as row
use Rattle.btr_restore.specs.Outcome.{outcome}
use Rattle.btr_super.specs.Super.{super_of}
use Rattle.btr_super.specs.declared.superblock.Super.{Super}
use Rattle.btr_files.specs.declared.plan.RestorePlan.{RestorePlan}
use Rattle.btr_volume.specs.Maps.{VolumeWant}
use Rattle.btr_volume.specs.Start.{Start}
use Rattle.btr_volume.specs.Tree.{key}
use Rattle.btr_restore.specs.Committed.{want_of}
use Rattle.btr_restore.specs.Journey.{journey}
use Rattle.btr_listing.specs.Step.{Line}
use Rattle.btr_listing.specs.Step as step

-- a number in n bytes
abbrev little_bytes : ℕ → ℕ → List ℕ
little_bytes zero x = []
little_bytes (suc n) x = x % 256 ∷ little_bytes n (x / 256)

-- the bytes of a key
abbrev key_bytes : Key → List ℕ
key_bytes key = little_bytes 8 key.objectid ++ key.kind ∷ little_bytes 8 key.offset

-- a leaf without items, and one of one item
abbrev empty_leaf : List ℕ
empty_leaf = replicate 101 0

-- a leaf of one item, by its key and its body
abbrev leaf : Key → List ℕ → List ℕ
leaf key body = replicate 96 0 ++ little_bytes 4 1 ++ 0 ∷ key_bytes key ++ little_bytes 4 25 ++ little_bytes 4 (length body) ++ body

-- the root_item of the tree at the address 3, of directory 256
abbrev root_body : List ℕ
root_body = replicate 160 0 ++ little_bytes 8 7 ++ little_bytes 8 256 ++ little_bytes 8 3 ++ replicate 55 0

-- the entry `a`, a symbolic link
abbrev entry_body : List ℕ
entry_body = key_bytes (key 257 1 0) ++ little_bytes 8 7 ++ little_bytes 2 0 ++ little_bytes 2 1 ++ 7 ∷ 97 ∷ []

-- the blocks of the first volume, by their addresses
abbrev blocks : VolumeWant → Result (List ℕ) Fault
blocks want =
    cond (nat_eq (addr_of (want_of want)) 1) (Ok empty_leaf)
    (cond (nat_eq (addr_of (want_of want)) 2) (Ok (leaf (key 5 132 0) root_body))
    (cond (nat_eq (addr_of (want_of want)) 3) (Ok (leaf (key 256 96 2) entry_body)) (Err (Lost (addr_of (want_of want))))))

-- the superblock of each of the volumes
abbrev sup : Super
sup = record (super_of []) { root = 2; generation = 7; root_level = 0; chunk_root = 1; chunk_root_generation = 7; chunk_root_level = 0 }

-- what each of the volumes starts as: no chunk stands in its system array
abbrev start : Start
start = record { sup = sup; devices = []; setting = record { kind = Crc32c; fsid = []; nodesize = 4096 }; array = [] }

-- a dry run of the tree 5
abbrev plan : RestorePlan
plan = record { root = 5; snapshots = false; verbose = false; dry = true }

-- in the first volume the link is skipped, and counted
its_steps : steps blocks (journey plan [] start) ≡ Line (codes "skip symlink /a\n") ∷ Line (codes "directories 0 files 0 skipped 1\n") ∷ []
unfolding is_leaf items entry_count item_at entry_key is_utf8 chars encode_utf8 digits
its_steps = refl

-- it needs the chunk tree, the root tree and the tree 5
its_needs : needs blocks (journey plan [] start) ≡ Early (Tree 1 7 0) ∷ Late [] (Tree 2 7 0) ∷ Late [] (Tree 3 7 0) ∷ []
unfolding is_leaf items entry_count item_at entry_key is_utf8 chars encode_utf8 digits
its_needs = refl

-- an item, and a leaf of several
record Entry : Type 0 where
  key : Key
  body : List ℕ

-- an item of a key and a body
abbrev entry : Key → List ℕ → Entry
entry k b = record { key = k; body = b }

-- how many bytes the bodies of some items have
abbrev behind : List Entry → ℕ
behind [] = 0
behind (e ∷ es) = length e.body + behind es

-- the heads of some items of a leaf, whose heads have so many bytes
abbrev table : ℕ → List Entry → List ℕ
table size [] = []
table size (e ∷ es) = key_bytes e.key ++ little_bytes 4 (size + behind es) ++ little_bytes 4 (length e.body) ++ table size es

-- the bodies of some items, the last first
abbrev bodies : List Entry → List ℕ
bodies [] = []
bodies (e ∷ es) = bodies es ++ e.body

-- a leaf of some items
abbrev leaf_of : List Entry → List ℕ
leaf_of es = replicate 96 0 ++ little_bytes 4 (length es) ++ 0 ∷ table (25 * length es) es ++ bodies es

-- an entry of a kind that leads to an inode, an inode of a size, and extents
abbrev dir_index : ℕ → ℕ → ℕ → List ℕ
dir_index ino kind name = key_bytes (key ino 1 0) ++ little_bytes 8 7 ++ little_bytes 2 0 ++ little_bytes 2 1 ++ kind ∷ name ∷ []

-- the body of an inode of a size
abbrev inode_item : ℕ → List ℕ
inode_item size = replicate 16 0 ++ little_bytes 8 size ++ replicate 136 0

-- the front of an extent of a kind
abbrev extent_front : ℕ → List ℕ
extent_front kind = replicate 20 0 ++ kind ∷ []

-- the body of an extent that isn't inline, by its address and length; the address 0 is a hole
abbrev regular : ℕ → ℕ → List ℕ
regular addr len = extent_front 1 ++ little_bytes 8 addr ++ little_bytes 8 len ++ little_bytes 8 0 ++ little_bytes 8 len

-- the items of the tree in the second volume: a file and a link, the file's inode, and its extents
abbrev files : List Entry
files =
    entry (key 256 96 2) (dir_index 257 1 102)
    ∷ entry (key 256 96 3) (dir_index 258 7 115)
    ∷ entry (key 257 1 0) (inode_item 8195)
    ∷ entry (key 257 108 0) (regular 0 4096)
    ∷ entry (key 257 108 4096) (extent_front 0 ++ 104 ∷ 105 ∷ [])
    ∷ entry (key 257 108 8192) (regular 16384 4096)
    ∷ []

-- the blocks of the second volume, by their addresses
abbrev more_blocks : VolumeWant → Result (List ℕ) Fault
more_blocks want =
    cond (nat_eq (addr_of (want_of want)) 3) (Ok (leaf_of files))
    (cond (nat_eq (addr_of (want_of want)) 16384) (Ok (replicate 4096 65)) (blocks want))

-- a run that isn't dry, and tells directories and files too
abbrev loud : RestorePlan
loud = record { root = 5; snapshots = false; verbose = true; dry = false }

-- in the second volume the file is written piece by piece, and told as unverified
file_steps : steps more_blocks (journey loud (codes "out") start)
    ≡ step.Start (codes "out") ∷ step.File (codes "f") ∷ step.Zeros 4096 ∷ step.Bytes (codes "hi") ∷ step.Zeros 4094 ∷ step.Bytes (codes "AAA") ∷ step.Done
    ∷ Line (codes "file /f\n") ∷ Line (codes "unverified /f\n") ∷ Line (codes "skip symlink /s\n") ∷ Line (codes "directories 0 files 1 skipped 1\n") ∷ []
unfolding is_leaf items entry_count item_at entry_key is_utf8 chars encode_utf8 digits
file_steps = refl

-- that file by its positions, and by its pieces
abbrev late_blocks : Want → Result (List ℕ) Fault
late_blocks want = more_blocks (Late [] want)

-- the tree 5
abbrev tree : TreeRoot
tree = record { id = 5; offset = 0; place = record { addr = 3; generation = 7; level = 0 }; dirid = 256; refs = 1 }

-- some positions of the file: the ends of its parts
abbrev some_positions : List ℕ
some_positions = 0 ∷ 4095 ∷ 4096 ∷ 4097 ∷ 4098 ∷ 8191 ∷ 8192 ∷ 8194 ∷ []

-- the bytes of the file at those positions
by_position : map (file_at late_blocks Crc32c None false (steps late_blocks (extents tree 257))) some_positions ≡ 0 ∷ 0 ∷ 104 ∷ 105 ∷ 0 ∷ 0 ∷ 65 ∷ 65 ∷ []
unfolding is_leaf items entry_count item_at entry_key
by_position = refl

-- the bytes of the pieces of the file
by_pieces : bytes_of (steps late_blocks (content Crc32c None false 8195 tree 257)) ≡ replicate 4096 0 ++ codes "hi" ++ replicate 4094 0 ++ codes "AAA"
unfolding is_leaf items entry_count item_at entry_key
by_pieces = refl

-- where the sector is lost, the file is unfinished before it, and the answer names it
abbrev lossy_blocks : VolumeWant → Result (List ℕ) Fault
lossy_blocks want = cond (nat_eq (addr_of (want_of want)) 16384) (Err (Lost 16384)) (more_blocks want)

-- a run that isn't dry, and tells no directories and files
abbrev quietly : RestorePlan
quietly = record { root = 5; snapshots = false; verbose = false; dry = false }

-- the file ends before the lost sector, and no line is told
lost_outcome : outcome (exec lossy_blocks (journey quietly (codes "out") start))
    ≡ record {
      rows = row.Start (codes "out") ∷ [];
      part = Some (record { name = codes "f"; bytes = replicate 4096 0 ++ codes "hi" ++ replicate 4094 0 });
      text = [];
      ending = Err (Lost 16384);
    }
unfolding is_leaf items entry_count item_at entry_key is_utf8 chars encode_utf8 digits
lost_outcome = refl

-- a directory `d`, a snapshot `s` of id 300, and an entry `e` of a subvolume whose name it isn't
abbrev name_ref : ℕ → ℕ → List ℕ
name_ref index name = little_bytes 8 index ++ little_bytes 2 1 ++ name ∷ []

-- the body of an entry that leads to a subvolume
abbrev root_entry : ℕ → ℕ → List ℕ
root_entry id name = key_bytes (key id 132 0) ++ little_bytes 8 7 ++ little_bytes 2 0 ++ little_bytes 2 1 ++ 2 ∷ name ∷ []

-- the items of the root tree: the tree 5, the snapshot, and the snapshot's name
abbrev roots : List Entry
roots = entry (key 5 132 0) root_body ∷ entry (key 300 132 9) root_body ∷ entry (key 300 144 5) (little_bytes 8 256 ++ name_ref 3 115) ∷ []

-- the items of the tree: the three entries, and the name of the directory
abbrev folders : List Entry
folders =
    entry (key 256 96 2) (dir_index 257 2 100)
    ∷ entry (key 256 96 3) (root_entry 300 115)
    ∷ entry (key 256 96 4) (root_entry 301 101)
    ∷ entry (key 257 12 256) (name_ref 2 100)
    ∷ []

-- the blocks of the third volume, by their addresses
abbrev folder_blocks : VolumeWant → Result (List ℕ) Fault
folder_blocks want = cond (nat_eq (addr_of (want_of want)) 2) (Ok (leaf_of roots))
    (cond (nat_eq (addr_of (want_of want)) 3) (Ok (leaf_of folders)) (blocks want))

-- in the third volume the directory is entered and left, the snapshot skipped, and the other entry stays an empty directory
folder_steps : steps folder_blocks (journey loud (codes "out") start)
    ≡ step.Start (codes "out") ∷ step.Dir (codes "d") ∷ Line (codes "dir /d\n") ∷ step.Up ∷ Line (codes "skip snapshot /s\n")
    ∷ step.Dir (codes "e") ∷ Line (codes "dir /e\n") ∷ step.Up ∷ Line (codes "directories 2 files 0 skipped 1\n") ∷ []
unfolding is_leaf items entry_count item_at entry_key is_utf8 chars encode_utf8 digits parts_within
folder_steps = refl
