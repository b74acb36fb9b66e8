-- A small volume that meets what the clauses of `run` ask for: one image with a chunk tree, a root
-- tree, a tree of extents, and one of files, in which a file `f` of two bytes stands. Its checksums
-- aren't computed: a block is sealed by the checksum of what stands behind it, whatever that is.
use Rattle.std.specs.Prelude.{◌≡◌, ℕ, ◌+◌, ◌-◌, ◌*◌, ◌==◌, ◌&&◌, if◌then◌else◌, false, List, []}
use Rattle.std.specs.Prelude.{◌∷◌, ◌++◌, All, length, replicate, codes, Option, Some, None, Ok}
use Rattle.byteorder.specs.Endian.{little_bytes}
use Rattle.btr_base.specs.Crc.{crc32c}
use Rattle.btr_base.specs.declared.key.Key.{Key}
use Rattle.btr_base.specs.declared.kind.SumKind.TheVariants.{Crc32c}
use Rattle.btr_chunk.specs.declared.chunk.Chunk.{Chunk}
use Rattle.btr_chunk.specs.declared.profile.Profile.TheVariants.{Single}
use Rattle.btr_files.specs.declared.plan.RestorePlan.{RestorePlan}
use Rattle.btr_read.specs.Layout.{Layout}
use Rattle.btr_read.specs.declared.want.Want.{Want}
use Rattle.btr_read.specs.declared.want.Want.TheVariants.{Tree, Block, Sector, Plain}
use Rattle.btr_restore.specs.Committed.{AreWhole, IsClosed, IsHonest, committed}
use Rattle.btr_restore.specs.Journey.{journey}
use Rattle.btr_scrub.specs.Repair.{blocks, meeting}
use Rattle.btr_scrub.specs.Right.{CanBeSpared, IsCommitted}
use Rattle.btr_super.specs.Super.{magic, super_of}
use Rattle.btr_volume.specs.Maps.{volume_map}
use Rattle.btr_volume.specs.Start.{Images, Start, layout_by, start_of}
use Rattle.btr_run.specs.Filesystem.{Filesystem, filesystem_of}
use Rattle.btr_run.specs.Order.{IsAgreed}
use Rattle.btr_run.specs.Scrubbed.{filesystem_as}
use Rattle.btr_run_laws.specs.Complete.{own_fault}

-- a key by its three numbers
abbrev pub key : ℕ → ℕ → ℕ → Key
key objectid kind offset = record { objectid = objectid; kind = kind; offset = offset }

-- the 17 bytes of a key
abbrev pub key_bytes : Key → List ℕ
key_bytes k = little_bytes 8 k.objectid ++ k.kind ∷ little_bytes 8 k.offset

-- an item of a leaf
pub record Entry : Type 0 where
  pub at : Key
  pub body : List ℕ

-- an item of a leaf by its key and its body
abbrev pub entry : Key → List ℕ → Entry
entry k b = record { at = k; body = b }

-- how many bytes some items have
abbrev pub behind : List Entry → ℕ
behind [] = 0
behind (e ∷ es) = length e.body + behind es

-- the table of some items, whose last body begins so many bytes behind the header
abbrev pub table_of : ℕ → List Entry → List ℕ
table_of size [] = []
table_of size (e ∷ es) =
    key_bytes e.at ++ little_bytes 4 (size + behind es) ++ little_bytes 4 (length e.body)
    ++ table_of size es

-- the bodies of some items, the first one last
abbrev pub bodies : List Entry → List ℕ
bodies [] = []
bodies (e ∷ es) = bodies es ++ e.body

-- the id of the filesystem
abbrev pub fsid : List ℕ
fsid = replicate 16 17

-- a block whose checksum is right
unfoldable pub sealed : List ℕ → List ℕ
sealed bytes = little_bytes 4 (crc32c bytes) ++ replicate 28 0 ++ bytes

-- what stands behind the checksum of a leaf at an address
abbrev pub leaf_behind : ℕ → ℕ → List Entry → List ℕ
leaf_behind addr owner es =
    fsid ++ little_bytes 8 addr ++ replicate 24 0 ++ little_bytes 8 7 ++ little_bytes 8 owner
    ++ little_bytes 4 (length es) ++ 0 ∷ table_of (3995 - behind es) es
    ++ replicate (3995 - behind es - 25 * length es) 0 ++ bodies es

-- a leaf of a tree at an address, of generation 7 and 4096 bytes
abbrev pub leaf : ℕ → ℕ → List Entry → List ℕ
leaf addr owner es = sealed (leaf_behind addr owner es)

-- the chunk of all trees: 65536 bytes from 1048576 on, at the image's begin
abbrev pub chunk_body : List ℕ
chunk_body =
    little_bytes 8 65536 ++ little_bytes 8 2 ++ little_bytes 8 65536 ++ little_bytes 8 6
    ++ little_bytes 4 4096 ++ little_bytes 4 4096 ++ little_bytes 4 4096 ++ little_bytes 2 1
    ++ little_bytes 2 0 ++ little_bytes 8 1 ++ little_bytes 8 0 ++ replicate 16 0

-- the leaf of the chunk tree
abbrev pub chunk_tree : List ℕ
chunk_tree = leaf 1048576 3 (entry (key 256 228 1048576) chunk_body ∷ [])

-- the ROOT_ITEM of a tree with its root block at an address
abbrev pub root_body : ℕ → ℕ → List ℕ
root_body addr dirid =
    replicate 160 0 ++ little_bytes 8 7 ++ little_bytes 8 dirid ++ little_bytes 8 addr
    ++ replicate 55 0

-- the leaf of the root tree: the extent tree and the tree of files
abbrev pub root_tree : List ℕ
root_tree =
    leaf 1052672 1
    (entry (key 2 132 0) (root_body 1060864 0) ∷ entry (key 5 132 0) (root_body 1056768 256) ∷ [])

-- the leaf of the tree of files: a file `f` of two bytes
abbrev pub file_tree : List ℕ
file_tree =
    leaf 1056768 5
    (entry (key 256 96 2)
    (key_bytes (key 257 1 0) ++ little_bytes 8 7 ++ little_bytes 2 0 ++ little_bytes 2 1 ++ 1
    ∷ 102 ∷ [])
    ∷ entry (key 257 1 0) (replicate 16 0 ++ little_bytes 8 2 ++ replicate 136 0)
    ∷ entry (key 257 108 0) (replicate 20 0 ++ 0 ∷ codes "hi")
    ∷ [])

-- the METADATA_ITEM of a tree block that one tree refers to
abbrev pub block_body : ℕ → List ℕ
block_body owner =
    little_bytes 8 1 ++ little_bytes 8 7 ++ little_bytes 8 2 ++ 176 ∷ little_bytes 8 owner

-- the leaf of the extent tree, whose extents are the four tree blocks
abbrev pub extent_tree : List ℕ
extent_tree =
    leaf 1060864 2
    (entry (key 1048576 169 0) (block_body 3)
    ∷ entry (key 1052672 169 0) (block_body 1)
    ∷ entry (key 1056768 169 0) (block_body 5)
    ∷ entry (key 1060864 169 0) (block_body 2)
    ∷ [])

-- the superblock behind its checksum
abbrev pub super_behind : List ℕ
super_behind =
    fsid ++ little_bytes 8 65536 ++ replicate 8 0 ++ magic ++ little_bytes 8 7
    ++ little_bytes 8 1052672 ++ little_bytes 8 1048576 ++ replicate 40 0 ++ little_bytes 8 1
    ++ little_bytes 4 4096 ++ little_bytes 4 4096 ++ little_bytes 4 4096 ++ little_bytes 4 4096
    ++ little_bytes 4 97 ++ little_bytes 8 7 ++ replicate 24 0 ++ little_bytes 2 0 ++ 0 ∷ 0 ∷ 0
    ∷ little_bytes 8 1 ++ replicate 602 0 ++ key_bytes (key 256 228 1048576)
    ++ chunk_body ++ replicate 3188 0

-- the superblock
abbrev pub super_block : List ℕ
super_block = sealed super_behind

-- the image: the leaves, zeros, and the superblock at its place
abbrev pub image : List ℕ
image = chunk_tree ++ root_tree ++ file_tree ++ extent_tree ++ replicate 49152 0 ++ super_block

-- the chunk as it is read
abbrev pub chunk : Chunk
chunk = record {
  start = 1048576;
  length = 65536;
  kind = 6;
  profile = Single;
  stripes = record { devid = 1; offset = 0; uuid = replicate 16 0 } ∷ [];
}

-- the volume by its image and its one chunk
abbrev pub layout : Layout
layout = record {
  chunks = chunk ∷ [];
  devices = record { devid = 1; device = record { slot = 0; len = 69632; older = false } } ∷ [];
  setting = record { kind = Crc32c; fsid = fsid; nodesize = 4096 };
}

-- what is known at its start
abbrev pub start : Start
start = record {
  sup = super_of super_block;
  devices = layout.devices;
  setting = layout.setting;
  array = chunk ∷ [];
}

-- the committed leaf at an address
abbrev pub block_at : ℕ → Option (List ℕ)
block_at addr =
    if addr == 1048576 then Some chunk_tree
    else if addr == 1052672 then Some root_tree
    else if addr == 1056768 then Some file_tree
    else if addr == 1060864 then Some extent_tree
    else None

-- what was committed: those leaves
abbrev pub committed_blocks : Want → Option (List ℕ)
committed_blocks (Tree addr generation level) =
    if (generation == 7) && (level == 0) then block_at addr else None
committed_blocks (Block addr) = None
committed_blocks (Sector addr sum) = None
committed_blocks (Plain addr) = None

-- the one image
abbrev pub images : Images
images = image ∷ []

-- the table of the chunk tree
abbrev pub table : List Chunk
table = chunk ∷ []

-- the filesystem that the image makes
abbrev pub fs : Filesystem
fs = record { sup = start.sup; layout = layout }

-- a restore of all files
abbrev pub plan : RestorePlan
plan = record { root = 5; snapshots = false; verbose = false; dry = false }

-- all that the clauses on restores ask for, of such a restore into `out`
pub record MeetsRestores : Type 0 where
  pub begun : start_of images ≡ Ok start
  pub honest : IsHonest committed_blocks images (layout_by start table)
  pub closed : IsClosed plan (codes "out") images start committed_blocks table
  pub well : own_fault (volume_map start (committed committed_blocks images))
      (journey plan (codes "out") start) ≡ None
  pub whole : AreWhole plan (codes "out") images start committed_blocks
  pub agreed : IsAgreed images start

-- and those on scrubs: its blocks can all be listed, and spared
pub record MeetsScrubs : Type 0 where
  pub opened : filesystem_of images ≡ Ok fs
  pub listed : (meeting images (filesystem_as fs)).ending ≡ Ok tt
  pub known : IsCommitted images (filesystem_as fs) committed_blocks
  pub spared : All (CanBeSpared images (filesystem_as fs) committed_blocks) (blocks images (filesystem_as fs))
