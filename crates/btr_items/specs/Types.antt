-- The types of items, the second part of their keys, as the format has them.
-- The format is described at https://btrfs.readthedocs.io/en/latest/dev/On-disk-format.html
use Rattle.std.specs.Prelude.{ℕ, ◌==◌, if◌then◌else◌, List, codes, Option, Some, None}

-- an inode
abbrev pub inode_item : ℕ
inode_item = 1

-- names of an inode in one directory
abbrev pub inode_ref : ℕ
inode_ref = 12

-- names of an inode, where an INODE_REF had no room
abbrev pub inode_extref : ℕ
inode_extref = 13

-- extended attributes of an inode whose names have one hash
abbrev pub xattr_item : ℕ
xattr_item = 24

-- an inode without a name
abbrev pub orphan_item : ℕ
orphan_item = 48

-- entries of a directory whose names have one hash
abbrev pub dir_item : ℕ
dir_item = 84

-- an entry of a directory, by its index
abbrev pub dir_index : ℕ
dir_index = 96

-- a range of a file
abbrev pub extent_data : ℕ
extent_data = 108

-- checksums of consecutive sectors
abbrev pub extent_csum : ℕ
extent_csum = 128

-- the root of a tree
abbrev pub root_item : ℕ
root_item = 132

-- a name of a subvolume, under its id
abbrev pub root_backref : ℕ
root_backref = 144

-- a name of a subvolume, under the id of the one that holds the name
abbrev pub root_ref : ℕ
root_ref = 156

-- an extent, by its length
abbrev pub extent_item : ℕ
extent_item = 168

-- the extent of a tree block, by its level
abbrev pub metadata_item : ℕ
metadata_item = 169

-- a reference to a tree block by a tree
abbrev pub tree_block_ref : ℕ
tree_block_ref = 176

-- a reference to a data extent by a file
abbrev pub extent_data_ref : ℕ
extent_data_ref = 178

-- a reference to a tree block by a block
abbrev pub shared_block_ref : ℕ
shared_block_ref = 182

-- a reference to a data extent by a block
abbrev pub shared_data_ref : ℕ
shared_data_ref = 184

-- a block group
abbrev pub block_group_item : ℕ
block_group_item = 192

-- a range of a device that a chunk has
abbrev pub dev_extent : ℕ
dev_extent = 204

-- a device
abbrev pub dev_item : ℕ
dev_item = 216

-- a chunk
abbrev pub chunk_item : ℕ
chunk_item = 228

-- what a type is called; another type has no name
abbrev pub type_name : ℕ → Option (List ℕ)
type_name kind =
    if kind == inode_item then Some (codes "INODE_ITEM")
    else if kind == inode_ref then Some (codes "INODE_REF")
    else if kind == inode_extref then Some (codes "INODE_EXTREF")
    else if kind == xattr_item then Some (codes "XATTR_ITEM")
    else if kind == orphan_item then Some (codes "ORPHAN_ITEM")
    else if kind == dir_item then Some (codes "DIR_ITEM")
    else if kind == dir_index then Some (codes "DIR_INDEX")
    else if kind == extent_data then Some (codes "EXTENT_DATA")
    else if kind == extent_csum then Some (codes "EXTENT_CSUM")
    else if kind == root_item then Some (codes "ROOT_ITEM")
    else if kind == root_backref then Some (codes "ROOT_BACKREF")
    else if kind == root_ref then Some (codes "ROOT_REF")
    else if kind == extent_item then Some (codes "EXTENT_ITEM")
    else if kind == metadata_item then Some (codes "METADATA_ITEM")
    else if kind == tree_block_ref then Some (codes "TREE_BLOCK_REF")
    else if kind == extent_data_ref then Some (codes "EXTENT_DATA_REF")
    else if kind == shared_block_ref then Some (codes "SHARED_BLOCK_REF")
    else if kind == shared_data_ref then Some (codes "SHARED_DATA_REF")
    else if kind == block_group_item then Some (codes "BLOCK_GROUP_ITEM")
    else if kind == dev_extent then Some (codes "DEV_EXTENT")
    else if kind == dev_item then Some (codes "DEV_ITEM")
    else if kind == chunk_item then Some (codes "CHUNK_ITEM")
    else None
