-- References to extents, in items of their own and in the items of the extents.
use Rattle.std.specs.Prelude.{ℕ, ◌+◌, ◌==◌, ◌||◌, if◌then◌else◌, List, Option, Some, None}
use Rattle.btr_base.specs.Field.{number_at}
use Rattle.btr_items.specs.Types.{tree_block_ref, extent_data_ref, shared_block_ref, shared_data_ref}
use Rattle.btr_items.specs.declared.link.Link.{Link}
use Rattle.btr_items.specs.declared.link.Link.TheVariants.{Tree, SharedTree, File, SharedFile}

-- how many bytes a reference of a type has behind its offset; no other type is one
abbrev pub data_size : ℕ → Option ℕ
data_size kind =
    if (kind == tree_block_ref) || (kind == shared_block_ref) then Some 0
    else if kind == extent_data_ref then Some 28
    else if kind == shared_data_ref then Some 4
    else None

-- how many bytes its offset has in the item of the extent: a file's reference has none
abbrev pub offset_size : ℕ → ℕ
offset_size kind = if kind == extent_data_ref then 0 else 8

-- what it leads back to: its offset names it, or for a file the three numbers behind
abbrev pub link_at : ℕ → ℕ → ℕ → List ℕ → Link
link_at kind offset at body =
    if kind == tree_block_ref then Tree offset
    else if kind == shared_block_ref then SharedTree offset
    else if kind == extent_data_ref then File (number_at 8 at body) (number_at 8 (at + 8) body) (number_at 8 (at + 16) body)
    else SharedFile offset

-- how often it refers: a reference to a tree block counts 1
abbrev pub count_at : ℕ → ℕ → List ℕ → ℕ
count_at kind at body =
    if kind == extent_data_ref then number_at 4 (at + 24) body
    else if kind == shared_data_ref then number_at 4 at body
    else 1
