-- What is wrong with the trees themselves.
use Rattle.std.specs.Prelude.{ℕ, ◌==◌, ◌||◌, not, nat_le, List, [], ◌∷◌, ◌++◌, filter_map, flat_map, option_map, Option, None, if◌then◌else◌}
use Rattle.std.specs.Result.{result_ok}
use Rattle.btr_base.specs.declared.key.Key.{Key}
use Rattle.btr_base.specs.declared.kind.SumKind.{SumKind}
use Rattle.btr_items.specs.FileExtent.{file_extent_of, end_of}
use Rattle.btr_items.specs.declared.file_extent.FileExtent.{FileExtent}
use Rattle.btr_items.specs.Types.{extent_data}
use Rattle.btr_walk.specs.Le.{TreeItem}
use Rattle.btr_findings.specs.declared.finding.Finding.{Finding}
use Rattle.btr_findings.specs.declared.kind.Kind.TheVariants as kind
use Rattle.btr_findings.specs.Findings.{found, unless}
use Rattle.btr_tour.specs.Tour.{Mark, whole, items_met}
use Rattle.btr_volume.specs.declared.root.TreeRoot.{TreeRoot}
use Rattle.btr_check.specs.declared.block_fault.BlockFault.{BlockFault}
use Rattle.btr_check.specs.declared.block_fault.BlockFault.TheVariants.{Lost, Malformed, Unmapped, Crosses}
use Rattle.btr_check.specs.declared.walk.FileRange.{FileRange}
use Rattle.btr_check.specs.Before.{wrong}
use Rattle.btr_check.specs.Trees.{trees}
use Rattle.btr_check.specs.Filesystem.{Filesystem, kind_of_sums, neighbours}

-- a block is lost, malformed, at an unmapped address, or crosses an element
abbrev pub fault_finding : BlockFault → Finding
fault_finding (Lost addr) = found kind.Lost (addr ∷ [])
fault_finding (Malformed addr) = found kind.Malformed (addr ∷ [])
fault_finding (Unmapped addr) = found kind.Unmapped (addr ∷ [])
fault_finding (Crosses addr) = found kind.Crosses (addr ∷ [])

-- what is wrong with what a tour meets; an item that hasn't its form makes its leaf malformed
abbrev pub broken : SumKind → Mark → Option Finding
broken kind mark = option_map fault_finding (wrong kind mark)

-- the range of a file that an item has, and the leaf that it stands in
abbrev pub range_with : Key → ℕ → FileExtent → FileRange
range_with key leaf extent = record { inode = key.objectid; start = key.offset; end = end_of key.offset extent; leaf = leaf }

-- the range of a file that an EXTENT_DATA has, if it has its form
abbrev pub range_in : Key → ℕ → List ℕ → Option FileRange
range_in key leaf body = if key.kind == extent_data then option_map (range_with key leaf) (result_ok (file_extent_of key.offset body)) else None

-- the range of a file that an item has, if it is an EXTENT_DATA
abbrev pub range_of : TreeItem → Option FileRange
range_of item = range_in item.key item.leaf item.body

-- an extent of a file begins before the end of the one before it
abbrev pub not_apart : FileRange × FileRange → Option Finding
not_apart two = unless (not (two.0.inode == two.1.inode) || nat_le two.0.end two.1.start) (found kind.Malformed (two.1.leaf ∷ []))

-- the ranges of files that a tour meets
abbrev pub ranges_met : List Mark → List FileRange
ranges_met marks = filter_map range_of (items_met marks)

module _ (fs : Filesystem) where
  -- what is broken in a tree
  abbrev pub tree_broken : TreeRoot → List Finding
  tree_broken tree = filter_map (broken (kind_of_sums fs)) (whole fs.blocks tree.place)

  -- the extents of a tree's files that aren't apart
  abbrev pub tree_overlapping : TreeRoot → List Finding
  tree_overlapping tree = filter_map not_apart (neighbours (ranges_met (whole fs.blocks tree.place)))

  -- the same of all trees
  abbrev pub walk_findings : List Finding
  walk_findings = flat_map tree_broken (trees fs.sup fs.blocks) ++ flat_map tree_overlapping (trees fs.sup fs.blocks)
