-- Extents and what uses them.
use Rattle.std.specs.Prelude.{List, [], ◌++◌, map, flat_map}
use Rattle.btr_findings.specs.declared.finding.Finding.{Finding}
use Rattle.btr_refs.specs.Extents.{KeptExtents, stored_in, stored_of}
use Rattle.btr_refs.specs.Counts.{RefCounts, counted_all}
use Rattle.btr_refs.specs.declared.counted.Counted.{Counted}
use Rattle.btr_refs.specs.Forward.{Use, extent_findings, met}
use Rattle.btr_check.specs.Trees.{uses}
use Rattle.btr_refs.specs.Differences.{count_findings, differences, total_findings}
use Rattle.btr_check.specs.Filesystem.{Filesystem, extents, tree_items}

-- all uses of a filesystem, tree by tree
abbrev pub all_uses : Filesystem → List Use
all_uses fs = uses fs.sup fs.blocks (extents fs)

-- how often each of some references is met, in all
abbrev pub counts_of : List Counted → RefCounts
counts_of refs = counted_all [] refs

-- how often each reference is counted among all uses
abbrev pub counted_refs : Filesystem → RefCounts
counted_refs fs = counts_of (map met (all_uses fs))

-- what the extent tree stores
abbrev pub stored : Filesystem → KeptExtents
stored fs = stored_of fs.sup.nodesize (tree_items fs 2)

-- how often each reference is stored in the extent tree
abbrev pub stored_refs : Filesystem → RefCounts
stored_refs fs = counts_of (stored_in (tree_items fs 2))

-- a reference is counted another number of times than it is stored
abbrev pub found_on_counts : Filesystem → List Finding
found_on_counts fs = count_findings (counted_refs fs) (stored_refs fs)

-- an extent states another number of references than are stored
abbrev pub found_on_totals : Filesystem → List Finding
found_on_totals fs = total_findings (extents fs) (stored_refs fs)

-- where the uses that are counted and the references that are stored differ
abbrev pub difference_findings : Filesystem → List Finding
difference_findings fs = differences (counted_refs fs) (extents fs) (stored_refs fs)

-- what is wrong with extents, by all that uses them
abbrev pub found_on_uses : Filesystem → List Finding
found_on_uses fs = flat_map (extent_findings fs.sup.nodesize (all_uses fs)) (extents fs)

-- 7 to 11
abbrev pub reference_findings : Filesystem → List Finding
reference_findings fs = difference_findings fs ++ found_on_uses fs
