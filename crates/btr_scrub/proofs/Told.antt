-- The writes for a list of the blocks that were met.
use Rattle.std.proofs.Common.{◌≡◌, cond, List, [], ◌∷◌, is_none, refl, ap, ◌∙◌}
use Rattle.btr_scrub.proofs.Common.{Checked, Images, Layout, Met, Plain, all_writes_for, cons_option, failing, filter, filter_map, flat_map, is_in_chunk}
use Rattle.btr_scrub.proofs.Common.{mending_writes, mirrors, ok_or_none, row_writes, rows_in, sought, targets, wants_among}
use Rattle.btr_scrub.specs.Filesystem.{Filesystem}
use Rattle.btr_scrub.specs.Repair.{failed, met, target_met, writes}
use Rattle.btr_scrub.specs.Units.{Unchecked}
use Rattle.btr_scrub.specs.Whole.{ListedWrites, listed_failing}

-- the blocks of what was met are their positions
pub targets_met : (layout : Layout) (ms : List Met) → targets layout (wants_among ms) ≡ filter_map (target_met layout) ms
targets_met layout [] = refl
targets_met layout (Checked want ∷ ms) = ap (cons_option (ok_or_none (sought layout want))) (targets_met layout ms)
targets_met layout (Unchecked addr ∷ ms) = ap (cons_option (ok_or_none (sought layout (Plain addr)))) (targets_met layout ms)

-- the images that fail are those of the repair
pub failing_are : (images : Images) (fs : Filesystem) → listed_failing fs.layout (wants_among (met images fs)) images ≡ failed images fs
failing_are images fs = ap (failing images) (targets_met fs.layout (met images fs))

-- the writes beside that
pub writes_beside : (images : Images) (fs : Filesystem)
    → all_writes_for (failed images fs) fs.layout fs.layout.chunks (wants_among (met images fs)) images ≡ writes images fs
writes_beside images fs =
    ap (λ ts. flat_map (λ chunk. cond (is_none (mirrors chunk)) (flat_map (row_writes images fs.layout) (rows_in (failed images fs) ts chunk))
    (flat_map (mending_writes images (failed images fs)) (filter (is_in_chunk chunk) ts))) fs.layout.chunks) (targets_met fs.layout (met images fs))

-- the writes for a list of all blocks that are met are those that mend the filesystem
pub listed_writes : ListedWrites
listed_writes images fs =
    ap (λ kept. all_writes_for kept fs.layout fs.layout.chunks (wants_among (met images fs)) images) (failing_are images fs) ∙ writes_beside images fs
