use Rattle.btr_findings.proofs.Adding.{adds_more_of}
use Rattle.btr_check_sums.specs.Sums.{range_missing}
use Rattle.btr_check_sums.specs.declared.used_range.UsedRange.{UsedRange}
use Rattle.btr_check_sums.proofs.missing.put_missing_sums.Goals as goal

abbrev nothing : UsedRange
nothing = record { inode = 0; addr = 0; skip = 0; len = 0 }

pub loop-range-preserved : goal.loop-range-preserved
loop-range-preserved c = λ runs same.
    adds_more_of (range_missing c.args.places.now.chunks.now runs c.args.tree c.args.loose.now) c.args.used.now c.loop-range.range-index nothing
    c.args.found.now c.loop-range.found c.put_range_missing.new.found c.loop-range-test.true
    (c.loop-range.invariant runs same) (c.in_ok-put_range_missing.ensures runs c.args.loose.now c.in_ok-inodes.ensures same)
