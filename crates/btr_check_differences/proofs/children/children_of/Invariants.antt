use Rattle.std.proofs.Common.{◌≡◌, ◌-◌, take}
use Rattle.btr_check_differences.specs.Differing.{items_below}
use Rattle.btr_check_differences.specs.Reading.{Read, world}
use Rattle.btr_check_differences.proofs.children.children_of.Given as goal

-- the children of the nodes so far
abbrev pub invariant-loop-pointer : goal.invariant-loop-pointer
invariant-loop-pointer g l = record {
  ranges : l.found.ranges ≡ l.fn.found.ranges;
  read : Read (λ B. items_below B (l.level - 1) l.children.items ≡ items_below B l.level (take l.pointer-index l.block_pointers))
      (world (g.R.Rack.seen l.fn.rack) l.fn.store) (world (g.R.Rack.seen l.rack) l.store);
}
