use Rattle.std.proofs.Common.{◌≡◌, ◌+◌, ◌-◌, ◌++◌, ◌∙◌, refl, None, take, get_or, ap}
use Rattle.btr_walk.specs.declared.block_pointer.BlockPointer.{BlockPointer}
use Rattle.btr_check_differences.specs.Differing.{items_at, items_below}
use Rattle.btr_check_differences.specs.Reading.{world}
use Rattle.btr_check_differences.proofs.Nodes.{nodes_more}
use Rattle.btr_check_differences.proofs.Calls.{read_none, read_then}
use Rattle.btr_check_differences.proofs.children.children_of.Goals as goal

pub loop-pointer-init : goal.loop-pointer-init
loop-pointer-init g c = record {
  ranges = refl;
  read = read_none (λ B. items_below B (c.args.level - 1) c.new-children.result.items ≡ items_below B c.args.level (take 0 c.args.block_pointers.now))
      (world (g.R.Rack.seen c.args.rack.now) c.args.store.now) c.requires.ready
      (λ B. ap (items_below B (c.args.level - 1)) c.new-children.ensures.items);
}

pub loop-pointer-preserved : goal.loop-pointer-preserved
loop-pointer-preserved g c =
    let l = c.loop-pointer in
    let level = c.args.level in
    let block_pointers = c.args.block_pointers.now in
    let none : BlockPointer = record { addr = 0; generation = 0; first = None; up = None } in
    let old = l.children.items in
    let new = c.read_children.new.children.items in
    record {
      ranges = c.spend.ensures ∙ l.invariant.ranges;
      read = read_then (λ B. items_below B (level - 1) old ≡ items_below B level (take l.pointer-index block_pointers))
          (λ B. items_below B (level - 1) new ≡ items_below B (level - 1) old ++ items_at B level (get_or block_pointers l.pointer-index none))
          (λ B. items_below B (level - 1) new ≡ items_below B level (take (l.pointer-index + 1) block_pointers))
          (world (g.R.Rack.seen c.args.rack.now) c.args.store.now) (world (g.R.Rack.seen l.rack) l.store)
          (world (g.R.Rack.seen c.read_children.new.rack) c.read_children.new.store) l.invariant.read c.in-Some-read_children.ensures.read
          (λ B had more. nodes_more B level block_pointers l.pointer-index none (items_below B (level - 1) old) (items_below B (level - 1) new)
          c.loop-pointer-test.true had more);
    }
