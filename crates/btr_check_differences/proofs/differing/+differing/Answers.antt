use Rattle.std.proofs.Common.{◌-◌, ◌+◌, sym, ap, ◌∙◌, None, OnSome, drop, take, subst}
use Rattle.btr_walk.specs.declared.block_pointer.BlockPointer.{BlockPointer}
use Rattle.btr_check_differences.specs.Differing.{AreBelow, DifferAt, items_below}
use Rattle.btr_check_differences.specs.Ranges.{AreIn, TakesAll}
use Rattle.btr_check_differences.specs.Reading.{world}
use Rattle.btr_check_differences.proofs.Calls.{on_both, on_some, read_none, read_then}
use Rattle.btr_check_differences.proofs.Differences.{LeftDecides, all_differ, children_differ, in_same, in_then, leaves_differ, shared_decides}
use Rattle.btr_check_differences.proofs.differing.+differing.Goals as goal

pub compare-loop-at-init : goal.compare-loop-at-init
compare-loop-at-init g t c = record {
  kept = in_same c.args.found.now.ranges.items;
  read = read_none (λ B. LeftDecides B c.args.level c.args.before.now c.args.after.now c.args.before.now c.args.after.now c.args.found.now.ranges.items)
      (world (g.R.Rack.seen c.args.rack.now) c.args.store.now) c.requires.ready (λ B wider within h. h);
}

pub compare-loop-at-preserved : goal.compare-loop-at-preserved
compare-loop-at-preserved g t c =
    let l = c.loop-at in
    let level = c.args.level in
    let before = c.args.before.now in
    let after = c.args.after.now in
    let at = c.in-Some.at in
    let none : BlockPointer = record { addr = 0; generation = 0; first = None; up = None } in
    let old = l.found.ranges.items in
    let new = c.compare_own.new.found.ranges.items in
    let own = c.in-Some-compare_own.ensures in
    record {
      kept = in_then c.args.found.now.ranges.items old new l.invariant.kept own.kept;
      read = read_then (λ B. LeftDecides B level before after l.before.now l.after.now old)
          (λ B. DifferAt B level (take at.before l.before.now) (take at.after l.after.now) new)
          (λ B. LeftDecides B level before after c.behind-before.result.now c.behind-after.result.now new)
          (world (g.R.Rack.seen c.args.rack.now) c.args.store.now) (world (g.R.Rack.seen l.rack) l.store)
          (world (g.R.Rack.seen c.compare_own.new.rack) c.compare_own.new.store) l.invariant.read own.read
          (λ B decides differ. subst (λ left. LeftDecides B level before after left c.behind-after.result.now new) (sym c.behind-before.ensures)
          (subst (λ left. LeftDecides B level before after (drop (at.before + 1) l.before.now) left new) (sym c.behind-after.ensures)
          (shared_decides B level before after l.before.now l.after.now old new at.before at.after none c.in-Some.ensures.within
          c.in-Some.ensures.within_other (c.in-Some.ensures.same none) own.kept decides differ)));
    }

pub compare-returns-clause-read : goal.compare-returns-clause-read
compare-returns-clause-read g t c =
    let l = c.loop-at in
    let level = c.args.level in
    let before = c.args.before.now in
    let after = c.args.after.now in
    let old = l.found.ranges.items in
    let new = c.compare_own-2.new.found.ranges.items in
    let r = c.compare_own-2.result in
    read_then (λ B. LeftDecides B level before after l.before.now l.after.now old) (λ B. OnSome r (DifferAt B level l.before.now l.after.now new))
    (λ B. OnSome r (DifferAt B level before after new)) (world (g.R.Rack.seen c.args.rack.now) c.args.store.now) (world (g.R.Rack.seen l.rack) l.store)
    (world (g.R.Rack.seen c.compare_own-2.new.rack) c.compare_own-2.new.store) l.invariant.read c.compare_own-2.ensures.read
    (λ B decides differ. on_both r (AreIn old new) (DifferAt B level l.before.now l.after.now new) (DifferAt B level before after new)
    (λ grows more. all_differ B level before after l.before.now l.after.now old new grows decides more) c.compare_own-2.ensures.kept differ)

pub compare_own-returns-then-level-eq0-clause-read : goal.compare_own-returns-then-level-eq0-clause-read
compare_own-returns-then-level-eq0-clause-read g t c =
    let level = c.args.level in
    let before = c.args.before.now in
    let after = c.args.after.now in
    let old = c.args.found.now.ranges.items in
    let new = c.take_both.new.found.ranges.items in
    let r = c.take_both.result in
    read_none (λ B. OnSome r (DifferAt B level before after new)) (world (g.R.Rack.seen c.args.rack.now) c.args.store.now) c.requires.ready
    (λ B. on_some r (TakesAll old _ new) (DifferAt B level before after new) (leaves_differ B level old new before after c.if-level-eq0.true)
    c.take_both.ensures)

pub compare_own-returns-clause-read : goal.compare_own-returns-clause-read
compare_own-returns-clause-read g t c =
    let level = c.args.level in
    let before = c.args.before.now in
    let after = c.args.after.now in
    let one = c.in-Some.before.items in
    let two = c.in-Some-children_of.after.items in
    let new = c.compare.new.found.ranges.items in
    let r = c.compare.result in
    let x = world (g.R.Rack.seen c.args.rack.now) c.args.store.now in
    let y = world (g.R.Rack.seen c.children_of.new.rack) c.children_of.new.store in
    let z = world (g.R.Rack.seen c.children_of-in-Some.new.rack) c.children_of-in-Some.new.store in
    let w = world (g.R.Rack.seen c.compare.new.rack) c.compare.new.store in
    read_then (λ B. AreBelow B level before one × AreBelow B level after two)
    (λ B. OnSome r (DifferAt B (level - 1) c.as_slice.result.now c.as_slice-in-Some-children_of.result.now new))
    (λ B. OnSome r (DifferAt B level before after new)) x z w
    (read_then (λ B. AreBelow B level before one) (λ B. AreBelow B level after two) (λ B. AreBelow B level before one × AreBelow B level after two) x y z
    c.in-Some.ensures.read c.in-Some-children_of.ensures.read (λ B h k. (h, k)))
    c.compare.ensures.read
    (λ B are differ. on_some r (DifferAt B (level - 1) c.as_slice.result.now c.as_slice-in-Some-children_of.result.now new) (DifferAt B level before after new)
    (children_differ B level before after c.as_slice.result.now c.as_slice-in-Some-children_of.result.now new
    (ap (items_below B (level - 1)) c.as_slice.ensures.value ∙ are.0)
    (ap (items_below B (level - 1)) c.as_slice-in-Some-children_of.ensures.value ∙ are.1)) differ)
