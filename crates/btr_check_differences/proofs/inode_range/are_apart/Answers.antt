use Rattle.std.proofs.Common.{◌≡◌, ◌-◌, ◌+◌, ◌<◌, ◌∙◌, length, sym, subst, true, drop, arith}
use Rattle.std.proofs.lemmas.Bool.{and_parts}
use Rattle.btr_check_differences.specs.declared.inode_range.InodeRange.{InodeRange}
use Rattle.btr_check_differences.specs.Ranges.{are_apart}
use Rattle.btr_check_differences.proofs.Apart.{apart_more, apart_none, not_apart}
use Rattle.btr_check_differences.proofs.inode_range.are_apart.Goals as goal

pub loop-from-init : goal.loop-from-init
loop-from-init c = record { within = omega arith; apart = apart_none c.args.ranges.now }

pub loop-from-preserved : goal.loop-from-preserved
loop-from-preserved c =
    let from = c.loop-from.from in
    let none : InodeRange = record { first = 0; last = 0 } in
    let lt : from - 1 < length c.args.ranges.now = omega (arith, c.loop-from-test.true, c.loop-from.invariant.within) in
    let is : from ≡ from - 1 + 1 = omega (arith, c.loop-from-test.true) in
    let both = and_parts _ _ (sym (c.is_in_order.ensures none) ∙ c.if-not-is_in_order.false) in
    record {
      within = omega (arith, c.loop-from.invariant.within);
      apart = apart_more c.args.ranges.now (from - 1) none lt both.0 both.1
          (subst (λ n. are_apart (drop n c.args.ranges.now) ≡ true) is c.loop-from.invariant.apart);
    }

pub returns-then-not-is_in_order : goal.returns-then-not-is_in_order
returns-then-not-is_in_order c =
    let from = c.loop-from.from in
    let none : InodeRange = record { first = 0; last = 0 } in
    let lt : from - 1 < length c.args.ranges.now = omega (arith, c.loop-from-test.true, c.loop-from.invariant.within) in
    sym (not_apart c.args.ranges.now (from - 1) none lt (sym (c.is_in_order.ensures none) ∙ c.if-not-is_in_order.true))
