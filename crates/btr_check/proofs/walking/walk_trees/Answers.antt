use Rattle.std.proofs.Common.{◌≡◌, [], ap, ◌∙◌, sym, subst}
use Rattle.btr_check.specs.Filesystem.{kind_of_sums}
use Rattle.btr_check.specs.Passing.{Knows}
use Rattle.btr_check.specs.Running.{world, filesystem}
use Rattle.btr_check.specs.Walking.{HasWalked, IsWalkOf, WalkSeen, nothing_walked}
use Rattle.btr_check.proofs.Passing.{knows_none}
use Rattle.btr_check.proofs.Runs.{ran_value}
use Rattle.btr_check.proofs.Treading.{walked_none, walked_all}
use Rattle.btr_check.proofs.walking.walk_trees.Goals as goal

pub returns-clause-ran : goal.returns-clause-ran
returns-clause-ran g c =
    let walk = c.new-walk.result in
    let known = c.new-subtrees.result.known.entries in
    ran_value (λ fs. HasWalked fs [] walk → Knows fs walk known → HasWalked fs c.args.trees.now c.walk_more.new.walk
    × Knows fs c.walk_more.new.walk c.walk_more.new.subtrees.known.entries)
    (λ fs. IsWalkOf fs c.args.trees.now c.walk_more.new.walk)
    (world (g.R.Rack.seen c.args.rack.now) c.args.vol.now) (world (g.R.Rack.seen c.walk_more.new.rack) c.walk_more.new.vol) tt c.walk_more.new.walk
    c.in_ok-walk_more.ensures.ran
    (λ B h.
    let fs = filesystem c.args.vol.now B in
    let begun : walk ≡ nothing_walked (kind_of_sums fs) = c.new-walk.ensures ∙ ap nothing_walked c.kind_of.ensures in
    walked_all fs c.args.trees.now c.walk_more.new.walk
    ((h (walked_none fs walk begun)
    (subst (Knows fs walk) (sym c.new-subtrees.ensures) (knows_none fs walk (ap (λ (s : WalkSeen). s.kind) begun)))).0))
