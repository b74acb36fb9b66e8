use Rattle.std.proofs.Common.{◌≡◌, [], Some, fold, List, sym, ap, ◌∙◌}
use Rattle.btr_check_space.specs.Items.{group_in, with_mark}
use Rattle.btr_check_space.specs.declared.group.Group.{Group}
use Rattle.btr_refs.specs.Extents.{KeptExtents, nothing_kept, stored_step}
use Rattle.btr_tour.specs.Pairs.{both_step}
use Rattle.btr_tour.specs.declared.both.Both.{Both}
use Rattle.btr_check.specs.Counting.{Unless}
use Rattle.btr_check.specs.ExtentTree.{AreCollected}
use Rattle.btr_check.specs.Passes.{ListsSound, marks_if}
use Rattle.btr_check.specs.Running.{world, filesystem}
use Rattle.btr_check.specs.Trees.{last_of}
use Rattle.btr_check.specs.Walking.{or_first}
use Rattle.btr_check.proofs.ExtentTrees.{both_are, both_at_once}
use Rattle.btr_check.proofs.Passes.{unless_more}
use Rattle.btr_check.proofs.Runs.{ran_within}
use Rattle.btr_check.proofs.Wanting.{last_wanted, two_wanted}
use Rattle.btr_check.proofs.extent_tree.read_extents.Goals as goal

pub returns-in-None : goal.returns-in-None
returns-in-None g c =
    let x = world (g.R.Rack.seen c.args.rack.now) c.args.vol.now in
    let y = world (g.R.Rack.seen c.collect.new.rack) c.collect.new.vol in
    let listed = c.args.listed.now in
    let tree = c.last_of-extents.result in
    let none : Both KeptExtents (List Group) = record { first = c.new.result; second = c.new-2.result } in
    let empty : none ≡ record { first = nothing_kept c.args.vol.now.sup.nodesize; second = [] } =
    λ i. record { first = (c.new.ensures ∙ ap nothing_kept c.from.ensures) i; second = c.new-2.ensures i } in
    record {
      ran = ran_within (λ fs. Unless (λ both. both ≡ fold (both_step stored_step (with_mark group_in)) none (marks_if fs.blocks tree)) c.collect.result)
          (λ fs. ListsSound listed fs → Unless (AreCollected fs) c.collect.result) x y c.collect.result c.collect.ensures.ran
          (λ B h known.
          let fs = filesystem c.args.vol.now B in
          unless_more (λ both. both ≡ fold (both_step stored_step (with_mark group_in)) none (marks_if fs.blocks tree)) (AreCollected fs) c.collect.result
          (λ both is. both_at_once fs listed known c.stored_law.ensures c.collects_law.ensures.groups tree none both c.last_of-extents.ensures
          (sym c.last_of.ensures ∙ c.in-None.is) empty is) h)
          (λ B want w lists. last_wanted (filesystem c.args.vol.now B) listed 2 tree want c.last_of-extents.ensures lists w);
    }

pub returns-in-Some : goal.returns-in-Some
returns-in-Some g c =
    let x = world (g.R.Rack.seen c.args.rack.now) c.args.vol.now in
    let y = world (g.R.Rack.seen c.collect_each.new.rack) c.collect_each.new.vol in
    let listed = c.args.listed.now in
    let tree = c.last_of-extents.result in
    let groups = c.in-Some.groups in
    let none : Both KeptExtents (List Group) = record { first = c.new.result; second = c.new-2.result } in
    let empty : none ≡ record { first = nothing_kept c.args.vol.now.sup.nodesize; second = [] } =
    λ i. record { first = (c.new.ensures ∙ ap nothing_kept c.from.ensures) i; second = c.new-2.ensures i } in
    let own : Some groups ≡ last_of 11 listed = sym c.in-Some.is ∙ c.last_of.ensures in
    record {
      ran = ran_within (λ fs. Unless (λ both. both ≡ record {
        first = fold stored_step none.first (marks_if fs.blocks tree);
        second = fold (with_mark group_in) none.second (marks_if fs.blocks (Some groups));
      }) c.collect_each.result)
          (λ fs. ListsSound listed fs → Unless (AreCollected fs) c.collect_each.result) x y c.collect_each.result c.collect_each.ensures.ran
          (λ B h known.
          let fs = filesystem c.args.vol.now B in
          unless_more _ (AreCollected fs) c.collect_each.result
          (λ both is. both_are fs listed known c.stored_law.ensures c.collects_law.ensures.groups tree (Some groups) none both c.last_of-extents.ensures
          (ap (λ o. or_first o (last_of 2 listed)) own) empty is) h)
          (λ B want w lists. two_wanted (filesystem c.args.vol.now B) listed 2 11 tree (Some groups) want c.last_of-extents.ensures own lists w);
    }
