use Rattle.std.proofs.Common.{◌≡◌, [], fold, Some, ap, ◌∙◌}
use Rattle.btr_check_names.specs.Subvolumes.{no_subvolumes, subvolumes_step, subvolumes_in}
use Rattle.btr_tour.specs.Tour.{whole}
use Rattle.btr_volume.specs.Tree.{named_root}
use Rattle.btr_volume.specs.declared.root.TreeRoot.{TreeRoot}
use Rattle.btr_check.specs.Counting.{Unless}
use Rattle.btr_check.specs.Filesystem.{root_items}
use Rattle.btr_check.specs.Passes.{marks_if}
use Rattle.btr_check.specs.Running.{world, filesystem}
use Rattle.btr_check.specs.Trees.{root_tree}
use Rattle.btr_check.proofs.Passes.{unless_more}
use Rattle.btr_check.proofs.Runs.{ran_within}
use Rattle.btr_check.proofs.Wanting.{one_wanted, root_wanted}
use Rattle.btr_check.proofs.file_trees.read_subvolumes.Goals as goal

pub returns : goal.returns
returns g c =
    let x = world (g.R.Rack.seen c.args.rack.now) c.args.vol.now in
    let y = world (g.R.Rack.seen c.collect.new.rack) c.collect.new.vol in
    record {
      ran = ran_within (λ fs. Unless (λ met. met ≡ fold subvolumes_step c.new.result (marks_if fs.blocks (Some c.named_root-tree.result))) c.collect.result)
          (λ fs. Unless (λ met. met ≡ subvolumes_in (root_items fs) []) c.collect.result) x y c.collect.result c.collect.ensures.ran
          (λ B h. unless_more _ _ c.collect.result
          (λ met is. is ∙ ap (λ n. fold subvolumes_step n (whole B c.named_root-tree.result.place)) c.new.ensures
          ∙ ap (λ (t : TreeRoot). fold subvolumes_step no_subvolumes (whole B t.place)) (c.named_root-tree.ensures ∙ ap (named_root 1) c.root_root.ensures)
          ∙ c.subvolumes_law.ensures (whole B (root_tree c.args.vol.now.sup).place))
          h)
          (λ B want w.
          let fs = filesystem c.args.vol.now B in
          let tree = c.named_root-tree.result in
          root_wanted fs tree want (c.named_root-tree.ensures ∙ ap (named_root 1) c.root_root.ensures) (one_wanted fs tree want w));
    }
