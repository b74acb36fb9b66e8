use Rattle.std.proofs.Common.{◌≡◌, true, fold, Some}
use Rattle.btr_check_names.specs.Names.{names_findings, names_step}
use Rattle.btr_check_names.specs.Subvolumes.{subvolumes_at}
use Rattle.btr_findings.specs.Findings.{Adds}
use Rattle.btr_check.specs.FileTrees.{TreatsNames}
use Rattle.btr_check.specs.Counting.{Unless}
use Rattle.std.specs.Bool.{⊤}
use Rattle.btr_check.specs.Passes.{marks_if}
use Rattle.btr_check.specs.Running.{world, filesystem, is_outside}
use Rattle.btr_check.proofs.FileTrees.{all_names_met, treats_names}
use Rattle.btr_check.proofs.Passes.{on_both, ran_put}
use Rattle.btr_check.proofs.Runs.{ran_more, ran_stop_within, stop_is}
use Rattle.btr_check.proofs.Wanting.{one_wanted}
use Rattle.btr_check.specs.Wanted.{OfTree}
use Rattle.btr_check.proofs.file_trees.put_names.Goals as goal

pub returns-in_err-all : goal.returns-in_err-all
returns-in_err-all g c =
    let x = world (g.R.Rack.seen c.args.rack.now) c.args.vol.now in
    let y = world (g.R.Rack.seen c.collect.new.rack) c.collect.new.vol in
    record {
      ran = rw (stop_is c.from_residual.result c.from_residual.ensures.1)
          (ran_stop_within (λ fs. is_outside c.in_err-all.field-0.0 ≡ true)
          (λ fs. is_outside c.in_err-all.field-0.0 ≡ true) x y c.in_err-all.field-0.0 c.in_err-all.ensures.ran (λ B h. h)
          (λ B want w. one_wanted (filesystem c.args.vol.now B) c.args.tree.now want w));
    }

pub returns : goal.returns
returns g c =
    let x = world (g.R.Rack.seen c.args.rack.now) c.args.vol.now in
    let y = world (g.R.Rack.seen c.collect.new.rack) c.collect.new.vol in
    let tree = c.args.tree.now in
    let all = c.in_ok-all.all in
    let found = c.args.found.now in
    let found' = c.put_all_names.new.found in
    let names = c.args.subvolumes.now in
    let names' = c.put_all_names.new.subvolumes in
    let put = ran_put {U = OfTree tree.place} (λ fs. all ≡ fold names_step c.new-nothing.result (marks_if fs.blocks (Some tree))) (λ fs. ⊤)
    (λ fs. TreatsNames fs.blocks tree found found' names names') x y all c.put_all_names.result c.or_memory.result c.in_ok-all.ensures.ran c.or_memory.ensures
    (λ B h known.
    let is = all_names_met B c.names_law.ensures tree c.new-nothing.result all c.new-nothing.ensures h in
    on_both (Adds (names_findings all) found found') (names' ≡ subvolumes_at names all.tree all.indexed)
    (TreatsNames B tree found found' names names') c.put_all_names.result
    (λ adds at. treats_names B tree all found found' names names' is adds at) c.put_all_names.ensures.found c.put_all_names.ensures.entries) in
    record {
      ran = ran_more (λ fs. ⊤ → Unless (λ u. TreatsNames fs.blocks tree found found' names names') c.or_memory.result)
          (λ fs. Unless (λ u. TreatsNames fs.blocks tree found found' names names') c.or_memory.result) x y c.or_memory.result put (λ B h. h tt);
    }
