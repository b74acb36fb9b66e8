use Rattle.std.proofs.Common.{◌≡◌, true, fold, [], Option, option_to_list, sym, ap, ◌∙◌, subst}
use Rattle.std.specs.List.{Contains}
use Rattle.std.specs.Bool.{⊤}
use Rattle.btr_tour.specs.Tour.{whole}
use Rattle.btr_volume.specs.declared.root.TreeRoot.{TreeRoot}
use Rattle.btr_check.specs.Passes.{marks_if}
use Rattle.btr_check.specs.Running.{world, is_outside}
use Rattle.btr_check.proofs.Runs.{ran_none, ran_stop_within, ran_value, stop_is}
use Rattle.btr_check.proofs.Wants.{first_in}
use Rattle.btr_check.proofs.collecting.collect.Goals as goal

pub returns-in_default : goal.returns-in_default
returns-in_default g c =
    let x = world (g.R.Rack.seen c.args.rack.now) c.args.vol.now in
    record {
      ran = ran_none (λ fs. c.args.visitor ≡ fold g.V.Visitor.step c.args.visitor (marks_if fs.blocks c.args.tree)) x c.args.visitor c.requires.ready
          (λ B. sym (ap (λ t. fold g.V.Visitor.step c.args.visitor (marks_if B t)) c.in_default.is));
    }

pub returns : goal.returns
returns g c =
    let x = world (g.R.Rack.seen c.args.rack.now) c.args.vol.now in
    let y = world (g.R.Rack.seen c.visit_tree.new.rack) c.visit_tree.new.vol in
    record {
      ran = ran_value {A = Unit {0}} (λ fs. c.visit_tree.new.visitor ≡ fold g.V.Visitor.step c.args.visitor (whole fs.blocks c.in-Some.tree.place))
          (λ fs. c.visit_tree.new.visitor ≡ fold g.V.Visitor.step c.args.visitor (marks_if fs.blocks c.args.tree))
          x y tt c.visit_tree.new.visitor c.in_ok-visit_tree.ensures.ran
          (λ B h. h ∙ sym (ap (λ t. fold g.V.Visitor.step c.args.visitor (marks_if B t)) c.in-Some.is));
    }

pub returns-in_err-visit_tree : goal.returns-in_err-visit_tree
returns-in_err-visit_tree g c =
    let tree = c.in-Some.tree in
    let x = world (g.R.Rack.seen c.args.rack.now) c.args.vol.now in
    let y = world (g.R.Rack.seen c.visit_tree.new.rack) c.visit_tree.new.vol in
    record {
      ran = rw (stop_is c.from_residual.result c.from_residual.ensures.1)
          (ran_stop_within {A = Unit {0}} (λ fs. ⊤) (λ fs. is_outside c.in_err-visit_tree.field-0.0 ≡ true) x y c.in_err-visit_tree.field-0.0
          c.in_err-visit_tree.ensures.ran (λ B h. c.in_err-visit_tree.ensures.outside)
          (λ B want w. (tree, subst (λ (o : Option TreeRoot). Contains (option_to_list o) tree) (sym c.in-Some.is) (first_in tree []), w)));
    }
