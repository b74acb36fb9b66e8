use Rattle.std.proofs.Common.{◌≡◌, false, Some, Ok, Err, fold, refl, sym, ap, ◌∙◌, subst}
use Rattle.std.specs.Bool.{⊤}
use Rattle.btr_tour.specs.Tour.{whole}
use Rattle.btr_check.specs.Before.{refusal}
use Rattle.btr_check.specs.Filesystem.{kind_in}
use Rattle.btr_check.specs.Running.{world, filesystem, OfReading, StopUnread, is_outside}
use Rattle.btr_check.specs.Trees.{root_tree}
use Rattle.btr_check.specs.Wanted.{OfTree}
use Rattle.btr_check.specs.Walking.{RootEnds, root_step, nothing_seen}
use Rattle.btr_check.proofs.Roots.{root_sound, root_broken}
use Rattle.btr_check.proofs.Runs.{fault_quiet, fault_unread, ran_refused, ran_stop_within, ran_value, stop_is}
use Rattle.btr_check.proofs.Wanting.{root_wanted}
use Rattle.btr_check.proofs.Wholes.{outside_only}
use Rattle.btr_check.proofs.trees.walk_root.Goals as goal

pub returns-in_err-visit_tree : goal.returns-in_err-visit_tree
returns-in_err-visit_tree g c =
    let x = world (g.R.Rack.seen c.args.rack.now) c.args.vol.now in
    let y = world (g.R.Rack.seen c.visit_tree.new.rack) c.visit_tree.new.vol in
    let stop = c.in_err-visit_tree.field-0.0 in
    record {
      ran = rw (stop_is c.from_residual.result c.from_residual.ensures.1)
          (ran_stop_within {A = Unit {0}} (λ fs. ⊤) (λ fs. is_outside stop ≡ false → refusal fs ≡ Some stop) x y stop c.in_err-visit_tree.ensures.ran
          (λ B h inside. outside_only (is_outside stop) _ c.in_err-visit_tree.ensures.outside inside)
          (λ B want w. root_wanted (filesystem c.args.vol.now B) (root_tree c.args.vol.now.sup) want refl
          (subst (λ place. OfTree place (filesystem c.args.vol.now B) want) c.root_root-root.ensures w)));
    }

pub returns-in-Ok : goal.returns-in-Ok
returns-in-Ok g c =
    let x = world (g.R.Rack.seen c.args.rack.now) c.args.vol.now in
    let y = world (g.R.Rack.seen c.visit_tree.new.rack) c.visit_tree.new.vol in
    record {
      ran = ran_value (λ fs. c.visit_tree.new.visitor ≡ fold root_step c.new-walk.result (whole fs.blocks c.root_root-root.result))
          (λ fs. RootEnds fs (Ok c.in-Ok.trees)) x y tt c.in-Ok.trees c.in_ok-visit_tree.ensures.ran
          (λ B h. root_sound (filesystem c.args.vol.now B) c.visit_tree.new.visitor
          (h ∙ ap (λ s. fold root_step s (whole B c.root_root-root.result)) (c.new-walk.ensures ∙ ap nothing_seen c.kind_of.ensures)
          ∙ ap (λ p. fold root_step (nothing_seen (kind_in c.args.vol.now.sup)) (whole B p)) c.root_root-root.ensures)
          c.in-Ok.trees.items c.in-Ok.ensures.0 c.in-Ok.ensures.1);
    }

pub returns-in-Err : goal.returns-in-Err
returns-in-Err g c =
    let x = world (g.R.Rack.seen c.args.rack.now) c.args.vol.now in
    let y = world (g.R.Rack.seen c.visit_tree.new.rack) c.visit_tree.new.vol in
    record {
      ran = ran_refused (λ fs. c.visit_tree.new.visitor ≡ fold root_step c.new-walk.result (whole fs.blocks c.root_root-root.result))
          (λ fs. RootEnds fs (Err c.stop.result)) x y tt c.stop.result c.in_ok-visit_tree.ensures.ran
          (λ Q. subst (StopUnread Q) (sym c.stop.ensures) (fault_unread Q c.in-Err.fault))
          (subst OfReading (sym c.stop.ensures) (fault_quiet c.in-Err.fault))
          (λ B h outside. root_broken (filesystem c.args.vol.now B) c.visit_tree.new.visitor
          (h ∙ ap (λ s. fold root_step s (whole B c.root_root-root.result)) (c.new-walk.ensures ∙ ap nothing_seen c.kind_of.ensures)
          ∙ ap (λ p. fold root_step (nothing_seen (kind_in c.args.vol.now.sup)) (whole B p)) c.root_root-root.ensures)
          c.in-Err.fault c.in-Err.ensures ∙ ap Some (sym c.stop.ensures));
    }
