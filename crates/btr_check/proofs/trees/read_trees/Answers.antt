use Rattle.std.proofs.Common.{◌≡◌, ◌++◌, false, Some, Ok, map, sym, ap, ◌∙◌}
use Rattle.btr_check.specs.Before.{refusal, list_refusals, first_of, fault_stop}
use Rattle.btr_check.specs.Trees.{listed}
use Rattle.btr_check.specs.Running.{world, is_outside}
use Rattle.btr_check.specs.Walking.{RootEnds}
use Rattle.btr_check.proofs.Runs.{listed_quiet, listed_unread, ran_refused, stop_is}
use Rattle.btr_check.proofs.trees.read_trees.Goals as goal

pub returns-in-Some : goal.returns-in-Some
returns-in-Some g c =
    let x = world (g.R.Rack.seen c.args.rack.now) c.args.vol.now in
    let y = world (g.R.Rack.seen c.walk_root.new.rack) c.walk_root.new.vol in
    record {
      ran = ran_refused (λ fs. RootEnds fs (Ok c.in_ok-trees.trees)) (λ fs. is_outside c.in-Some.stop ≡ false
          → refusal fs ≡ Some c.in-Some.stop) x y c.in_ok-trees.trees c.in-Some.stop c.in_ok-trees.ensures.ran
          (λ Q. listed_unread Q c.in-Some.stop c.in-Some.ensures.listed) (listed_quiet c.in-Some.stop c.in-Some.ensures.listed)
          (λ B h outside. ap (λ l. first_of (map fault_stop l ++ list_refusals (listed c.args.vol.now.sup B))) h.0
          ∙ ap (λ l. first_of (list_refusals l)) (sym h.1 ∙ sym c.deref.ensures.value) ∙ sym c.in-Some.ensures.value);
    }

pub returns-in_err-trees : goal.returns-in_err-trees
returns-in_err-trees g c = record { ran = rw (stop_is c.from_residual.result c.from_residual.ensures.1) c.in_err-trees.ensures.ran }
