use Rattle.std.proofs.Common.{◌≡◌, Bool, true, false, Option, Some, None, subst}
use Rattle.std.specs.Bool.{⊤}
use Rattle.btr_check.specs.Differing.{Differ, IsSoundBy, AddUp}
use Rattle.btr_check.specs.Families.{AreSumRanges}
use Rattle.btr_check.specs.Running.{world, filesystem}
use Rattle.btr_check.proofs.AddingUp.{sound_by}
use Rattle.btr_check.proofs.Runs.{ran_both, ran_value}
use Rattle.btr_check.proofs.differing.is_sound_by.Goals as goal

pub returns-in-None : goal.returns-in-None
returns-in-None g c =
    let x = world (g.R.Rack.seen c.args.rack.now) c.args.vol.now in
    let y = world (g.R.Rack.seen c.find_ranges.new.rack) c.find_ranges.new.vol in
    record {
      ran = ran_value (λ fs. ⊤) (λ fs. AreSumRanges fs c.args.sums.now → false ≡ true → IsSoundBy fs c.args.before.now c.args.after.now) x y _ false
          c.in-None.ensures.ran (λ B h held yes. cc);
    }

pub returns-in-Some : goal.returns-in-Some
returns-in-Some g c =
    let x = world (g.R.Rack.seen c.args.rack.now) c.args.vol.now in
    let y = world (g.R.Rack.seen c.find_ranges.new.rack) c.find_ranges.new.vol in
    let z = world (g.R.Rack.seen c.add_up.new.rack) c.add_up.new.vol in
    let before = c.args.before.now in
    let after = c.args.after.now in
    let sums = c.args.sums.now in
    let ranges = c.in-Some.ranges.items in
    let e = c.in-Some.ensures in
    let r = c.add_up.result in
    record {
      ran = ran_both (λ fs. Differ fs before.rooted after ranges) (λ fs. r ≡ true → AddUp fs sums before.rooted after c.as_slice.result.now)
          (λ fs. AreSumRanges fs sums → r ≡ true → IsSoundBy fs before after) x y z _ r e.ran c.add_up.ensures.ran
          (λ B differ adds held yes. sound_by (filesystem c.args.vol.now B) c.alike_law.ensures c.difference_law.ensures c.missing_law.ensures
          c.settled_law.ensures before after sums ranges e.alike e.apart differ held
          (subst (AddUp (filesystem c.args.vol.now B) sums before.rooted after) c.as_slice.ensures.value (adds yes)));
    }
