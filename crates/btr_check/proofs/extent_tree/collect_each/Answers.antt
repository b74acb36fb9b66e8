use Rattle.std.proofs.Common.{◌≡◌, true, fold, option_to_list, Err}
use Rattle.std.proofs.lemmas.List.Elements.{Contains-append_left, Contains-append_right}
use Rattle.btr_tour.specs.declared.both.Both.{Both}
use Rattle.btr_check.specs.Passes.{marks_if}
use Rattle.btr_check.specs.Running.{world, is_outside}
use Rattle.btr_check.proofs.Runs.{nothing, ran_both, ran_stop, ran_stop_within, ran_then, ran_value, stop_is}
use Rattle.btr_check.proofs.extent_tree.collect_each.Goals as goal

abbrev both_of : {A B : Type 0} → A → B → Both A B
both_of first second = record { first = first; second = second }

pub returns-in_err-first : goal.returns-in_err-first
returns-in_err-first g c =
    let x = world (g.R.Rack.seen c.args.rack.now) c.args.vol.now in
    let y = world (g.R.Rack.seen c.collect.new.rack) c.collect.new.vol in
    let stop = c.in_err-first.field-0.0 in
    record {
      ran = rw (stop_is c.from_residual.result c.from_residual.ensures.1)
          (ran_stop_within (λ fs. is_outside stop ≡ true) (λ fs. is_outside stop ≡ true) x y stop c.in_err-first.ensures.ran (λ B h. h)
          (λ B want w. (w.0, Contains-append_left (option_to_list c.args.first) (option_to_list c.args.second) w.0 w.1, w.2)));
    }

pub returns-in_err-second : goal.returns-in_err-second
returns-in_err-second g c =
    let x = world (g.R.Rack.seen c.args.rack.now) c.args.vol.now in
    let y = world (g.R.Rack.seen c.collect.new.rack) c.collect.new.vol in
    let z = world (g.R.Rack.seen c.collect-2.new.rack) c.collect-2.new.vol in
    let first = c.in_ok-first.first in
    let stop = c.in_err-second.field-0.0 in
    record {
      ran = rw (stop_is c.from_residual-in_err-second.result c.from_residual-in_err-second.ensures.1)
          (ran_stop (λ fs. is_outside stop ≡ true) (λ fs. is_outside stop ≡ true) x z stop
          (ran_then (λ fs. first ≡ fold g.A.Visitor.step c.args.both.first (marks_if fs.blocks c.args.first))
          (λ fs. is_outside stop ≡ true) (λ fs. is_outside stop ≡ true) x y z first (Err stop) c.in_ok-first.ensures.ran c.in_err-second.ensures.ran
          (λ B p q. q)
          (λ B p want w. (w.0, Contains-append_right (option_to_list c.args.first) (option_to_list c.args.second) w.0 w.1, w.2)))
          (λ B h. h));
    }

pub returns : goal.returns
returns g c =
    let x = world (g.R.Rack.seen c.args.rack.now) c.args.vol.now in
    let y = world (g.R.Rack.seen c.collect.new.rack) c.collect.new.vol in
    let z = world (g.R.Rack.seen c.collect-2.new.rack) c.collect-2.new.vol in
    let first = c.in_ok-first.first in
    let second = c.in_ok-second.second in
    record {
      ran = ran_value
          (λ fs. both_of first second ≡ both_of (fold g.A.Visitor.step c.args.both.first (marks_if fs.blocks c.args.first))
          (fold g.B.Visitor.step c.args.both.second (marks_if fs.blocks c.args.second)))
          (λ fs. both_of first second ≡ both_of (fold g.A.Visitor.step c.args.both.first (marks_if fs.blocks c.args.first))
          (fold g.B.Visitor.step c.args.both.second (marks_if fs.blocks c.args.second)))
          x z second (both_of first second)
          (ran_both {U = nothing} (λ fs. first ≡ fold g.A.Visitor.step c.args.both.first (marks_if fs.blocks c.args.first))
          (λ fs. second ≡ fold g.B.Visitor.step c.args.both.second (marks_if fs.blocks c.args.second))
          (λ fs. both_of first second ≡ both_of (fold g.A.Visitor.step c.args.both.first (marks_if fs.blocks c.args.first))
          (fold g.B.Visitor.step c.args.both.second (marks_if fs.blocks c.args.second))) x y z first second c.in_ok-first.ensures.ran c.in_ok-second.ensures.ran
          (λ B p q. λ i. both_of (p i) (q i)))
          (λ B h. h);
    }
