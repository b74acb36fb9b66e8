use Rattle.std.proofs.Common.{false, ◌≡◌, ◌-◌, suc, Ok, None, Option, ℕ, subst, arith}
use Rattle.std.proofs.lemmas.Result.{err_from_is_err_and}
use Rattle.btr_prog.specs.Quiet.{quiet}
use Rattle.btr_resolve.specs.Climbing.{led, step_up}
use Rattle.btr_resolve.specs.Running.{Ran, stepped, world}
use Rattle.btr_resolve.proofs.Upward.{climbed_far, climbed_more, climbed_none, climbed_stop, climbed_top}
use Rattle.btr_resolve.proofs.climbing.climb.Goals as goal

pub loop-dir-init : goal.loop-dir-init
loop-dir-init g c = record { ready = c.requires; leads = λ text calls z answer h. h }

pub returns-then-dir-tree : goal.returns-then-dir-tree
returns-then-dir-tree g c text calls =
    let f = c.loop-dir in
    climbed_top (quiet (led 512 c.args.tree.now c.args.dir c.args.path.now)) c.args.tree.now f.left f.dir f.path _
    (world (g.R.Rack.seen f.rack) f.vol text calls) (f.invariant.leads text calls) f.invariant.ready c.if-dir-tree.true

pub returns-then-left-eq0 : goal.returns-then-left-eq0
returns-then-left-eq0 g c text calls =
    let f = c.loop-dir in
    climbed_far (quiet (led 512 c.args.tree.now c.args.dir c.args.path.now)) c.args.tree.now f.left f.dir f.path _
    (world (g.R.Rack.seen f.rack) f.vol text calls) (f.invariant.leads text calls) f.invariant.ready c.if-dir-tree.false c.if-left-eq0.true

pub returns-in_err-go_up : goal.returns-in_err-go_up
returns-in_err-go_up g c text calls =
    let f = c.loop-dir in
    let left : f.left ≡ suc (f.left - 1) = omega (arith, c.if-left-eq0.false) in
    let p = err_from_is_err_and c.from_residual.result c.from_residual.ensures.1 in
    rw (p.1, p.2)
    (climbed_stop (quiet (led 512 c.args.tree.now c.args.dir c.args.path.now)) c.args.tree.now f.left f.dir f.path _
    (world (g.R.Rack.seen f.rack) f.vol text calls) (f.invariant.leads text calls) (f.left - 1) c.if-dir-tree.false left
    (world (g.R.Rack.seen c.go_up.new.rack) c.go_up.new.vol text calls) c.in_err-go_up.field-0.0 (c.in_err-go_up.ensures text calls))

pub returns-in-None : goal.returns-in-None
returns-in-None g c text calls =
    let f = c.loop-dir in
    let y = world (g.R.Rack.seen f.rack) f.vol text calls in
    let z = world (g.R.Rack.seen c.go_up.new.rack) c.go_up.new.vol text calls in
    let left : f.left ≡ suc (f.left - 1) = omega (arith, c.if-left-eq0.false) in
    climbed_none (quiet (led 512 c.args.tree.now c.args.dir c.args.path.now)) c.args.tree.now f.left f.dir f.path _ y
    (f.invariant.leads text calls) (f.left - 1) c.if-dir-tree.false left z
    (subst (λ (o : Option ℕ). Ran (quiet (step_up c.args.tree.now f.dir f.path)) y z (stepped c.go_up.new.path (Ok o)))
    c.in-None.is (c.in_ok-go_up.ensures text calls))

pub loop-dir-preserved : goal.loop-dir-preserved
loop-dir-preserved g c =
    let f = c.loop-dir in
    record {
      ready = (c.in_ok-go_up.ensures None (record { faults = 0; sure = false; ample = false })).ready;
      leads = λ text calls.
          let y = world (g.R.Rack.seen f.rack) f.vol text calls in
          let z = world (g.R.Rack.seen c.go_up.new.rack) c.go_up.new.vol text calls in
          let left : f.left ≡ suc (f.left - 1) = omega (arith, c.if-left-eq0.false) in
          climbed_more (quiet (led 512 c.args.tree.now c.args.dir c.args.path.now)) c.args.tree.now f.left f.dir f.path _ y
          (f.invariant.leads text calls) (f.left - 1) c.if-dir-tree.false left z c.in-Some.parent c.go_up.new.path
          (subst (λ (o : Option ℕ). Ran (quiet (step_up c.args.tree.now f.dir f.path)) y z (stepped c.go_up.new.path (Ok o)))
          c.in-Some.is (c.in_ok-go_up.ensures text calls));
    }
