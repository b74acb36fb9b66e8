use Rattle.std.proofs.Common.{◌≡◌, ℕ, ◌-◌, ◌∙◌, None, IfSome, List, sym, subst}
use Rattle.std.specs.Bool.{⊤}
use Rattle.btr_check_differences.specs.Differing.{DifferAt}
use Rattle.btr_walk.specs.declared.block_pointer.BlockPointer.{BlockPointer}
use Rattle.btr_check.specs.Differing.{Differ}
use Rattle.btr_check.specs.Running.{world}
use Rattle.btr_check.proofs.AddingUp.{ran_read}
use Rattle.btr_check.proofs.Runs.{ran_none}
use Rattle.btr_check.proofs.differing.find_ranges.Goals as goal

pub returns-then-not-can_compare-clause-ran : goal.returns-then-not-can_compare-clause-ran
returns-then-not-can_compare-clause-ran g c =
    ran_none (λ fs. ⊤) (world (g.R.Rack.seen c.args.rack.now) c.args.vol.now) None c.requires.ready (λ B. tt)

pub returns-in-None-clause-ran : goal.returns-in-None-clause-ran
returns-in-None-clause-ran g c = ran_none (λ fs. ⊤) (world (g.R.Rack.seen c.args.rack.now) c.args.vol.now) None c.requires.ready (λ B. tt)

pub returns-in-Some-clause-ran : goal.returns-in-Some-clause-ran
returns-in-Some-clause-ran g c =
    let before = c.args.before.now.rooted in
    let after = c.args.after.now in
    let r = c.find_differences.result in
    let old = c.as_slice-old.result.now in
    let new = c.as_slice-new.result.now in
    let level = c.in-Some.level in
    ran_read (λ B. IfSome r (λ ranges. DifferAt B level old new ranges.items)) (λ fs. IfSome r (λ ranges. Differ fs before after ranges.items))
    (g.R.Rack.seen c.args.rack.now) (g.R.Rack.seen c.find_differences.new.rack) c.args.vol.now c.find_differences.new.store r
    c.find_differences.ensures.read
    (λ B h.
    subst (λ (l : ℕ). IfSome r (λ ranges. DifferAt B l before.children.items after.children.items ranges.items)) c.in-Some.ensures.1
    (subst (λ (l : List BlockPointer). IfSome r (λ ranges. DifferAt B level l after.children.items ranges.items)) c.as_slice-old.ensures.value
    (subst (λ (l : List BlockPointer). IfSome r (λ ranges. DifferAt B level old l ranges.items)) c.as_slice-new.ensures.value h)))
