use Rattle.std.proofs.Common.{◌<◌, ◌≤◌, List, [], Ok, Err, length, get_or, ap, ◌∙◌, subst, arith}
use Rattle.btr_files.specs.Names.{Link, link}
use Rattle.btr_resolve.specs.Resolving.{each_told, name_told}
use Rattle.btr_resolve.specs.Running.{Ran, world}
use Rattle.btr_resolve.proofs.Namings.{names_end, names_more, names_stop}
use Rattle.btr_resolve.proofs.Rans.{counted_passed, ran_passed}
use Rattle.btr_resolve.proofs.telling.tell_names.Goals as goal

pub loop-at-preserved : goal.loop-at-preserved
loop-at-preserved g c =
    let f = c.loop-at in
    let owner = c.args.owner.now in
    let names = c.args.report.now.names in
    let count' = c.tell_name.new.report.count in
    let y = world (g.R.Rack.seen f.rack) f.vol (g.O.Out.text f.out) (g.O.Out.account f.out) in
    let z = world (g.R.Rack.seen c.tell_name.new.rack) c.tell_name.new.vol (g.O.Out.text c.tell_name.new.out) (g.O.Out.account c.tell_name.new.out) in
    let there : f.at < length names = omega (arith, c.loop-at-test.true, c.len.ensures, ap length f.invariant.names) in
    let told : (d : Link) → Ran (name_told owner f.report.count (get_or names f.at d)) y z (Ok count') =
    λ d. subst (λ (ns : List Link). Ran (name_told owner f.report.count (get_or ns f.at d)) y z (Ok count')) f.invariant.names
    (c.in_ok-tell_name.ensures.ran d) in
    record {
      ready = (told (link 0 0 [])).ready;
      names = c.in_ok-tell_name.ensures.names ∙ f.invariant.names;
      leads = names_more owner names f.at f.report.count (each_told owner c.args.report.now.count names) _ y z f.invariant.leads there count' told;
    }

pub returns-in_err-tell_name : goal.returns-in_err-tell_name
returns-in_err-tell_name g c =
    ran_passed _ (counted_passed _ _ _ c.from_residual.ensures.1)
    (let f = c.loop-at in
    let owner = c.args.owner.now in
    let names = c.args.report.now.names in
    let y = world (g.R.Rack.seen f.rack) f.vol (g.O.Out.text f.out) (g.O.Out.account f.out) in
    let z = world (g.R.Rack.seen c.tell_name.new.rack) c.tell_name.new.vol (g.O.Out.text c.tell_name.new.out) (g.O.Out.account c.tell_name.new.out) in
    let there : f.at < length names = omega (arith, c.loop-at-test.true, c.len.ensures, ap length f.invariant.names) in
    names_stop owner names f.at f.report.count (each_told owner c.args.report.now.count names) _ y z f.invariant.leads there c.in_err-tell_name.field-0.0
    (λ d. subst (λ (ns : List Link). Ran (name_told owner f.report.count (get_or ns f.at d)) y z (Err c.in_err-tell_name.field-0.0))
    f.invariant.names (c.in_err-tell_name.ensures.ran d)))

pub returns : goal.returns
returns g c =
    let f = c.loop-at in
    let owner = c.args.owner.now in
    let names = c.args.report.now.names in
    let y = world (g.R.Rack.seen f.rack) f.vol (g.O.Out.text f.out) (g.O.Out.account f.out) in
    let over : length names ≤ f.at = omega (arith, c.loop-at-test.false, c.len.ensures, ap length f.invariant.names) in
    names_end owner names f.at f.report.count (each_told owner c.args.report.now.count names) _ y y f.invariant.leads f.invariant.ready over
