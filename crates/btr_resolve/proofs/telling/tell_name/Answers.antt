use Rattle.std.proofs.Common.{ℕ, List, [], ◌∷◌, ◌++◌, ◌≡◌, Err, sym, ap, ◌∙◌, subst}
use Rattle.btr_files.specs.Names.{link}
use Rattle.btr_resolve.specs.Resolving.{name_told}
use Rattle.btr_resolve.specs.Running.{Ran, counted, world}
use Rattle.btr_resolve.proofs.Namings.{done_holds, name_stop, name_then}
use Rattle.btr_resolve.proofs.Rans.{counted_passed, ran_memory, ran_passed}
use Rattle.btr_resolve.proofs.telling.tell_name.Goals as goal

pub returns-then-is_err-clause-ran : goal.returns-then-is_err-clause-ran
returns-then-is_err-clause-ran g c = λ d. ran_memory _ c.requires.ready _

pub returns-in_err-is_found-clause-ran : goal.returns-in_err-is_found-clause-ran
returns-in_err-is_found-clause-ran g c = λ d.
    let text = g.O.Out.text c.args.out.now in
    let calls = g.O.Out.account c.args.out.now in
    let owner = c.args.owner.now in
    let count = c.args.report.now.count in
    let name = link c.get-name.result.parent c.get-name.result.index c.get-name.result.name.now in
    let below : c.enter.new.self ≡ 47 ∷ name.name ++ [] =
    done_holds c.enter.result _ c.if-is_err.ensures.value c.enter.ensures ∙ ap (λ (xs : List ℕ). 47 ∷ name.name ++ xs) c.clear.ensures in
    let x = world (g.R.Rack.seen c.args.rack.now) c.args.vol.now text calls in
    let y = world (g.R.Rack.seen c.climb.new.rack) c.climb.new.vol text calls in
    ran_passed _ (counted_passed _ _ _ c.from_residual.ensures.1)
    (subst (λ n. Ran (name_told owner count n) x y (Err c.in_err-is_found.field-0.0)) (sym (c.get-name.ensures d))
    (name_stop owner count name c.enter.new.self c.climb.new.path below x y c.in_err-is_found.field-0.0 (c.in_err-is_found.ensures text calls)))

pub returns-clause-ran : goal.returns-clause-ran
returns-clause-ran g c = λ d.
    let text = g.O.Out.text c.args.out.now in
    let calls = g.O.Out.account c.args.out.now in
    let owner = c.args.owner.now in
    let count = c.args.report.now.count in
    let name = link c.get-name.result.parent c.get-name.result.index c.get-name.result.name.now in
    let below : c.enter.new.self ≡ 47 ∷ name.name ++ [] =
    done_holds c.enter.result _ c.if-is_err.ensures.value c.enter.ensures ∙ ap (λ (xs : List ℕ). 47 ∷ name.name ++ xs) c.clear.ensures in
    let x = world (g.R.Rack.seen c.args.rack.now) c.args.vol.now text calls in
    let y = world (g.R.Rack.seen c.climb.new.rack) c.climb.new.vol text calls in
    let z = world (g.R.Rack.seen c.climb.new.rack) c.climb.new.vol (g.O.Out.text c.tell_path.new.out) (g.O.Out.account c.tell_path.new.out) in
    let answer = counted c.tell_path.new.report.count c.tell_path.result in
    let h = c.in_ok-is_found.ensures text calls in
    subst (λ n. Ran (name_told owner count n) x z answer) (sym (c.get-name.ensures d))
    (name_then owner count name c.enter.new.self c.climb.new.path below x y c.in_ok-is_found.is_found z answer h
    (c.tell_path.ensures.ran (g.R.Rack.seen c.climb.new.rack) c.climb.new.vol h.ready))
