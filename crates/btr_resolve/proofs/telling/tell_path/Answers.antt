use Rattle.std.proofs.Common.{ℕ, List, take, Err, Ok, sym, subst}
use Rattle.btr_prog.specs.Prog.{Return}
use Rattle.btr_rack.specs.Out.{Adds}
use Rattle.btr_resolve.specs.Lines.{owner_line, path_if, more}
use Rattle.btr_resolve.specs.Resolving.{path_told}
use Rattle.btr_resolve.specs.Running.{Ran, world}
use Rattle.btr_resolve.proofs.Rans.{ran_line, ran_broken}
use Rattle.btr_resolve.proofs.telling.tell_path.Goals as goal

pub returns-in-Ok-clause-ran : goal.returns-in-Ok-clause-ran
returns-in-Ok-clause-ran g c rack vol ready =
    let old = g.O.Out.text c.args.out.now in
    let new = g.O.Out.text c.put_owner.new.out in
    let report = c.args.report.now in
    let line = λ (p : List ℕ). owner_line c.args.owner.now (path_if c.args.is_found p) in
    let x = world rack vol old (g.O.Out.account c.args.out.now) in
    let y = world rack vol new (g.O.Out.account c.put_owner.new.out) in
    subst (λ n. Ran (path_told c.args.owner.now report.count (path_if c.args.is_found report.path)) x y (Ok n)) (sym c.more-report.ensures)
    (ran_line (line report.path) rack vol ready old new _ _ (more report.count)
    (subst (λ p. Adds old new (line p)) c.turn.ensures c.in-Ok.ensures.text) c.in-Ok.ensures.account)

pub returns-in-Err-clause-ran : goal.returns-in-Err-clause-ran
returns-in-Err-clause-ran g c rack vol ready =
    let old = g.O.Out.text c.args.out.now in
    let new = g.O.Out.text c.put_owner.new.out in
    let report = c.args.report.now in
    let line = λ (p : List ℕ). owner_line c.args.owner.now (path_if c.args.is_found p) in
    let x = world rack vol old (g.O.Out.account c.args.out.now) in
    let y = world rack vol new (g.O.Out.account c.put_owner.new.out) in
    subst (λ s. Ran (path_told c.args.owner.now report.count (path_if c.args.is_found report.path)) x y (Err s)) (sym c.out_stop.ensures)
    (ran_broken (line report.path) rack vol ready old new _ _ (Return (more report.count)) c.in-Err.refusal
    (subst (λ p. (n : ℕ) × Adds old new (take n (line p))) c.turn.ensures c.in-Err.ensures.text) c.in-Err.ensures.account)
