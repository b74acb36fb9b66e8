use Rattle.std.proofs.Common.{Ok, sym, subst}
use Rattle.std.proofs.lemmas.Result.{err_from_is_err_and}
use Rattle.btr_walk.specs.declared.rest.MetAgain.{MetAgain}
use Rattle.btr_walk.specs.Reading.{Tells, unread_by}
use Rattle.btr_walk.specs.Finding.{LendsItemAt}
use Rattle.btr_walk.specs.Rests.{IsMetAgain}
use Rattle.btr_walk.proofs.Resting.{again_lent, some_in, tells_met, tells_unread}
use Rattle.btr_walk.proofs.rest.Rest.met_again.Goals as goal

pub returns-in_err-read_leaf-clause-content : goal.returns-in_err-read_leaf-clause-content
returns-in_err-read_leaf-clause-content g c =
    let p = err_from_is_err_and c.from_residual.result c.from_residual.ensures.1 in
    rw (p.1, p.2)
    (tells_unread c.args.store.now.layout (g.R.Rack.seen c.args.rack.now) (g.R.Rack.seen c.read_leaf.new.rack)
    c.read_leaf.new.store c.args.self.now c.in-Some.frame c.in-Some.is c.in_err-read_leaf.field-0.0 c.in_err-read_leaf.ensures.content)

pub returns-clause-lent : goal.returns-clause-lent
returns-clause-lent g c =
    subst (λ (m : MetAgain). LendsItemAt c.args.store.now c.read_leaf.new.store m.loan m.at) (sym c.met_in.ensures)
    (again_lent _ _ c.in-Some.frame c.in_ok-read_leaf.field-0
    (some_in _ _ c.in-Some.is c.requires.met) c.in_ok-read_leaf.ensures.same c.in_ok-read_leaf.ensures.lent)

pub returns-clause-content : goal.returns-clause-content
returns-clause-content g c =
    let layout = c.args.store.now.layout in
    let before = g.R.Rack.seen c.args.rack.now in
    let now = g.R.Rack.seen c.read_leaf.new.rack in
    subst (λ (m : MetAgain). Tells layout before now (λ B. IsMetAgain (unread_by layout before now) B c.args.self.now c.read_leaf.new.store (Ok m)))
    (sym c.met_in.ensures)
    (tells_met layout before now c.read_leaf.new.store c.args.self.now c.in-Some.frame c.in-Some.is c.in_ok-read_leaf.field-0 c.in_ok-read_leaf.ensures.same
    c.in_ok-read_leaf.ensures.content)
