use Rattle.std.proofs.Common.{Bool, Ok, subst, arith}
use Rattle.std.proofs.lemmas.Result.{err_from_is_err_and}
use Rattle.btr_make.specs.Spoil.{SpoilsPage}
use Rattle.btr_make.proofs.Spoils.{spoil_begins, spoil_goes_on, spoil_ends, spoil_stops, spoil_refused}
use Rattle.btr_make.proofs.spoiling.spoil.Goals as goal

pub loop-index-init : goal.loop-index-init
loop-index-init c = spoil_begins _ _ _ c.in_ok-poke.ensures

pub loop-index-preserved : goal.loop-index-preserved
loop-index-preserved c =
    let P : Bool → Type 0 = λ b. SpoilsPage c.args.name.now c.loop-index.index c.loop-index.rack c.spoil_page.new.rack (Ok b) in
    spoil_goes_on _ _ _ _ _ c.loop-index.invariant (subst P c.if-not-branch.false c.in_ok-spoil_page.ensures)

pub returns-then-not-branch : goal.returns-then-not-branch
returns-then-not-branch c =
    let P : Bool → Type 0 = λ b. SpoilsPage c.args.name.now c.loop-index.index c.loop-index.rack c.spoil_page.new.rack (Ok b) in
    spoil_ends _ _ _ _ _ (omega arith) c.loop-index.invariant (subst P c.if-not-branch.true c.in_ok-spoil_page.ensures)

pub returns-in_err-spoil_page : goal.returns-in_err-spoil_page
returns-in_err-spoil_page c =
    let p = err_from_is_err_and c.from_residual-in_err-spoil_page.result c.from_residual-in_err-spoil_page.ensures.1 in
    rw (p.1, p.2) (spoil_stops c.args.name.now c.loop-index.index c.args.rack.now c.loop-index.rack c.spoil_page.new.rack
    c.in_err-spoil_page.field-0.0 c.loop-index.invariant c.in_err-spoil_page.ensures)

pub returns-in_err-poke : goal.returns-in_err-poke
returns-in_err-poke c =
    let p = err_from_is_err_and c.from_residual.result c.from_residual.ensures.1 in
    rw (p.1, p.2) (spoil_refused c.args.name.now c.args.rack.now c.poke.new.self c.in_err-poke.field-0.0 c.in_err-poke.ensures)
