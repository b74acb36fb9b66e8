use Rattle.std.proofs.Common.{Ok, Err, Option, Result, ap, ◌∙◌, subst}
use Rattle.std.proofs.lemmas.Result.{err_from_is_err_and}
use Rattle.btr_walk.specs.Reading.{Map, unread_by}
use Rattle.btr_walk.specs.ScanEnds.{IsNextOn}
use Rattle.btr_walk.specs.Showing.{item_of}
use Rattle.btr_walk.specs.declared.fault.TreeFault.{TreeFault}
use Rattle.btr_walk.specs.declared.found.Found.{Found}
use Rattle.btr_walk.proofs.Joined.{drawn}
use Rattle.btr_resolve.specs.Cursor.{IsTurn, Meets}
use Rattle.btr_resolve.specs.declared.owners.Turn.TheVariants as turn
use Rattle.btr_resolve.proofs.Cursors.{turn_broken, turn_end, turn_fault, turn_other, turn_owner}
use Rattle.btr_resolve.proofs.owners.next_turn.Goals as goal

pub returns-in_err-next-clause-content : goal.returns-in_err-next-clause-content
returns-in_err-next-clause-content g c =
    let old = c.args.store.now in
    let new = c.next.follows.lender-at-none in
    let scan = c.args.scan.now in
    let scan' = c.next.new.scan in
    let is = unread_by old.layout (g.R.Rack.seen c.args.rack.now) (g.R.Rack.seen c.next.new.rack) in
    let onwards = λ (r : Result (Option Found) TreeFault) (B : Map). IsNextOn is B old new scan scan' r in
    let p = err_from_is_err_and c.from_residual.result c.from_residual.ensures.1 in
    rw (p.1, p.2)
    (drawn old.layout (onwards c.next.result)
    (λ B. IsTurn c.args.addr c.args.tree.now is B old new scan scan' c.args.met.now c.args.met.now (Err c.in_err-next.field-0.0))
    (λ B h. turn_fault c.args.addr c.args.tree.now B old new scan scan' c.args.met.now is c.in_err-next.field-0.0
    (subst (λ r. onwards r B) c.in_err-next.was h))
    c.next.follows.holds-at-none.content)

pub returns-in-None-clause-content : goal.returns-in-None-clause-content
returns-in-None-clause-content g c =
    let old = c.args.store.now in
    let new = c.next.follows.lender-at-none in
    let scan = c.args.scan.now in
    let scan' = c.next.new.scan in
    let is = unread_by old.layout (g.R.Rack.seen c.args.rack.now) (g.R.Rack.seen c.next.new.rack) in
    let onwards = λ (r : Result (Option Found) TreeFault) (B : Map). IsNextOn is B old new scan scan' r in
    drawn old.layout (onwards c.next.result)
    (λ B. IsTurn c.args.addr c.args.tree.now is B old new scan scan' c.args.met.now c.args.met.now (Ok turn.End))
    (λ B h. turn_end c.args.addr c.args.tree.now B old new scan scan' c.args.met.now is
    (subst (λ r. onwards r B) (c.in_ok-next.was ∙ ap Ok c.in-None.is) h))
    c.next.follows.holds-at-none.content

pub returns-in_err-owner_in-in-Some-clause-content : goal.returns-in_err-owner_in-in-Some-clause-content
returns-in_err-owner_in-in-Some-clause-content g c =
    let old = c.args.store.now in
    let new = c.next.follows.lender-at-none in
    let scan = c.args.scan.now in
    let scan' = c.next.new.scan in
    let met = c.args.met.now in
    let met' = c.owner_in.new.met in
    let addr = c.args.addr in
    let tree = c.args.tree.now in
    let is = unread_by old.layout (g.R.Rack.seen c.args.rack.now) (g.R.Rack.seen c.next.new.rack) in
    let onwards = λ (r : Result (Option Found) TreeFault) (B : Map). IsNextOn is B old new scan scan' r in
    let meets = subst (λ r. Meets addr tree met (item_of c.in-Some.found) met' r) c.in_err-owner_in-in-Some.was c.owner_in.ensures in
    let p = err_from_is_err_and c.from_residual-in_err-owner_in-in-Some.result c.from_residual-in_err-owner_in-in-Some.ensures.1 in
    rw (p.1, p.2)
    (drawn old.layout (onwards c.next.result) (λ B. IsTurn addr tree is B old new scan scan' met met' (Err c.in_err-owner_in-in-Some.field-0.0))
    (λ B h. turn_broken addr tree B old new scan scan' met met' c.in-Some.found is c.in_err-owner_in-in-Some.field-0.0 meets
    (subst (λ r. onwards r B) (c.in_ok-next.was ∙ ap Ok c.in-Some.is) h))
    c.next.follows.holds-at-none.content)

pub returns-in-None-2-clause-content : goal.returns-in-None-2-clause-content
returns-in-None-2-clause-content g c =
    let old = c.args.store.now in
    let new = c.next.follows.lender-at-none in
    let scan = c.args.scan.now in
    let scan' = c.next.new.scan in
    let met = c.args.met.now in
    let met' = c.owner_in.new.met in
    let addr = c.args.addr in
    let tree = c.args.tree.now in
    let is = unread_by old.layout (g.R.Rack.seen c.args.rack.now) (g.R.Rack.seen c.next.new.rack) in
    let onwards = λ (r : Result (Option Found) TreeFault) (B : Map). IsNextOn is B old new scan scan' r in
    let meets = subst (λ r. Meets addr tree met (item_of c.in-Some.found) met' r)
    (c.in_ok-owner_in-in-Some.was ∙ ap Ok c.in-None-2.is) c.owner_in.ensures in
    drawn old.layout (onwards c.next.result) (λ B. IsTurn addr tree is B old new scan scan' met met' (Ok turn.Other))
    (λ B h. turn_other addr tree B old new scan scan' met met' c.in-Some.found is meets
    (subst (λ r. onwards r B) (c.in_ok-next.was ∙ ap Ok c.in-Some.is) h))
    c.next.follows.holds-at-none.content

pub returns-in-Some-2-clause-content : goal.returns-in-Some-2-clause-content
returns-in-Some-2-clause-content g c =
    let old = c.args.store.now in
    let new = c.next.follows.lender-at-none in
    let scan = c.args.scan.now in
    let scan' = c.next.new.scan in
    let met = c.args.met.now in
    let met' = c.owner_in.new.met in
    let addr = c.args.addr in
    let tree = c.args.tree.now in
    let owner = c.in-Some-2.owner in
    let is = unread_by old.layout (g.R.Rack.seen c.args.rack.now) (g.R.Rack.seen c.next.new.rack) in
    let onwards = λ (r : Result (Option Found) TreeFault) (B : Map). IsNextOn is B old new scan scan' r in
    let meets = subst (λ r. Meets addr tree met (item_of c.in-Some.found) met' r)
    (c.in_ok-owner_in-in-Some.was ∙ ap Ok c.in-Some-2.is) c.owner_in.ensures in
    drawn old.layout (onwards c.next.result) (λ B. IsTurn addr tree is B old new scan scan' met met' (Ok (turn.Owner owner)))
    (λ B h. turn_owner addr tree B old new scan scan' met met' c.in-Some.found is owner meets
    (subst (λ r. onwards r B) (c.in_ok-next.was ∙ ap Ok c.in-Some.is) h))
    c.next.follows.holds-at-none.content
