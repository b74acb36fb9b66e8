use Rattle.std.proofs.Common.{Result, Ok, Err, Option, Some, None, sym, ◌∙◌, ap, subst}
use Rattle.std.proofs.lemmas.Result.{err_from_is_err_and}
use Rattle.btr_walk.specs.declared.fault.TreeFault.{TreeFault}
use Rattle.btr_walk.specs.declared.found.Found.{Found}
use Rattle.btr_walk.specs.Reading.{Map, unread_by}
use Rattle.btr_walk.specs.ScanEnds.{IsNextOn}
use Rattle.btr_walk.specs.Showing.{item_of}
use Rattle.btr_walk.proofs.Joined.{drawn}
use Rattle.btr_files.specs.Ahead.{IsNextExtent}
use Rattle.btr_files.proofs.Extending.{found_good, found_fault}
use Rattle.btr_files.proofs.Reaching.{extent_err, extent_none, extent_some, extent_fault, broken_cause}
use Rattle.btr_files.proofs.extent.next_extent.Goals as goal

pub returns-in_err-next-clause-content : goal.returns-in_err-next-clause-content
returns-in_err-next-clause-content g c =
    let is = unread_by c.args.store.now.layout (g.R.Rack.seen c.args.rack.now) (g.R.Rack.seen c.next.new.rack) in
    let old = c.args.store.now in
    let new = c.next.follows.lender-at-none in
    let scan = c.args.scan.now in
    let scan' = c.next.new.scan in
    let onwards = λ (r : Result (Option Found) TreeFault) (B : Map). IsNextOn is B old new scan scan' r in
    let p = err_from_is_err_and c.from_residual.result c.from_residual.ensures.1 in
    rw (p.1, p.2)
    (drawn old.layout (onwards c.next.result) (λ B. IsNextExtent c.args.source.now is B old new scan scan' c.args.end (Err c.in_err-next.field-0.0))
    (λ B h. extent_err c.args.source.now is B old new scan scan' c.args.end c.in_err-next.field-0.0 (subst (λ r. onwards r B) c.in_err-next.was h))
    c.next.follows.holds-at-none.content)

pub returns-in-None-clause-content : goal.returns-in-None-clause-content
returns-in-None-clause-content g c =
    let is = unread_by c.args.store.now.layout (g.R.Rack.seen c.args.rack.now) (g.R.Rack.seen c.next.new.rack) in
    let old = c.args.store.now in
    let new = c.next.follows.lender-at-none in
    let scan = c.args.scan.now in
    let scan' = c.next.new.scan in
    let onwards = λ (r : Result (Option Found) TreeFault) (B : Map). IsNextOn is B old new scan scan' r in
    drawn old.layout (onwards c.next.result) (λ B. IsNextExtent c.args.source.now is B old new scan scan' c.args.end (Ok None))
    (λ B h. extent_none c.args.source.now is B old new scan scan' c.args.end (subst (λ r. onwards r B) (c.in_ok-next.was ∙ ap Ok c.in-None.is) h))
    c.next.follows.holds-at-none.content

pub returns-in_err-ahead_of-in-Some-clause-cause : goal.returns-in_err-ahead_of-in-Some-clause-cause
returns-in_err-ahead_of-in-Some-clause-cause g c =
    let p = err_from_is_err_and c.from_residual-in_err-ahead_of-in-Some.result c.from_residual-in_err-ahead_of-in-Some.ensures.1 in
    rw (p.1, p.2)
    (broken_cause c.args.store.now.layout (g.R.Rack.seen c.args.rack.now)
    (g.R.Rack.seen c.next.new.rack) c.in_err-ahead_of-in-Some.field-0.0 c.in-Some.found.block
    (found_fault c.args.source.now.size c.args.end (item_of c.in-Some.found) c.in_err-ahead_of-in-Some.field-0.0
    (sym c.ahead_of.ensures ∙ c.in_err-ahead_of-in-Some.was)))

pub returns-in_err-ahead_of-in-Some-clause-content : goal.returns-in_err-ahead_of-in-Some-clause-content
returns-in_err-ahead_of-in-Some-clause-content g c =
    let is = unread_by c.args.store.now.layout (g.R.Rack.seen c.args.rack.now) (g.R.Rack.seen c.next.new.rack) in
    let old = c.args.store.now in
    let new = c.next.follows.lender-at-none in
    let scan = c.args.scan.now in
    let scan' = c.next.new.scan in
    let onwards = λ (r : Result (Option Found) TreeFault) (B : Map). IsNextOn is B old new scan scan' r in
    let p = err_from_is_err_and c.from_residual-in_err-ahead_of-in-Some.result c.from_residual-in_err-ahead_of-in-Some.ensures.1 in
    rw (p.1, p.2)
    (drawn old.layout (onwards c.next.result) (λ B. IsNextExtent c.args.source.now is B old new scan scan' c.args.end (Err c.in_err-ahead_of-in-Some.field-0.0))
    (λ B h. extent_fault c.args.source.now is B old new scan scan' c.args.end c.in-Some.found c.in_err-ahead_of-in-Some.field-0.0
    (sym c.ahead_of.ensures ∙ c.in_err-ahead_of-in-Some.was) (subst (λ r. onwards r B) (c.in_ok-next.was ∙ ap Ok c.in-Some.is) h))
    c.next.follows.holds-at-none.content)

pub returns-in_ok-ahead_of-in-Some-clause-fits : goal.returns-in_ok-ahead_of-in-Some-clause-fits
returns-in_ok-ahead_of-in-Some-clause-fits g c = (found_good c.args.source.now.size c.args.end (item_of c.in-Some.found) c.in_ok-ahead_of-in-Some.field-0
    (sym c.ahead_of.ensures ∙ c.in_ok-ahead_of-in-Some.was)).0

pub returns-in_ok-ahead_of-in-Some-clause-content : goal.returns-in_ok-ahead_of-in-Some-clause-content
returns-in_ok-ahead_of-in-Some-clause-content g c =
    let is = unread_by c.args.store.now.layout (g.R.Rack.seen c.args.rack.now) (g.R.Rack.seen c.next.new.rack) in
    let old = c.args.store.now in
    let new = c.next.follows.lender-at-none in
    let scan = c.args.scan.now in
    let scan' = c.next.new.scan in
    let onwards = λ (r : Result (Option Found) TreeFault) (B : Map). IsNextOn is B old new scan scan' r in
    drawn old.layout (onwards c.next.result) (λ B. IsNextExtent c.args.source.now is B old new scan scan' c.args.end
    (Ok (Some c.in_ok-ahead_of-in-Some.field-0)))
    (λ B h. extent_some c.args.source.now is B old new scan scan' c.args.end c.in-Some.found c.in_ok-ahead_of-in-Some.field-0
    (sym c.ahead_of.ensures ∙ c.in_ok-ahead_of-in-Some.was)
    (subst (λ r. onwards r B) (c.in_ok-next.was ∙ ap Ok c.in-Some.is) h))
    c.next.follows.holds-at-none.content
