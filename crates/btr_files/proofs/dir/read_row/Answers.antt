use Rattle.std.proofs.Common.{Result, Ok, Err, Option, None, ◌∙◌, ap, subst}
use Rattle.std.proofs.lemmas.Result.{err_from_is_err_and}
use Rattle.btr_walk.specs.declared.fault.TreeFault.{TreeFault}
use Rattle.btr_walk.specs.declared.found.Found.{Found}
use Rattle.btr_walk.specs.Reading.{Map, unread_by}
use Rattle.btr_walk.specs.ScanEnds.{IsNextOn, NextRankFalls}
use Rattle.btr_walk.specs.Showing.{item_of}
use Rattle.btr_walk.proofs.Joined.{drawn}
use Rattle.btr_files.specs.Listing.{IsNextRow}
use Rattle.btr_files.proofs.Rows.{next_some, next_none, next_fault, row_cause, row_rank_falls}
use Rattle.btr_files.proofs.dir.read_row.Goals as goal

pub returns-in_err-next-clause-content : goal.returns-in_err-next-clause-content
returns-in_err-next-clause-content g c =
    let is = unread_by c.args.store.now.layout (g.R.Rack.seen c.args.rack.now) (g.R.Rack.seen c.next.new.rack) in
    let old = c.args.store.now in
    let new = c.next.follows.lender-at-none in
    let scan = c.args.scan.now in
    let scan' = c.next.new.scan in
    let onwards = λ (r : Result (Option Found) TreeFault) (B : Map). IsNextOn is B old new scan scan' r in
    let p = err_from_is_err_and c.from_residual.result c.from_residual.ensures.1 in
    rw (p.1, p.2)
    (drawn old.layout (onwards c.next.result) (λ B. IsNextRow is B old new scan scan' c.args.name.now (Err c.in_err-next.field-0.0))
    (λ B h. next_fault B is old new scan scan' c.args.name.now c.in_err-next.field-0.0 (subst (λ r. onwards r B) c.in_err-next.was h))
    c.next.follows.holds-at-none.content)

pub returns-in-None-clause-content : goal.returns-in-None-clause-content
returns-in-None-clause-content g c =
    let is = unread_by c.args.store.now.layout (g.R.Rack.seen c.args.rack.now) (g.R.Rack.seen c.next.new.rack) in
    let old = c.args.store.now in
    let new = c.next.follows.lender-at-none in
    let scan = c.args.scan.now in
    let scan' = c.next.new.scan in
    let onwards = λ (r : Result (Option Found) TreeFault) (B : Map). IsNextOn is B old new scan scan' r in
    drawn old.layout (onwards c.next.result) (λ B. IsNextRow is B old new scan scan' c.args.name.now (Ok None))
    (λ B h. next_none B is old new scan scan' c.args.name.now (subst (λ r. onwards r B) (c.in_ok-next.was ∙ ap Ok c.in-None.is) h))
    c.next.follows.holds-at-none.content

pub returns-in-Some-clause-content : goal.returns-in-Some-clause-content
returns-in-Some-clause-content g c =
    let is = unread_by c.args.store.now.layout (g.R.Rack.seen c.args.rack.now) (g.R.Rack.seen c.next.new.rack) in
    let old = c.args.store.now in
    let new = c.next.follows.lender-at-none in
    let scan = c.args.scan.now in
    let scan' = c.next.new.scan in
    let onwards = λ (r : Result (Option Found) TreeFault) (B : Map). IsNextOn is B old new scan scan' r in
    drawn old.layout (onwards c.next.result) (λ B. IsNextRow is B old new scan scan' c.row_found.new.name c.row_found.result)
    (λ B h. next_some B is old new scan scan' c.in-Some.found c.row_found.new.name c.row_found.result c.row_found.ensures.row
    (subst (λ r. onwards r B) (c.in_ok-next.was ∙ ap Ok c.in-Some.is) h))
    c.next.follows.holds-at-none.content

pub returns-in-Some-clause-rank_falls : goal.returns-in-Some-clause-rank_falls
returns-in-Some-clause-rank_falls g c = row_rank_falls c.args.scan.now c.next.new.scan c.row_found.result
    (subst (NextRankFalls c.args.scan.now c.next.new.scan) (c.in_ok-next.was ∙ ap Ok c.in-Some.is) c.next.ensures.rank_falls)

pub returns-in-Some-clause-cause : goal.returns-in-Some-clause-cause
returns-in-Some-clause-cause g c = row_cause c.args.store.now.layout (g.R.Rack.seen c.args.rack.now) (g.R.Rack.seen c.next.new.rack)
    (item_of c.in-Some.found) c.row_found.new.name c.row_found.result c.row_found.ensures.row
