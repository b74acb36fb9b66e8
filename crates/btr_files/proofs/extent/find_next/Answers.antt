use Rattle.std.proofs.Common.{Ok, Err, Option, subst}
use Rattle.btr_walk.specs.Reading.{unread_by}
use Rattle.btr_walk.proofs.Joined.{drawn}
use Rattle.btr_files.specs.declared.extent.Ahead.{Ahead}
use Rattle.btr_files.specs.declared.progress.Todo.TheVariants.{Over}
use Rattle.btr_files.specs.Ahead.{IsLooked, IsNextExtent, KeepsItem}
use Rattle.btr_files.proofs.Nextward.{looked_err, looked_none, looked_some}
use Rattle.btr_files.proofs.extent.find_next.Goals as goal

pub returns-in-Err-clause-content : goal.returns-in-Err-clause-content
returns-in-Err-clause-content g c =
    let source = c.args.source.now in
    let p = c.args.progress.now in
    let old = c.args.store.now in
    let new = c.find_extent.new.store in
    let scan = c.scan-scan.result in
    let scan' = c.find_extent.new.scan in
    let is = unread_by old.layout (g.R.Rack.seen c.args.rack.now) (g.R.Rack.seen c.find_extent.new.rack) in
    drawn old.layout (λ B. IsNextExtent source is B old new scan scan' p.end (Err c.in-Err.fault)) (λ B. IsLooked source is B p (Err c.in-Err.fault))
    (λ B n. looked_err source is B old new p scan scan' c.scan-scan.ensures c.requires.next c.in-Err.fault n)
    c.in-Err.ensures.content

pub returns-in-Ok-None-clause-content : goal.returns-in-Ok-None-clause-content
returns-in-Ok-None-clause-content g c =
    let source = c.args.source.now in
    let p = c.args.progress.now in
    let old = c.args.store.now in
    let new = c.find_extent.new.store in
    let scan = c.scan-scan.result in
    let scan' = c.find_extent.new.scan in
    let is = unread_by old.layout (g.R.Rack.seen c.args.rack.now) (g.R.Rack.seen c.find_extent.new.rack) in
    drawn old.layout (λ B. IsNextExtent source is B old new scan scan' p.end (Ok c.in-Ok-None.field-0))
    (λ B. IsLooked source is B p (Ok (record { rest = p.rest; at = p.at; end = p.end; todo = Over })))
    (λ B n. looked_none source is B old new p scan scan' c.scan-scan.ensures c.requires.next
    (subst (λ (o : Option Ahead). IsNextExtent source is B old new scan scan' p.end (Ok o)) c.in-Ok-None.field-0-is n))
    c.in-Ok-None.ensures.content

pub returns-in-Ok-Some-clause-content : goal.returns-in-Ok-Some-clause-content
returns-in-Ok-Some-clause-content g c =
    let source = c.args.source.now in
    let p = c.args.progress.now in
    let old = c.args.store.now in
    let new = c.find_extent.new.store in
    let scan = c.scan-scan.result in
    let scan' = c.find_extent.new.scan in
    let ahead = c.in-Ok-Some.ahead in
    let rest = c.rest-rest.result in
    let is = unread_by old.layout (g.R.Rack.seen c.args.rack.now) (g.R.Rack.seen c.find_extent.new.rack) in
    drawn old.layout (λ B. IsNextExtent source is B old new scan scan' p.end (Ok c.in-Ok-Some.field-0))
    (λ B. IsLooked source is B p (Ok (record { rest = rest; at = p.at; end = ahead.end; todo = ahead.todo })))
    (λ B n. looked_some source is B old new p scan scan' c.scan-scan.ensures c.requires.next c.find_extent.ensures.lo c.find_extent.ensures.hi rest
    c.rest-rest.ensures.rests ahead
    (subst (λ (o : Option Ahead). KeepsItem (Ok o) scan'.leaf) c.in-Ok-Some.field-0-is c.in-Ok-Some.ensures.kept)
    (subst (λ (o : Option Ahead). IsNextExtent source is B old new scan scan' p.end (Ok o)) c.in-Ok-Some.field-0-is n))
    c.in-Ok-Some.ensures.content
