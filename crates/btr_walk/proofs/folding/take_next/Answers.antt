use Rattle.std.proofs.Common.{Ok, Err, ◌∙◌, ap, subst}
use Rattle.btr_walk.specs.declared.folder.FoldFault.TheVariants.{Tree}
use Rattle.btr_walk.specs.declared.folding.Turn.TheVariants.{Last}
use Rattle.btr_walk.specs.Folding.{IsTurned}
use Rattle.btr_walk.specs.Reading.{unread_by}
use Rattle.btr_walk.specs.ScanEnds.{IsNextOn}
use Rattle.btr_walk.proofs.Joined.{drawn}
use Rattle.btr_walk.proofs.Turns.{turned_err, turned_last, turned_some}
use Rattle.btr_walk.proofs.folding.take_next.Goals as goal

pub returns-in-Err-clause-content : goal.returns-in-Err-clause-content
returns-in-Err-clause-content g c =
    let is = unread_by c.args.store.now.layout (g.R.Rack.seen c.args.rack.now) (g.R.Rack.seen c.next.new.rack) in
    let new = c.next.follows.lender-at-none in
    drawn c.args.store.now.layout (λ B. IsNextOn is B c.args.store.now new c.args.scan.now c.next.new.scan c.next.result)
    (λ B. IsTurned g.F.Folder.step g.F.Folder.answer {E = g.row.E.Denot} is B c.args.store.now new c.args.scan.now c.next.new.scan c.args.state.now
    c.args.state.now (Err (Tree c.in-Err.fault)))
    (λ B h. turned_err g.F.Folder.step g.F.Folder.answer B is c.args.store.now new c.args.scan.now c.next.new.scan g.row.E.Denot c.args.state.now
    c.in-Err.fault (subst (λ r. IsNextOn is B c.args.store.now new c.args.scan.now c.next.new.scan r) c.in-Err.is h))
    c.next.follows.holds-at-none.content

pub returns-in-Ok-None-clause-content : goal.returns-in-Ok-None-clause-content
returns-in-Ok-None-clause-content g c =
    let is = unread_by c.args.store.now.layout (g.R.Rack.seen c.args.rack.now) (g.R.Rack.seen c.next.new.rack) in
    let new = c.next.follows.lender-at-none in
    drawn c.args.store.now.layout (λ B. IsNextOn is B c.args.store.now new c.args.scan.now c.next.new.scan c.next.result)
    (λ B. IsTurned g.F.Folder.step g.F.Folder.answer {E = g.row.E.Denot} is B c.args.store.now new c.args.scan.now c.next.new.scan c.args.state.now
    c.args.state.now (Ok Last))
    (λ B h. turned_last g.F.Folder.step g.F.Folder.answer B is c.args.store.now new c.args.scan.now c.next.new.scan g.row.E.Denot c.args.state.now
    (subst (λ r. IsNextOn is B c.args.store.now new c.args.scan.now c.next.new.scan r) (c.in-Ok-None.is ∙ ap Ok c.in-Ok-None.field-0-is) h))
    c.next.follows.holds-at-none.content

pub returns-in-Ok-Some-clause-content : goal.returns-in-Ok-Some-clause-content
returns-in-Ok-Some-clause-content g c =
    let is = unread_by c.args.store.now.layout (g.R.Rack.seen c.args.rack.now) (g.R.Rack.seen c.next.new.rack) in
    let new = c.next.follows.lender-at-none in
    drawn c.args.store.now.layout (λ B. IsNextOn is B c.args.store.now new c.args.scan.now c.next.new.scan c.next.result)
    (λ B. IsTurned g.F.Folder.step g.F.Folder.answer is B c.args.store.now new c.args.scan.now c.next.new.scan c.args.state.now c.take_found.new.state
    c.take_found.result)
    (λ B h. turned_some g.F.Folder.step g.F.Folder.answer B is c.args.store.now new c.args.scan.now c.next.new.scan c.args.state.now
    c.take_found.new.state c.in-Ok-Some.found c.take_found.result c.take_found.ensures
    (subst (λ r. IsNextOn is B c.args.store.now new c.args.scan.now c.next.new.scan r) (c.in-Ok-Some.is ∙ ap Ok c.in-Ok-Some.field-0-is) h))
    c.next.follows.holds-at-none.content
