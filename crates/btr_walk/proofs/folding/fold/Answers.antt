use Rattle.std.proofs.Common.{Ok, Err, Some, None, subst}
use Rattle.std.proofs.lemmas.Result.{err_from_is_err_and}
use Rattle.btr_walk.specs.Folding.{IsRun, FoldFollows}
use Rattle.btr_walk.specs.Reading.{unread_by}
use Rattle.btr_walk.proofs.Joined.{drawn}
use Rattle.btr_walk.proofs.Turns.{fold_begun, fold_answers}
use Rattle.btr_walk.proofs.folding.fold.Goals as goal

pub returns-in_err-out-clause-content : goal.returns-in_err-out-clause-content
returns-in_err-out-clause-content g c =
    let is = unread_by c.args.store.now.layout (g.R.Rack.seen c.args.rack.now) (g.R.Rack.seen c.run-ended.new.rack) in
    let p = err_from_is_err_and c.from_residual.result c.from_residual.ensures.1 in
    rw (p.1, p.2)
    (drawn c.args.store.now.layout (λ B. IsRun g.F.Folder.step g.F.Folder.answer {E = g.row.E.Denot} is B c.args.store.now c.new-scan.result
    c.args.state c.run-ended.new.state (Err c.in_err-out.field-0.0))
    (λ B. FoldFollows g.F.Folder.step g.F.Folder.answer {E = g.row.E.Denot} is B c.args.state c.args.root.now c.args.lo c.args.hi (Err c.in_err-out.field-0.0))
    (λ B h. fold_begun {E = g.row.E.Denot} g.F.Folder.step g.F.Folder.answer is B c.args.store.now c.new-scan.result c.args.root.now c.args.lo
    c.args.hi c.args.state c.run-ended.new.state (Err c.in_err-out.field-0.0) c.new-scan.ensures.lo c.new-scan.ensures.hi
    (c.new-scan.ensures.program B c.args.store.now) (c.new-scan.ensures.on B) h)
    c.in_err-out.ensures.content)

pub returns-in-Some-clause-content : goal.returns-in-Some-clause-content
returns-in-Some-clause-content g c =
    let is = unread_by c.args.store.now.layout (g.R.Rack.seen c.args.rack.now) (g.R.Rack.seen c.run-ended.new.rack) in
    drawn c.args.store.now.layout (λ B. IsRun g.F.Folder.step g.F.Folder.answer {E = g.row.E.Denot} is B c.args.store.now c.new-scan.result
    c.args.state c.run-ended.new.state (Ok c.in_ok-out.field-0))
    (λ B. FoldFollows g.F.Folder.step g.F.Folder.answer {E = g.row.E.Denot} is B c.args.state c.args.root.now c.args.lo c.args.hi (Ok c.in-Some.out))
    (λ B h. fold_begun {E = g.row.E.Denot} g.F.Folder.step g.F.Folder.answer is B c.args.store.now c.new-scan.result c.args.root.now c.args.lo
    c.args.hi c.args.state c.run-ended.new.state (Ok (Some c.in-Some.out)) c.new-scan.ensures.lo c.new-scan.ensures.hi
    (c.new-scan.ensures.program B c.args.store.now) (c.new-scan.ensures.on B)
    (subst (λ r. IsRun g.F.Folder.step g.F.Folder.answer {E = g.row.E.Denot} is B c.args.store.now c.new-scan.result c.args.state
    c.run-ended.new.state (Ok r)) c.in-Some.is h))
    c.in_ok-out.ensures.content

pub returns-in-None-clause-content : goal.returns-in-None-clause-content
returns-in-None-clause-content g c =
    let is = unread_by c.args.store.now.layout (g.R.Rack.seen c.args.rack.now) (g.R.Rack.seen c.run-ended.new.rack) in
    drawn c.args.store.now.layout (λ B. IsRun g.F.Folder.step g.F.Folder.answer {E = g.row.E.Denot} is B c.args.store.now c.new-scan.result
    c.args.state c.run-ended.new.state (Ok c.in_ok-out.field-0))
    (λ B. FoldFollows g.F.Folder.step g.F.Folder.answer {E = g.row.E.Denot} is B c.args.state c.args.root.now c.args.lo c.args.hi (Ok c.end.result))
    (λ B h. fold_answers g.row.E.Denot g.F.Folder.step g.F.Folder.answer is B c.args.root.now c.args.lo c.args.hi c.args.state
    (g.F.Folder.answer c.run-ended.new.state) c.end.result c.end.ensures
    (fold_begun {E = g.row.E.Denot} g.F.Folder.step g.F.Folder.answer is B c.args.store.now c.new-scan.result c.args.root.now c.args.lo c.args.hi
    c.args.state c.run-ended.new.state (Ok None) c.new-scan.ensures.lo c.new-scan.ensures.hi (c.new-scan.ensures.program B c.args.store.now)
    (c.new-scan.ensures.on B) (subst (λ r. IsRun g.F.Folder.step g.F.Folder.answer {E = g.row.E.Denot} is B c.args.store.now c.new-scan.result
    c.args.state c.run-ended.new.state (Ok r)) c.in-None.is h)))
    c.in_ok-out.ensures.content
