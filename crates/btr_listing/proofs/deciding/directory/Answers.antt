use Rattle.std.proofs.Common.{true, false, Ok, refl, ap, ◌∙◌}
use Rattle.std.proofs.lemmas.Result.{err_from_is_err_and}
use Rattle.btr_prog.specs.Prog.{Return}
use Rattle.btr_files.specs.Names.{linked}
use Rattle.btr_listing.specs.Deciding.{link_found, link_of, target}
use Rattle.btr_listing.specs.Looked.{met_by}
use Rattle.btr_listing.proofs.Looking.{looked_by, looked_halt, looked_last}
use Rattle.btr_listing.proofs.deciding.directory.Goals as goal

pub returns-in_err-linked-clause-looked : goal.returns-in_err-linked-clause-looked
returns-in_err-linked-clause-looked g c =
    let met = met_by c.args.entry.now in
    let p = err_from_is_err_and c.from_residual.result c.from_residual.ensures.1 in
    rw (p.1, p.2)
    (looked_halt (linked (link_of met) met.tree (target met)) (λ s is. Return (link_found met is)) c.in_err-linked.field-0.0
    (looked_by _ _ c.requires.ready c.linked.ensures.serves c.linked.ensures.reads c.linked.ensures.volume
    c.linked.ensures.cause c.linked.ensures.content) c.in_err-linked.was)

pub returns-then-not-branch-clause-looked : goal.returns-then-not-branch-clause-looked
returns-then-not-branch-clause-looked g c =
    let met = met_by c.args.entry.now in
    looked_last (linked (link_of met) met.tree (target met)) (link_found met) false _
    (looked_by _ _ c.requires.ready c.linked.ensures.serves c.linked.ensures.reads c.linked.ensures.volume
    c.linked.ensures.cause c.linked.ensures.content)
    (c.in_ok-linked.was ∙ ap Ok c.if-not-branch.true) refl

pub returns-clause-looked : goal.returns-clause-looked
returns-clause-looked g c =
    let met = met_by c.args.entry.now in
    looked_last (linked (link_of met) met.tree (target met)) (link_found met) true _
    (looked_by _ _ c.requires.ready c.linked.ensures.serves c.linked.ensures.reads c.linked.ensures.volume
    c.linked.ensures.cause c.linked.ensures.content)
    (c.in_ok-linked.was ∙ ap Ok c.if-not-branch.false) refl
