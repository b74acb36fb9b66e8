use Rattle.std.proofs.Common.{true, false, not, Ok, ap, ◌∙◌}
use Rattle.std.proofs.lemmas.Result.{err_from_is_err_and}
use Rattle.btr_listing.specs.declared.decision.Decision.TheVariants.{Empty}
use Rattle.btr_files.specs.Names.{mounted}
use Rattle.btr_listing.specs.Deciding.{mount_found, mount_of, target}
use Rattle.btr_listing.specs.Looked.{met_by}
use Rattle.btr_volume.proofs.Onward.{reads_on}
use Rattle.btr_listing.proofs.Looking.{looked_by, looked_else, looked_halt, looked_if, looked_then, looked_value}
use Rattle.btr_listing.proofs.deciding.subvolume.Goals as goal

pub root-requires-clause-ready : goal.root-requires-clause-ready
root-requires-clause-ready g c = reads_on _ _ _ c.requires.ready c.mounted.ensures.serves c.mounted.ensures.volume

pub returns-then-not-rules-clause-looked : goal.returns-then-not-rules-clause-looked
returns-then-not-rules-clause-looked g c = looked_if _ _ _ (ap not c.if-not-rules.true) (looked_value _ c.requires.ready)

pub returns-in_err-mounted-clause-looked : goal.returns-in_err-mounted-clause-looked
returns-in_err-mounted-clause-looked g c =
    let met = met_by c.args.entry.now in
    let p = err_from_is_err_and c.from_residual.result c.from_residual.ensures.1 in
    rw (p.1, p.2)
    (looked_else _ _ _ (ap not c.if-not-rules.false)
    (looked_halt (mounted (mount_of met) c.args.vol.now.sup (target met)) (mount_found c.args.rules.now met) c.in_err-mounted.field-0.0
    (looked_by _ _ c.requires.ready c.mounted.ensures.serves c.mounted.ensures.reads c.mounted.ensures.volume
    c.mounted.ensures.cause c.mounted.ensures.content) c.in_err-mounted.was))

pub returns-then-not-branch-clause-looked : goal.returns-then-not-branch-clause-looked
returns-then-not-branch-clause-looked g c =
    let met = met_by c.args.entry.now in
    looked_else _ _ _ (ap not c.if-not-rules.false)
    (looked_then (mounted (mount_of met) c.args.vol.now.sup (target met)) (mount_found c.args.rules.now met) false _
    (looked_by _ _ c.requires.ready c.mounted.ensures.serves c.mounted.ensures.reads c.mounted.ensures.volume
    c.mounted.ensures.cause c.mounted.ensures.content)
    (c.in_ok-mounted.was ∙ ap Ok c.if-not-branch.true)
    (looked_value Empty (reads_on _ _ _ c.requires.ready c.mounted.ensures.serves c.mounted.ensures.volume)))

pub returns-clause-looked : goal.returns-clause-looked
returns-clause-looked g c =
    let met = met_by c.args.entry.now in
    looked_else _ _ _ (ap not c.if-not-rules.false)
    (looked_then (mounted (mount_of met) c.args.vol.now.sup (target met)) (mount_found c.args.rules.now met) true _
    (looked_by _ _ c.requires.ready c.mounted.ensures.serves c.mounted.ensures.reads c.mounted.ensures.volume
    c.mounted.ensures.cause c.mounted.ensures.content)
    (c.in_ok-mounted.was ∙ ap Ok c.if-not-branch.false) c.root.ensures.looked)
