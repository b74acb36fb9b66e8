use Rattle.std.proofs.Common.{Ok, Some, None, ap, ◌∙◌}
use Rattle.btr_files.specs.Names.{inode_in}
use Rattle.btr_listing.specs.Deciding.{file_found}
use Rattle.btr_listing.specs.Looked.{met_by}
use Rattle.btr_volume.proofs.Onward.{reads_on}
use Rattle.btr_listing.proofs.Looking.{looked_by, looked_halt, looked_passed, looked_then, looked_value}
use Rattle.btr_listing.proofs.deciding.file.Goals as goal

pub by_inode-requires-clause-ready : goal.by_inode-requires-clause-ready
by_inode-requires-clause-ready g c = reads_on _ _ _ c.requires.ready c.inode.ensures.serves c.inode.ensures.volume

pub returns-in_err-inode-clause-looked : goal.returns-in_err-inode-clause-looked
returns-in_err-inode-clause-looked g c =
    looked_passed _ c.from_residual.ensures.1
    (looked_halt (inode_in c.args.entry.now.tree c.args.entry.now.row.location.objectid) (λ s. file_found (met_by c.args.entry.now)) c.in_err-inode.field-0.0
    (looked_by _ _ c.requires.ready c.inode.ensures.serves c.inode.ensures.reads c.inode.ensures.volume
    c.inode.ensures.cause c.inode.ensures.content) (c.in_err-inode.was {u = tt}))

pub returns-in-None-clause-looked : goal.returns-in-None-clause-looked
returns-in-None-clause-looked g c =
    looked_then (inode_in c.args.entry.now.tree c.args.entry.now.row.location.objectid) (λ s. file_found (met_by c.args.entry.now)) None _
    (looked_by _ _ c.requires.ready c.inode.ensures.serves c.inode.ensures.reads c.inode.ensures.volume
    c.inode.ensures.cause c.inode.ensures.content)
    (c.in_ok-inode.was {u = tt} ∙ ap Ok c.in-None.is)
    (looked_value _ (reads_on _ _ _ c.requires.ready c.inode.ensures.serves c.inode.ensures.volume))

pub returns-in-Some-clause-looked : goal.returns-in-Some-clause-looked
returns-in-Some-clause-looked g c =
    looked_then (inode_in c.args.entry.now.tree c.args.entry.now.row.location.objectid) (λ s. file_found (met_by c.args.entry.now)) (Some c.in-Some.found) _
    (looked_by _ _ c.requires.ready c.inode.ensures.serves c.inode.ensures.reads c.inode.ensures.volume
    c.inode.ensures.cause c.inode.ensures.content)
    (c.in_ok-inode.was {u = tt} ∙ ap Ok c.in-Some.is) c.by_inode.ensures.looked
