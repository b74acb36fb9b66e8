use Rattle.std.proofs.Common.{Ok, Err, subst}
use Rattle.btr_files.specs.Gathering.{TellsNames, with_names}
use Rattle.btr_files.specs.Names.{links}
use Rattle.btr_walk.specs.Folding.{FoldCause}
use Rattle.btr_walk.specs.declared.folder.FoldFault.TheVariants.{Tree}
use Rattle.btr_resolve.proofs.Rans.{folded_ran, ran_unfilled}
use Rattle.btr_resolve.proofs.climbing.find_names.Goals as goal

pub returns-in-Ok : goal.returns-in-Ok
returns-in-Ok g c text calls = folded_ran (links c.args.tree.now c.args.ino) _ _ _ _ text calls
    (with_names c.names.new.list (Ok c.in-Ok.field-0)) c.requires c.in-Ok.ensures.serves c.in-Ok.ensures.reads
    c.in-Ok.ensures.volume tt c.in-Ok.ensures.content

pub returns-in-Err-Tree : goal.returns-in-Err-Tree
returns-in-Err-Tree g c text calls =
    let old = g.R.Rack.seen c.args.rack.now in
    let new = g.R.Rack.seen c.names.new.rack in
    let p = links c.args.tree.now c.args.ino in
    let s = c.in-Err-Tree.ensures in
    folded_ran p _ _ _ _ text calls (with_names c.names.new.list (Err (Tree c.in-Err-Tree.fault))) c.requires s.serves s.reads s.volume
    (subst (λ f. FoldCause {A = Unit {0}} c.args.vol.now.store.layout old new (Err f)) c.in-Err-Tree.field-0-is s.cause)
    (subst (λ f. TellsNames c.args.vol.now old new p c.names.new.list (Err f)) c.in-Err-Tree.field-0-is s.content)

pub returns-in-Err-Own : goal.returns-in-Err-Own
returns-in-Err-Own g c text calls =
    let s = c.in-Err-Own.ensures in
    ran_unfilled (links c.args.tree.now c.args.ino) _ _ _ _ text calls c.requires s.serves s.reads s.volume
