use Rattle.std.proofs.Common.{Ok, Err, refl, subst}
use Rattle.btr_base.specs.Key.{last_key}
use Rattle.btr_volume.specs.Table.{first_key}
use Rattle.btr_walk.specs.Folding.{FoldCause, FoldFollows}
use Rattle.btr_walk.specs.Reading.{TellsOf}
use Rattle.btr_walk.specs.declared.folder.FoldFault.TheVariants.{Tree}
use Rattle.btr_resolve.specs.Resolving as spec
use Rattle.btr_resolve.proofs.Listing.{ids_step, subvolumes_ran}
use Rattle.btr_resolve.proofs.Rans.{ran_unfilled}
use Rattle.btr_resolve.proofs.subvolumes.subvolumes.Goals as goal

pub returns-in-Ok : goal.returns-in-Ok
returns-in-Ok g c text calls =
    let s = c.in-Ok.ensures in
    subvolumes_ran _ _ c.args.vol.now
    (record { store = c.fold.new.store; sup = c.args.vol.now.sup }) text calls c.new-list.result c.root_root-root.result
    (Ok c.in-Ok.ids) c.new-list.ensures c.root_root-root.ensures c.requires s.serves s.reads (record { sup = refl; store = s.loans }) tt s.content

pub returns-in-Err-Tree : goal.returns-in-Err-Tree
returns-in-Err-Tree g c text calls =
    let s = c.in-Err-Tree.ensures in
    let vol = c.args.vol.now in
    let old = g.R.Rack.seen c.args.rack.now in
    let new = g.R.Rack.seen c.fold.new.rack in
    subvolumes_ran _ _ vol (record { store = c.fold.new.store; sup = vol.sup }) text calls c.new-list.result
    c.root_root-root.result (Err (Tree c.in-Err-Tree.fault)) c.new-list.ensures c.root_root-root.ensures c.requires s.serves
    s.reads (record { sup = refl; store = s.loans })
    (subst (λ f. FoldCause {A = spec.Line} vol.store.layout old new (Err f)) c.in-Err-Tree.field-0-is s.cause)
    (subst (λ f. TellsOf vol.store old new
    (λ Is B. FoldFollows ids_step (λ ids. ids) Is B c.new-list.result c.root_root-root.result first_key last_key (Err f)))
    c.in-Err-Tree.field-0-is s.content)

pub returns-in-Err-Own : goal.returns-in-Err-Own
returns-in-Err-Own g c text calls =
    let s = c.in-Err-Own.ensures in
    ran_unfilled (spec.subvolumes c.args.vol.now.sup) _ _ _
    (record { store = c.fold.new.store; sup = c.args.vol.now.sup }) text calls c.requires s.serves s.reads
    (record { sup = refl; store = s.loans })
