use Rattle.std.proofs.Common.{refl, sym, ◌∙◌}
use Rattle.btr_listing.specs.Deciding.{target}
use Rattle.btr_listing.specs.Looked.{met_by}
use Rattle.btr_listing.specs.declared.decision.Decision.TheVariants.{File}
use Rattle.btr_restore.specs.Running.{outside_of}
use Rattle.btr_salvage.specs.Salvaging.{by_reading, reading}
use Rattle.btr_salvage.proofs.Rans.{ran_handed}
use Rattle.btr_salvage.proofs.Treats.{carried, missed, stands_over}
use Rattle.btr_salvage.proofs.treating.treat_file.Goals as goal

pub returns-in-Err-clause-ran : goal.returns-in-Err-clause-ran
returns-in-Err-clause-ran g c s e =
    let job = c.args.job.now in
    let met = met_by c.args.entry.now in
    missed (reading job.plan s job.sums met.tree (target met) c.args.inode)
    (by_reading job.plan s job.sums met c.args.salvaged.now c.args.inode) met.path c.args.salvaged.now c.miss.new.salvaged (λ f. refl) c.in-Err.fault _ _ _
    (g.T.TreeSink.sink c.args.ends.now.tree.now) (g.T.TreeSink.account c.args.ends.now.tree.now) g.O.Out.text g.O.Out.account c.args.ends.now.out.now
    c.miss.new.out c.miss.result
    c.miss.ensures.told
    (c.in-Err.ensures (outside_of g.T.TreeSink.sink g.T.TreeSink.account g.O.Out.text g.O.Out.account c.args.ends.now.tree.now c.args.ends.now.out.now) s e)

pub returns-in-Err-clause-stands : goal.returns-in-Err-clause-stands
returns-in-Err-clause-stands g c = stands_over c.args.job.now.plan.dry (g.T.TreeSink.sink c.args.ends.now.tree.now) c.miss.result c.miss.ensures.over

pub returns-in-Ok-clause-ran : goal.returns-in-Ok-clause-ran
returns-in-Ok-clause-ran g c s e =
    let job = c.args.job.now in
    let met = met_by c.args.entry.now in
    let h = c.in-Ok.ensures (outside_of g.T.TreeSink.sink g.T.TreeSink.account g.O.Out.text g.O.Out.account c.args.ends.now.tree.now
    c.args.ends.now.out.now) s e in
    ran_handed (reading job.plan s job.sums met.tree (target met) c.args.inode)
    (by_reading job.plan s job.sums met c.args.salvaged.now c.args.inode) _ _ _ tt _ h
    (carried job.plan s job.sums met c.args.salvaged.now c.carry_out.new.counts (File c.args.inode) _ _ c.carry_out.result
    (c.carry_out.ensures.ran s (e ∙ sym h.volume.sup)))

pub carry_out-requires-clause-ready : goal.carry_out-requires-clause-ready
carry_out-requires-clause-ready g c =
    (c.in-Ok.ensures (outside_of g.T.TreeSink.sink g.T.TreeSink.account g.O.Out.text g.O.Out.account c.args.ends.now.tree.now c.args.ends.now.out.now)
    c.args.ends.now.vol.now.sup refl).ready
