use Rattle.std.proofs.Common.{refl, sym, ◌∙◌}
use Rattle.btr_listing.specs.Deciding.{decided}
use Rattle.btr_listing.specs.Looked.{met_by}
use Rattle.btr_restore.specs.Journey.{rules_of}
use Rattle.btr_restore.proofs.Rans.{can_look}
use Rattle.btr_volume.proofs.Onward.{reads_on}
use Rattle.btr_salvage.specs.Salvaging.{by_lookup, tries}
use Rattle.btr_salvage.proofs.Treats.{looked_fault, looked_then, missed, stands_over}
use Rattle.btr_salvage.proofs.treating.treat.Goals as goal

pub decide-requires : goal.decide-requires
decide-requires g c = record { ready = can_look c.requires.ready }

pub treat_decided-requires-clause-ready : goal.treat_decided-requires-clause-ready
treat_decided-requires-clause-ready g c = reads_on _ _ _ c.requires.ready c.in-Ok.ensures.looked.ready.serves c.in-Ok.ensures.looked.volume

pub returns-in-Err-clause-ran : goal.returns-in-Err-clause-ran
returns-in-Err-clause-ran g c s e =
    let job = c.args.job.now in
    let met = met_by c.args.entry.now in
    missed (tries (decided (rules_of job.plan) s met)) (by_lookup job.plan s job.sums met c.args.salvaged.now) met.path c.args.salvaged.now c.miss.new.salvaged
    (λ f. refl) c.in-Err.fault _ _ _ (g.T.TreeSink.sink c.args.ends.now.tree.now)
    (g.T.TreeSink.account c.args.ends.now.tree.now) g.O.Out.text g.O.Out.account c.args.ends.now.out.now c.miss.new.out c.miss.result c.miss.ensures.told
    (looked_fault job c.args.entry.now c.args.salvaged.now s _ c.rules_of-rules.ensures _ _ e _ _ _ c.requires.ready _ c.in-Err.ensures.looked)

pub returns-in-Err-clause-stands : goal.returns-in-Err-clause-stands
returns-in-Err-clause-stands g c = stands_over c.args.job.now.plan.dry (g.T.TreeSink.sink c.args.ends.now.tree.now) c.miss.result c.miss.ensures.over

pub returns-in-Ok-clause-ran : goal.returns-in-Ok-clause-ran
returns-in-Ok-clause-ran g c s e = looked_then c.args.job.now c.args.entry.now c.args.salvaged.now s _ c.rules_of-rules.ensures _ _ e _ _ _ c.requires.ready _
    _ _ c.in-Ok.ensures.looked
    (c.treat_decided.ensures.ran s (e ∙ sym c.in-Ok.ensures.looked.volume.sup))
