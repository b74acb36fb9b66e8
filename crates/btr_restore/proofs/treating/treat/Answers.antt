use Rattle.std.proofs.Common.{sym, ◌∙◌}
use Rattle.btr_restore.proofs.Rans.{can_look}
use Rattle.btr_volume.proofs.Onward.{reads_on}
use Rattle.btr_restore.proofs.Treats.{treat_halts, treat_then}
use Rattle.btr_restore.proofs.treating.treat.Goals as goal

pub decide-requires : goal.decide-requires
decide-requires g c = record { ready = can_look c.requires.ready }

pub carry_out-requires-clause-ready : goal.carry_out-requires-clause-ready
carry_out-requires-clause-ready g c = reads_on _ _ _ c.requires.ready c.in-Ok.ensures.looked.ready.serves c.in-Ok.ensures.looked.volume

pub returns-in-Err-clause-ran : goal.returns-in-Err-clause-ran
returns-in-Err-clause-ran g c s e = treat_halts c.args.job.now c.args.entry.now c.args.counts.now s _ c.rules_of-rules.ensures _ _ e _ _ _
    c.requires.ready _ c.in-Err.ensures.looked

pub returns-in-Ok-clause-ran : goal.returns-in-Ok-clause-ran
returns-in-Ok-clause-ran g c s e = treat_then c.args.job.now c.args.entry.now c.args.counts.now s _ c.rules_of-rules.ensures _ _ e _ _ _
    c.requires.ready _ _ _ c.in-Ok.ensures.looked (c.carry_out.ensures.ran s (e ∙ sym c.in-Ok.ensures.looked.volume.sup))
