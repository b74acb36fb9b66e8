use Rattle.btr_listing.specs.Looked.{met_by}
use Rattle.btr_restore.specs.Journey.{rules_of}
use Rattle.std.proofs.Common.{sym, ◌∙◌}
use Rattle.btr_salvage.proofs.Treats.{carried, good_file, on_file, on_other}
use Rattle.btr_salvage.proofs.treating.treat_decided.Goals as goal

pub treat_file-requires-clause-good : goal.treat_file-requires-clause-good
treat_file-requires-clause-good g c = good_file (rules_of c.args.job.now.plan) (met_by c.args.entry.now) c.args.decision c.in-Some.inode
    (sym c.file_of.ensures ∙ c.in-Some.is) c.requires.fits

pub returns-in-Some-clause-ran : goal.returns-in-Some-clause-ran
returns-in-Some-clause-ran g c s e =
    on_file c.args.job.now.plan s c.args.job.now.sums (met_by c.args.entry.now) c.args.salvaged.now _ _ _ c.args.decision c.in-Some.inode
    (sym c.file_of.ensures ∙ c.in-Some.is) (c.treat_file.ensures.ran s e)

pub returns-in-None-clause-ran : goal.returns-in-None-clause-ran
returns-in-None-clause-ran g c s e =
    on_other c.args.job.now.plan s c.args.job.now.sums (met_by c.args.entry.now) c.args.salvaged.now _ _ _ c.args.decision
    (sym c.file_of.ensures ∙ c.in-None.is)
    (carried c.args.job.now.plan s c.args.job.now.sums (met_by c.args.entry.now) c.args.salvaged.now c.carry_out.new.counts c.args.decision _ _
    c.carry_out.result (c.carry_out.ensures.ran s e))
