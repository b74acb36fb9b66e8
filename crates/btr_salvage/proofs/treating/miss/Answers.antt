use Rattle.std.proofs.Common.{Option, Err, refl, sym, ap, ◌∙◌, subst}
use Rattle.btr_read.specs.Fate.{Fault}
use Rattle.btr_volume.specs.declared.stop.Stop.TheVariants.{Tree}
use Rattle.btr_salvage.specs.Damages.{fault_in}
use Rattle.btr_salvage.specs.Treating.{MissesBy}
use Rattle.btr_salvage.proofs.treating.miss.Goals as goal

pub returns-in-None-clause-told : goal.returns-in-None-clause-told
returns-in-None-clause-told g c =
    subst (λ (o : Option Fault). MissesBy o c.args.fault c.args.path.now c.args.salvaged.now c.args.salvaged.now g.O.Out.text g.O.Out.account c.args.out.now
    c.args.out.now (Err (Tree c.args.fault))) (ap fault_in (sym c.in-None.is) ∙ c.damage_of.ensures) (refl, refl, refl)

pub returns-in-Some-clause-told : goal.returns-in-Some-clause-told
returns-in-Some-clause-told g c =
    subst (λ (o : Option Fault). MissesBy o c.args.fault c.args.path.now c.args.salvaged.now c.leave_broken.new.salvaged g.O.Out.text g.O.Out.account
    c.args.out.now c.leave_broken.new.out c.leave_broken.result) (ap fault_in (sym c.in-Some.is) ∙ c.damage_of.ensures) c.leave_broken.ensures.wrote
