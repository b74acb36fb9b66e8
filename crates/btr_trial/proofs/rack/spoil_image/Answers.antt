use Rattle.std.proofs.Common.{Err, subst}
use Rattle.btr_make.specs.Spoil.{Spoils}
use Rattle.btr_rack.specs.declared.error.PokeError.{PokeError}
use Rattle.btr_rack.specs.declared.error.PokeError.TheVariants.{Memory}
use Rattle.btr_trial.proofs.Shelves.{standing_sure}
use Rattle.btr_trial.proofs.rack.spoil_image.Goals as goal

pub returns-in-Ok-clause-sure : goal.returns-in-Ok-clause-sure
returns-in-Ok-clause-sure c = standing_sure c.args.rack.now c.spoil.new.rack c.in-Ok.ensures.2.standing

pub returns-in-Err-Memory-clause-sure : goal.returns-in-Err-Memory-clause-sure
returns-in-Err-Memory-clause-sure c =
    let P : PokeError → Type 0 = λ e. Spoils {T = Unit {0}} c.args.name.now c.args.rack.now c.spoil.new.rack (Err e) in
    let left : P Memory = subst P c.in-Err-Memory.field-0-is c.in-Err-Memory.ensures in
    standing_sure c.args.rack.now c.spoil.new.rack left.6.standing
