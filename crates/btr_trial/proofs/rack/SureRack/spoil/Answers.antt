use Rattle.std.proofs.Common.{sym, subst}
use Rattle.btr_make.specs.Shelf.{IsShelved}
use Rattle.btr_rack.specs.Memory.{MemoryRack}
use Rattle.btr_trial.specs.Sure.{CameTo, spoiled_at}
use Rattle.btr_trial.proofs.Shelves.{spoiled_comes}
use Rattle.btr_trial.proofs.rack.SureRack.spoil.Goals as goal

pub returns : goal.returns
returns c =
    subst (λ (r : MemoryRack). CameTo {A = Unit {0}} (λ images. tt) (λ images. spoiled_at images c.args.slot) r c.spoil_image.new.rack
    c.spoil_image.result) c.self.view_is
    (spoiled_comes c.self.inside.rack c.spoil_image.new.rack (subst IsShelved (sym c.self.view_is) c.requires.ready) c.args.slot c.name_of.result.now
    c.requires.slot c.name_of.ensures c.spoil_image.result c.spoil_image.ensures.spoiled)
