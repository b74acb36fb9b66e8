use Rattle.std.proofs.Common.{◌∙◌, map, ap}
use Rattle.btr_rack.specs.Memory.{MemoryRack, held_of, slots_of}
use Rattle.btr_rack.specs.Rack.{Slot}
use Rattle.btr_trial.proofs.Shelves.{closed_ready, closed_volume}
use Rattle.btr_trial.proofs.rack.SureRack.close.Goals as goal

pub returns-clause-ready : goal.returns-clause-ready
returns-clause-ready c =
    closed_ready c.self.inside.rack c.close_all.new.self (ap (λ (r : MemoryRack). map (λ (s : Slot). s.name) (slots_of r)) c.self.view_is
    ∙ c.requires) c.self.invariant c.close_all.ensures

pub returns-clause-volume : goal.returns-clause-volume
returns-clause-volume c =
    closed_volume c.self.inside.rack c.close_all.new.self (ap (λ (r : MemoryRack). map (λ (s : Slot). s.name) (slots_of r)) c.self.view_is
    ∙ c.requires) c.self.invariant c.close_all.ensures
    ∙ ap held_of c.self.view_is
