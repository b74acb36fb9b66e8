use Rattle.std.proofs.Common.{◌≡◌, ◌∙◌, ap, subst}
use Rattle.btr_make.specs.Shelf.{volume_of}
use Rattle.btr_rack.specs.Memory.{MemoryRack}
use Rattle.btr_trial.specs.Shown.{EndsTrial}
use Rattle.btr_trial.specs.Trial.{trial_of}
use Rattle.btr_trial.specs.declared.tried.Tried.{Tried}
use Rattle.btr_trial.proofs.trying.trial.Goals as goal

pub returns-in-Ok : goal.returns-in-Ok
returns-in-Ok g c =
    let is : c.in-Ok.tried ≡ trial_of (volume_of c.args.rack.now) c.args.number =
    c.in-Ok.ensures ∙ ap (λ (r : MemoryRack). trial_of (volume_of r) c.args.number) (c.new-sure.ensures ∙ c.replace.ensures.value) in
    subst (λ (t : Tried). EndsTrial t (g.O.Out.text c.args.out.now) (g.O.Out.text c.put_lines.new.out) (g.O.Out.account c.args.out.now)
    (g.O.Out.account c.put_lines.new.out) c.put_lines.result) is c.put_lines.ensures
