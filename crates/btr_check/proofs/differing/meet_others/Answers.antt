use Rattle.std.proofs.Common.{◌≡◌, ◌∙◌, None, Some, fold, ap}
use Rattle.std.specs.Bool.{⊤}
use Rattle.btr_check_differences.specs.Law.{tours}
use Rattle.btr_check_names.specs.Unpaired.{compared, unpaired_step}
use Rattle.btr_check.specs.Differing.{own_marks}
use Rattle.btr_check.proofs.AddingUp.{ran_read}
use Rattle.btr_check.proofs.differing.meet_others.Goals as goal

pub returns-in-None : goal.returns-in-None
returns-in-None g c = record {
  ran = ran_read (λ B. ⊤) (λ fs. ⊤) (g.R.Rack.seen c.args.rack.now) (g.R.Rack.seen c.visit_ranges.new.rack) c.args.vol.now
      c.visit_ranges.new.store None c.in-None.ensures.read (λ B h. tt);
}

pub returns-in-Some : goal.returns-in-Some
returns-in-Some g c =
    let rooted = c.args.rooted.now in
    let ranges = c.args.ranges.now in
    let met = c.visit_ranges.new.visitor in
    record {
      ran = ran_read (λ B. met ≡ fold unpaired_step c.compared-met.result (tours B rooted.tree.place ranges))
          (λ fs. met ≡ fold unpaired_step (compared c.args.names) (own_marks fs rooted ranges)) (g.R.Rack.seen c.args.rack.now)
          (g.R.Rack.seen c.visit_ranges.new.rack) c.args.vol.now c.visit_ranges.new.store (Some met) c.in-Some.ensures.read
          (λ B h. h ∙ ap (λ m. fold unpaired_step m (tours B rooted.tree.place ranges)) c.compared-met.ensures);
    }
