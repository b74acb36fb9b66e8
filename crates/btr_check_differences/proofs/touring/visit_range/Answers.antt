use Rattle.std.proofs.Common.{◌≡◌, ◌∙◌, [], fold, IfSome, Ok, ap, rules, sym, subst}
use Rattle.btr_base.specs.declared.memory.Memory.{Memory}
use Rattle.btr_prog.specs.Prog.{steps_of}
use Rattle.btr_prog.specs.Trying.{tried}
use Rattle.btr_walk.specs.Hand.{IsHeld}
use Rattle.btr_tour.specs.Tour.{tour}
use Rattle.btr_tour.specs.Visits.{IsRun}
use Rattle.btr_tour.proofs.Programs.{marks_law}
use Rattle.btr_walk.specs.Reading.{unread_by}
use Rattle.btr_walk.proofs.Joined.{drawn}
use Rattle.btr_check_differences.specs.Ranges.{high, low}
use Rattle.btr_check_differences.proofs.touring.visit_range.Goals as goal

pub returns-in-Ok : goal.returns-in-Ok
returns-in-Ok g c =
    let old = c.args.store.now in
    let is = unread_by old.layout (g.R.Rack.seen c.args.rack.now) (g.R.Rack.seen c.run-ended.new.rack) in
    let begun = c.new-tour.result in
    let root = c.args.root.now in
    let range = c.args.range.now in
    let step = g.V.Visitor.step in
    let visitor = c.args.visitor.now in
    record {
      read = record {
        reads = c.run-ended.ensures.reads;
        loans = search rules;
        ready = search rules;
        told = drawn old.layout (λ B. IsRun step is B {E = Memory} old begun visitor c.run-ended.new.visitor (Ok c.in-Ok.field-0))
            (λ B. c.run-ended.new.visitor ≡ fold step visitor (tour (low range) (high range) B root))
            (λ B h. h [] (c.new-tour.ensures.on B) (subst (λ l. IfSome l (IsHeld B [] old)) (sym c.new-tour.ensures.leaf) tt)
            ∙ ap (λ p. fold step visitor (steps_of (tried B p).marks)) (c.new-tour.ensures.left B old)
            ∙ ap (fold step visitor) (marks_law B root _ _)
            ∙ (λ i. fold step visitor (tour (c.low.ensures i) (c.high.ensures i) B root))) c.in-Ok.ensures.content;
      };
    }
