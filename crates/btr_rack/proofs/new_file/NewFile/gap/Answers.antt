use Rattle.std.proofs.Common.{arith, ◌≤◌, ◌++◌, length, ap, ◌∙◌, replicate, rules}
use Rattle.btr_rack.specs.History.{replay}
use Rattle.btr_rack.specs.Growing.{contents}
use Rattle.btr_rack.proofs.Stores.{gap_contents}
use Rattle.btr_rack.proofs.new_file.NewFile.gap.Goals as goal

pub returns-clause-all : goal.returns-clause-all
returns-clause-all c = λ _.
    let short : length (replay c.self.inside.raw.history) ≤ c.self.inside.position = omega arith in
    gap_contents c.self.inside.position c.args.count c.in-Some.position (replay c.self.inside.raw.history) c.flush.new.buffer short
    (search rules) (search rules)
    ∙ ap (λ x. x ++ replicate c.args.count 0) (ap (λ f. contents f c.flush.new.buffer) c.self.view_is ∙ c.flush.ensures.same)
