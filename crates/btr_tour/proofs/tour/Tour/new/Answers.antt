use Rattle.btr_tour.proofs.Enters.{begun}
use Rattle.btr_tour.proofs.tour.Tour.new.Goals as goal

pub returns-clause-left : goal.returns-clause-left
returns-clause-left c = λ B store. begun c.args.lo c.args.hi B c.begin.result c.args.root.now c.begin.ensures.todo c.begin.ensures.path
