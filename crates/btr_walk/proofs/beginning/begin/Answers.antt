use Rattle.btr_walk.proofs.Frames.{none_of}
use Rattle.btr_walk.proofs.Paths.{along_root}
use Rattle.btr_walk.proofs.beginning.begin.Goals as goal

pub returns-clause-on : goal.returns-clause-on
returns-clause-on c = λ lo hi B seen. along_root lo hi B _ (none_of 7) c.args.root.now seen
