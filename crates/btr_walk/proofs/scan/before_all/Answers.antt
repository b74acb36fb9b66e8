use Rattle.std.proofs.Common.{[]}
use Rattle.btr_walk.proofs.scan.before_all.Goals as goal

pub returns-clause-on : goal.returns-clause-on
returns-clause-on c = λ lo hi B. record { rest = c.begin.ensures.on lo hi B []; kept = tt }
