use Rattle.btr_walk.proofs.Preorders.{begun, among_none}
use Rattle.btr_walk.proofs.block_scan.BlockScan.new.Goals as goal

pub returns-clause-program : goal.returns-clause-program
returns-clause-program c = λ B. begun B c.args.root.now c.begin.result c.begin.ensures.todo c.begin.ensures.path

pub returns-clause-on : goal.returns-clause-on
returns-clause-on c = λ B. among_none B c.begin.result c.begin.ensures.path
