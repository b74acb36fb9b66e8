use Rattle.btr_salvage.proofs.Twice.{read_twice}
use Rattle.btr_salvage.proofs.laws.read_twice.Goals as goal

pub returns : goal.returns
returns c = read_twice
