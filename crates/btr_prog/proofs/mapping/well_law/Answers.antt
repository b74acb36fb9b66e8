use Rattle.std.proofs.Common.{IsTrue}
use Rattle.btr_prog.proofs.Wells.{well_needs}
use Rattle.btr_prog.proofs.mapping.well_law.Goals as goal

pub returns : goal.returns
returns g c = λ well B p h. well_needs (λ f. IsTrue (well f)) B p h
