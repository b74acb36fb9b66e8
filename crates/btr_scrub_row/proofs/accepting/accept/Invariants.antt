use Rattle.std.proofs.Common.{◌≡◌, [], take, Ok}
use Rattle.btr_scrub_row.proofs.Common.{Images, IsInMemory, Target, candidates, sought}
use Rattle.btr_read.specs.Trial.{passing_of}
use Rattle.btr_scrub_row.proofs.accepting.accept.Given as goal

abbrev pub invariant-loop-k : goal.invariant-loop-k
invariant-loop-k l = (images : Images) (t : Target) → sought l.view.store.now.layout l.want ≡ Ok t → IsInMemory images t l.piece l.view.old.now
    → passing_of images t (take l.k (candidates t)) ≡ []
