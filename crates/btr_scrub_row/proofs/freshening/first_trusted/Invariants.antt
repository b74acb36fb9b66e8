use Rattle.std.proofs.Common.{◌≡◌, [], take, Ok}
use Rattle.btr_scrub_row.proofs.Common.{KnowsDoubts, LiesAt, Row, Target, filter, is_trusted, sought, ways}
use Rattle.btr_scrub_row.proofs.freshening.first_trusted.Given as goal

abbrev pub invariant-loop-k : goal.invariant-loop-k
invariant-loop-k l = (row : Row) (t : Target) → sought l.store.layout l.want ≡ Ok t → LiesAt l.store.layout row t l.piece
    → KnowsDoubts l.store.layout row l.doubts → filter (is_trusted row.failing t) (take l.k (ways t)) ≡ []
