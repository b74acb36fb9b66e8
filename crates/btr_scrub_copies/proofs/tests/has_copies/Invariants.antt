use Rattle.std.proofs.Common.{ℕ, ◌<◌, IsSome}
use Rattle.btr_scrub_copies.proofs.Common.{Mirror, range_of}
use Rattle.btr_read.specs.Fate.{target}
use Rattle.btr_scrub_copies.proofs.tests.has_copies.Given as goal

abbrev pub invariant-loop-mirror : goal.invariant-loop-mirror
invariant-loop-mirror l = (k : ℕ) → k < l.mirror → IsSome (range_of (target l.store.layout l.want l.chunk l.at) (Mirror k))
