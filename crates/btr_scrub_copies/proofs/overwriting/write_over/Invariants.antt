use Rattle.std.proofs.Common.{◌≡◌, ℕ, List, Ok, Some}
use Rattle.btr_scrub_copies.proofs.Common.{Target, block_of, flagged_copies, sought}
use Rattle.btr_scrub_copies.specs.Mending.{Overwrites}
use Rattle.btr_scrub_copies.proofs.overwriting.write_over.Given as goal

abbrev pub invariant-loop-mirror : goal.invariant-loop-mirror
invariant-loop-mirror g l = record {
  slots : (g.R.Rack.seen l.rack).slots ≡ (g.R.Rack.seen l.initial.rack).slots;
  done : (t : Target) (bytes : List ℕ) → sought l.store.layout l.judged.block.want.now ≡ Ok t → block_of l.store l.loan ≡ Some bytes
      → Overwrites {A = Unit {0}} t bytes (flagged_copies l.judged.bad.flags l.mirror) l.initial.marks l.marks (g.R.Rack.seen l.initial.rack)
      (g.R.Rack.seen l.rack) (Ok tt);
}
