use Rattle.std.proofs.Common.{◌≡◌, length}
use Rattle.btr_chunk.specs.Item.{stripes_in}
use Rattle.btr_chunk.proofs.stripes.Stripes.read.Given as goal

abbrev pub invariant-loop-i : goal.invariant-loop-i
invariant-loop-i l = record { items : l.items.items ≡ stripes_in l.i l.bytes; len : length l.items.items ≡ l.i }
