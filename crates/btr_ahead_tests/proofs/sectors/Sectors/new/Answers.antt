use Rattle.std.proofs.Common.{Some}
use Rattle.btr_rack.specs.Memory.{held_of}
use Rattle.btr_ahead_tests.proofs.sectors.Sectors.new.Goals as goal

pub invariant_of-result : goal.invariant_of-result
invariant_of-result g c = (c.in_ok-store.ensures, c.new.ensures (Some (held_of c.args.rack)))
