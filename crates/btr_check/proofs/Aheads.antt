-- Data that was read ahead, over reads.
use Rattle.std.proofs.Common.{ℕ, List, Option, subst, sym}
use Rattle.btr_ahead.specs.Ahead.{IsAhead}
use Rattle.btr_ahead.specs.declared.data_ahead.DataAhead.{DataAhead}
use Rattle.btr_rack.specs.Rack.{Seen, OnlyReads}
use Rattle.btr_read.proofs.ReadsOn.{same_held}

-- data that was read ahead is still that of its places after calls that only read
pub still_ahead : {old new : Seen} (ahead : DataAhead) → OnlyReads old new → IsAhead old.held ahead → IsAhead new.held ahead
still_ahead ahead reads kept = subst (λ (held : Option (List (List ℕ))). IsAhead held ahead) (sym (same_held reads)) kept
