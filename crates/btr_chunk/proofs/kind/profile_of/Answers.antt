use Rattle.bitflags.specs.Sets.{known_from}
use Rattle.std.proofs.Common.{rules}
use Rattle.btr_chunk.proofs.kind.profile_of.Goals as goal

pub returns-in_err-kind : goal.returns-in_err-kind
unfolding known_from
returns-in_err-kind c = search rules

pub returns : goal.returns
unfolding known_from
returns c = search rules
