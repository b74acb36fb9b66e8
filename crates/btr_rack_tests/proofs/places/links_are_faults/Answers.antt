use Rattle.std.proofs.Common.{refl}
use Rattle.std.specs.Str.{is_utf8, chars}
use Rattle.std.specs.Char.{encode_utf8}
use Rattle.btr_rack_tests.proofs.places.links_are_faults.Goals as goal

pub dir-requires-clause-good : goal.dir-requires-clause-good
unfolding is_utf8 chars encode_utf8
dir-requires-clause-good g c = refl

pub file-requires-clause-good : goal.file-requires-clause-good
unfolding is_utf8 chars encode_utf8
file-requires-clause-good g c = refl
