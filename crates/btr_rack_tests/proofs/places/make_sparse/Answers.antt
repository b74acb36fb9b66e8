use Rattle.std.proofs.Common.{refl}
use Rattle.std.specs.Str.{is_utf8, chars}
use Rattle.std.specs.Char.{encode_utf8}
use Rattle.btr_rack_tests.proofs.places.make_sparse.Goals as goal

pub file-requires-clause-good : goal.file-requires-clause-good
unfolding is_utf8 chars encode_utf8
file-requires-clause-good g c = refl
