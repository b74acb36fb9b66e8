use Rattle.std.proofs.Common.{refl}
use Rattle.std.specs.Str.{is_utf8, chars}
use Rattle.std.specs.Char.{encode_utf8}
use Rattle.btr_rack_tests.proofs.places.make_deep.Goals as goal

pub go_down-requires-clause-good : goal.go_down-requires-clause-good
unfolding is_utf8 chars encode_utf8
go_down-requires-clause-good g c = refl

pub file-requires-clause-good : goal.file-requires-clause-good
unfolding is_utf8 chars encode_utf8
file-requires-clause-good g c = refl
