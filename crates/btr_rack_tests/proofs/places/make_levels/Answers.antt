use Rattle.std.proofs.Common.{refl}
use Rattle.std.specs.Str.{is_utf8, chars}
use Rattle.std.specs.Char.{encode_utf8}
use Rattle.btr_rack_tests.proofs.places.make_levels.Goals as goal

pub make_level-requires-clause-good : goal.make_level-requires-clause-good
unfolding is_utf8 chars encode_utf8
make_level-requires-clause-good g c = refl

pub make_level-requires-clause-good_file : goal.make_level-requires-clause-good_file
unfolding is_utf8 chars encode_utf8
make_level-requires-clause-good_file g c = refl

pub make_level-requires-2-clause-good : goal.make_level-requires-2-clause-good
unfolding is_utf8 chars encode_utf8
make_level-requires-2-clause-good g c = refl

pub make_level-requires-2-clause-good_file : goal.make_level-requires-2-clause-good_file
unfolding is_utf8 chars encode_utf8
make_level-requires-2-clause-good_file g c = refl

pub make_level-requires-3-clause-good : goal.make_level-requires-3-clause-good
unfolding is_utf8 chars encode_utf8
make_level-requires-3-clause-good g c = refl

pub make_level-requires-3-clause-good_file : goal.make_level-requires-3-clause-good_file
unfolding is_utf8 chars encode_utf8
make_level-requires-3-clause-good_file g c = refl

pub leave_level-requires-clause-good_file : goal.leave_level-requires-clause-good_file
unfolding is_utf8 chars encode_utf8
leave_level-requires-clause-good_file g c = refl

pub leave_level-requires-2-clause-good_file : goal.leave_level-requires-2-clause-good_file
unfolding is_utf8 chars encode_utf8
leave_level-requires-2-clause-good_file g c = refl

pub leave_level-requires-3-clause-good_file : goal.leave_level-requires-3-clause-good_file
unfolding is_utf8 chars encode_utf8
leave_level-requires-3-clause-good_file g c = refl
