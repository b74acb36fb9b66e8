use Rattle.std.proofs.Common.{arith, refl}
use Rattle.std.specs.Str.{is_utf8, chars}
use Rattle.std.specs.Char.{encode_utf8}
use Rattle.btr_send_tests.proofs.memory.sent_by.Goals as goal

pub send-answer-requires-clause-good : goal.send-answer-requires-clause-good
unfolding is_utf8 chars encode_utf8
send-answer-requires-clause-good g c = (refl, omega arith)
