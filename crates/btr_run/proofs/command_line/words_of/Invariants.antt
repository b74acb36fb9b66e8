use Rattle.std.proofs.Common.{map}
use Rattle.std.specs.String.{string_bytes}
use Rattle.btr_run.proofs.Texts.{AreReadOf}
use Rattle.btr_run.proofs.command_line.words_of.Given as goal

-- the words before this one were read
abbrev pub invariant-loop-number : goal.invariant-loop-number
invariant-loop-number g l = AreReadOf (g.W.CommandLine.told l.line) (map string_bytes l.words.items) l.number
