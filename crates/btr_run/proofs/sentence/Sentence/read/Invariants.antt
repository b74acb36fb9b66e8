use Rattle.std.proofs.Common.{◌≡◌, map, take, Some}
use Rattle.std.specs.String.{string_bytes}
use Rattle.btr_run.specs.Walk.{stage_of}
use Rattle.btr_run.proofs.Machine.{reached}
use Rattle.btr_run.proofs.Usage.{start}
use Rattle.btr_run.proofs.sentence.Sentence.read.Given as goal

-- the words so far lead here
abbrev pub invariant-loop-at : goal.invariant-loop-at
invariant-loop-at l = reached (start l.fn.self) 0 (take l.at (map string_bytes l.words)) ≡ Some (stage_of l.place)
