use Rattle.std.proofs.Common.{take}
use Rattle.btr_scrub.proofs.Common.{AddsAll}
use Rattle.btr_scrub.proofs.rows.keep_all.Given as goal

abbrev pub invariant-loop-want : goal.invariant-loop-want
invariant-loop-want l = AddsAll l.fn.kept l.kept (take l.want-index l.wants)
