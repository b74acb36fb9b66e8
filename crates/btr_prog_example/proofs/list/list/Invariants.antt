use Rattle.std.proofs.Common.{drop}
use Rattle.btr_prog.specs.Calls.{Calls}
use Rattle.btr_prog_example.specs.Blocks.{Agreed, copies}
use Rattle.btr_prog_example.proofs.Lists.{Far}
use Rattle.btr_prog_example.proofs.list.list.Given as goal

abbrev pub invariant-loop-page : goal.invariant-loop-page
invariant-loop-page g l = Calls Agreed (g.B.Blocks.seen l.fn.blocks) (g.B.Blocks.seen l.blocks)
    (λ sure held. Far (copies sure held) l.catalogue (drop l.page-index l.page-items) l.last (g.S.Sink.rows l.fn.sink) (g.S.Sink.rows l.sink))
