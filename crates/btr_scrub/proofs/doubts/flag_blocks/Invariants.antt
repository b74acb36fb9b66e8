use Rattle.std.proofs.Common.{length}
use Rattle.btr_scrub.proofs.Common.{NoneFailed, OnlyReads}
use Rattle.btr_scrub.specs.Judged.{HasRoom}
use Rattle.btr_scrub.proofs.Doubting.{LookedAt}
use Rattle.btr_scrub.proofs.doubts.flag_blocks.Given as goal

abbrev pub invariant-loop-want : goal.invariant-loop-want
invariant-loop-want g l = record {
  ready : HasRoom l.nodesize (g.R.Rack.seen l.rack) l.probe;
  reads : OnlyReads (g.R.Rack.seen l.initial.rack) (g.R.Rack.seen l.rack);
  account : NoneFailed (g.R.Rack.seen l.initial.rack).account (g.R.Rack.seen l.rack).account;
  looked : LookedAt l.store.layout (g.R.Rack.seen l.initial.rack).held l.initial.blocks l.blocks l.initial.probe.failing.items l.probe.failing.items;
}

abbrev pub decreases-loop-want : goal.decreases-loop-want
decreases-loop-want g l = length l.blocks
