use Rattle.std.proofs.Common.{take}
use Rattle.std.specs.Option.{IfSome}
use Rattle.btr_rack.specs.Rack.{image_of, NoneFailed, OnlyCounts}
use Rattle.btr_super.specs.Slot.{IsSoFar, standing, places}
use Rattle.btr_super.proofs.slot.read_slot.Given as goal

abbrev pub invariant-loop-place : goal.invariant-loop-place
invariant-loop-place g l = record {
  same : OnlyCounts (g.R.Rack.seen l.fn.rack) (g.R.Rack.seen l.rack);
  account : NoneFailed (g.R.Rack.seen l.fn.rack).account (g.R.Rack.seen l.rack).account;
  found : IfSome (g.R.Rack.seen l.fn.rack).held (λ images. IsSoFar (standing (image_of images l.slot) (take l.place-index places)) l.seen);
}
