use Rattle.std.proofs.Common.{◌≡◌, ◌≤◌}
use Rattle.btr_rack.specs.Rack.{Steady}
use Rattle.btr_rack.specs.Memory.{seen_of, held_of}
use Rattle.btr_read.specs.Fate.{fate}
use Rattle.btr_read.specs.Store.{SameLoans}
use Rattle.btr_read.specs.Serves.{Serves}
use Rattle.btr_bench.specs.Fetching.{times_got}
use Rattle.btr_bench.proofs.fetching.count.Given as goal

-- the rack serves the store, the images and the loans are as they were, and the turns so far are counted
abbrev pub invariant-loop-turn : goal.invariant-loop-turn
invariant-loop-turn l = record {
  serves : Serves (seen_of l.rack) l.store;
  held : held_of l.rack ≡ held_of l.fn.rack;
  store : SameLoans l.fn.store l.store;
  later : l.fn.rack.account.faults ≤ l.rack.account.faults;
  most : l.got ≤ l._turn;
  exact : Steady l.fn.rack.account.faults l.rack.account.faults → l.got ≡ times_got l._turn (fate (held_of l.fn.rack) l.fn.store.layout l.fn.want);
}
