use Rattle.std.proofs.Common.{◌≡◌, IfSome, Ok, take}
use Rattle.btr_scrub.proofs.Common.{Flags, Mirror, NoneFailed, OnlyReads, Target, fails_at, list_any, range_with_len, sought}
use Rattle.btr_scrub.specs.Judged.{HasRoom}
use Rattle.btr_scrub.proofs.doubts.flag_copies.Given as goal

abbrev pub invariant-loop-mirror : goal.invariant-loop-mirror
invariant-loop-mirror g l = record {
  ready : HasRoom l.nodesize (g.R.Rack.seen l.rack) l.probe;
  reads : OnlyReads (g.R.Rack.seen l.initial.rack) (g.R.Rack.seen l.rack);
  account : NoneFailed (g.R.Rack.seen l.initial.rack).account (g.R.Rack.seen l.rack).account;
  flags : (t : Target) → sought l.store.layout l.want ≡ Ok t → IfSome (g.R.Rack.seen l.initial.rack).held
      (λ images. Flags l.initial.probe.failing.items
      (λ slot. list_any (λ k. fails_at images t slot (Mirror k)) (take l.mirror (range_with_len 0 l.copies))) l.probe.failing.items);
}
