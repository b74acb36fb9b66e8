use Rattle.std.proofs.Common.{◌≡◌, length, map, take}
use Rattle.std.specs.List.{All}
use Rattle.std.specs.String.{string_bytes}
use Rattle.btr_rack.specs.Rack.{NoneFailed}
use Rattle.btr_run.proofs.Openings.{OpenSoFar}
use Rattle.btr_run.proofs.opening.open_images.Given as goal

abbrev pub invariant-loop-slot : goal.invariant-loop-slot
invariant-loop-slot g l = record {
  count : length (g.R.Rack.seen l.rack).slots ≡ l.slot;
  before : map (λ s. s.name) (g.R.Rack.seen l.rack).slots ≡ take l.slot (map string_bytes l.names);
  sure : (g.R.Rack.seen l.rack).sure ≡ (g.R.Rack.seen l.fn.rack).sure;
  unsynced : (g.R.Rack.seen l.rack).unsynced ≡ (g.R.Rack.seen l.fn.rack).unsynced;
  never_synced : (g.R.Rack.seen l.rack).never_synced ≡ (g.R.Rack.seen l.fn.rack).never_synced;
  account : NoneFailed (g.R.Rack.seen l.fn.rack).account (g.R.Rack.seen l.rack).account;
  closed : All (λ s. s.write ≡ l.fn.write) (g.R.Rack.seen l.rack).slots;
  images : OpenSoFar (map (λ s. s.name) (g.R.Rack.seen l.rack).slots) (g.R.Rack.seen l.fn.rack).shelf (g.R.Rack.seen l.rack).shelf (g.R.Rack.seen l.rack).held;
}
