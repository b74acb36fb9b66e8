use Rattle.std.proofs.Common.{◌≡◌}
use Rattle.btr_rack.specs.Memory.{seen_of}
use Rattle.btr_read.specs.Store.{free_count}
use Rattle.btr_read.specs.Serves.{Serves}
use Rattle.btr_files.specs.Listing.{IsDir}
use Rattle.btr_listing_tests.proofs.deciding.decide_all.Given as goal

abbrev pub invariant-loop : goal.invariant-loop
invariant-loop l = record {
  serves : Serves (seen_of l.rack) l.vol.store;
  free : free_count l.vol.store ≡ 24;
  dir : IsDir l.dir;
}
