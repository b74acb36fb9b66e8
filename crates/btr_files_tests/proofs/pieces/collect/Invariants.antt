use Rattle.std.proofs.Common.{◌≡◌}
use Rattle.btr_rack.specs.Memory.{seen_of}
use Rattle.btr_read.specs.Store.{free_count}
use Rattle.btr_files.specs.Streaming.{without_file, IsReading}
use Rattle.btr_files_tests.proofs.pieces.collect.Given as goal

abbrev pub invariant-loop : goal.invariant-loop
invariant-loop l = record {
  reading : IsReading (seen_of l.rack) l.vol.store l.file;
  free : free_count (without_file l.vol.store l.file) ≡ 24;
}
