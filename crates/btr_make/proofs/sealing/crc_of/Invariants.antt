use Rattle.std.proofs.Common.{◌<◌, ◌^◌}
use Rattle.btr_rack.specs.Memory.{named}
use Rattle.btr_make.specs.Seal.{IsRegisterAt}
use Rattle.btr_make.proofs.sealing.crc_of.Given as goal

abbrev pub invariant-loop-at : goal.invariant-loop-at
invariant-loop-at l = record {
  fits : l.register < 2 ^ 32;
  here : IsRegisterAt l.register (named l.rack l.name) l.begin l.end l.at;
}
