use Rattle.std.proofs.Common.{◌≡◌, fold, take}
use Rattle.btr_base.specs.Xxh64.{with_byte}
use Rattle.btr_base.proofs.xxhash.add_each.Given as goal

-- the hash with the bytes so far
abbrev pub invariant-loop-byte : goal.invariant-loop-byte
invariant-loop-byte l = l.hash ≡ fold with_byte l.fn.hash (take l.byte-index l.bytes)
