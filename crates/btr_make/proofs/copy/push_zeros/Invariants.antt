use Rattle.std.proofs.Common.{◌≡◌, ◌+◌, ◌++◌, replicate}
use Rattle.arrayvec.specs.ArrayVec.{array_vec_len}
use Rattle.btr_make.proofs.copy.push_zeros.Given as goal

abbrev pub invariant-loop : goal.invariant-loop
invariant-loop l = record {
  items : l.bytes.items ≡ l.fn.bytes.items ++ replicate l.counter 0;
  len : array_vec_len l.bytes ≡ array_vec_len l.fn.bytes + l.counter;
}
