use Rattle.std.proofs.Common.{arith}
use Rattle.std.proofs.lemmas.Map.Keys.{le_from_not_gt, ge_from_not_lt}
use Rattle.btr_chunk.specs.Index.{start_of}
use Rattle.btr_chunk.proofs.Places.{not_greater}
use Rattle.btr_chunk.proofs.Searches.{none_from}
use Rattle.btr_chunk.proofs.index.last_at.Goals as goal

pub returns-in-Some : goal.returns-in-Some
returns-in-Some c =
    let in_range = c.range.ensures.in_range tt in
    let key = c.in-Some.field-0-0.now in
    let entry = in_range.3 _ _ c.in-Some.ensures.steps in
    record {
      start = key;
      there = entry.1;
      before = le_from_not_gt key c.args.addr entry.0.1;
      last = λ k behind within.
          none_from (start_of c.args.chunks.now k) (λ is.
          let past = ge_from_not_lt key k (in_range.4 _ _ c.in-Some.ensures.steps k (tt, not_greater k c.args.addr within) is) in
          omega arith);
    }
