use Rattle.std.proofs.Common.{◌-◌, arith, inl, inr}
use Rattle.std.proofs.lemmas.Bool.{lt-ltb, le-ltb, cases_lt}
use Rattle.btr_chunk.specs.Index.{start_of}
use Rattle.btr_chunk.proofs.Rule.{facts}
use Rattle.btr_chunk.proofs.Tables.{SharesAddress-last, SharesNone-last}
use Rattle.btr_chunk.proofs.index.shares_address.Goals as goal

pub returns-then-chunk-last : goal.returns-then-chunk-last
returns-then-chunk-last c =
    let chunk = c.args.chunk.now in
    let last = c.in-Some.last.now in
    let some = (facts chunk c.requires.chunk).some in
    rw (lt-ltb chunk.start last.start c.if-chunk-last.true)
    (SharesAddress-last (start_of c.args.chunks.now) chunk last c.requires.chunks c.in-Some.ensures some (omega arith))

pub returns-else-chunk-last : goal.returns-else-chunk-last
returns-else-chunk-last c =
    let chunk = c.args.chunk.now in
    let last = c.in-Some.last.now in
    let some = (facts chunk c.requires.chunk).some in
    elim (cases_lt (chunk.start - last.start) last.length) [
      | inl below ↦
          rw (lt-ltb (chunk.start - last.start) last.length below)
          (SharesAddress-last (start_of c.args.chunks.now) chunk last c.requires.chunks c.in-Some.ensures some (omega arith))
      | inr above ↦
          rw (le-ltb (chunk.start - last.start) last.length above)
          (SharesNone-last (start_of c.args.chunks.now) chunk last c.requires.chunks c.in-Some.ensures some (omega arith))
    ]
