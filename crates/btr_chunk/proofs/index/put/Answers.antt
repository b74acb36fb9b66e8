use Rattle.std.proofs.Common.{◌≡◌, ◌≤◌, Bool, true, false, cond, is_some, Some, ap, ◌∙◌, sym, refl, arith}
use Rattle.std.specs.Map.{values_of}
use Rattle.btr_chunk.specs.Extents.{extent_of}
use Rattle.btr_chunk.specs.Index.{start_of}
use Rattle.btr_chunk.proofs.Rule.{stripe_length-some}
use Rattle.btr_chunk.proofs.Additions.{IsIndexed-same, AreFree-overlaps, absent-overlaps, apart-overlaps, spread-overlaps, OnOk-always, OnErr-always, at-OnErr}
use Rattle.btr_chunk.proofs.Additions.{at-OnOk, Gains-insert, AreChunks-gains, AreStripes-gains, remove_entry-insert_entry, values-insert}
use Rattle.btr_chunk.proofs.index.put.Goals as goal

at_most_one : (b : Bool) → cond b 0 1 ≤ 1
at_most_one true = omega arith
at_most_one false = omega arith

pub returns-in_err-insert-clause-index : goal.returns-in_err-insert-clause-index
returns-in_err-insert-clause-index c =
    IsIndexed-same c.args.chunks.now c.insert.new.self c.args.extents.now c.args.extents.now c.in_err-insert.ensures.err (λ q. refl) c.requires.index

pub enter-entered-requires-clause-free : goal.enter-entered-requires-clause-free
enter-entered-requires-clause-free c =
    let both : Some c.in-Some.chunk.now ≡ Some c.args.chunk = c.in-Some.ensures.value ∙ c.in_ok-insert.ensures.updates.1 in
    let same : c.in-Some.chunk.now ≡ c.args.chunk = cc in
    rw (c.as_slice.ensures, same)
    (AreFree-overlaps c.args.chunks.now (extent_of c.args.extents.now) c.args.chunk c.requires.index.chunks c.requires.index.stripes c.requires.chunk
    c.requires.apart)

pub enter-entered-requires-clause-some : goal.enter-entered-requires-clause-some
enter-entered-requires-clause-some c =
    let both : Some c.in-Some.chunk.now ≡ Some c.args.chunk = c.in-Some.ensures.value ∙ c.in_ok-insert.ensures.updates.1 in
    let same : c.in-Some.chunk.now ≡ c.args.chunk = cc in
    rw (c.stripe_length.ensures, same) (stripe_length-some c.args.chunk c.requires.chunk)

pub returns-then-is_err-clause-err : goal.returns-then-is_err-clause-err
returns-then-is_err-clause-err c =
    let absent = absent-overlaps c.args.chunks.now c.args.chunk c.requires.index.chunks c.requires.chunk c.requires.apart in
    OnErr-always c.enter-entered.result
    (ap values_of (rw c.in_ok-insert.ensures.entries at c.remove.ensures.entries
    ∙ remove_entry-insert_entry c.args.chunks.now.entries c.args.chunk.start c.args.chunk absent))

pub returns-then-is_err-clause-index : goal.returns-then-is_err-clause-index
returns-then-is_err-clause-index c =
    let absent = absent-overlaps c.args.chunks.now c.args.chunk c.requires.index.chunks c.requires.chunk c.requires.apart in
    let entries = rw c.in_ok-insert.ensures.entries at c.remove.ensures.entries
    ∙ remove_entry-insert_entry c.args.chunks.now.entries c.args.chunk.start c.args.chunk absent in
    IsIndexed-same c.args.chunks.now c.remove.new.self c.args.extents.now c.enter-entered.new.extents entries
    (at-OnErr c.enter-entered.result (sym c.is_err.ensures.value ∙ c.if-is_err.true) c.enter-entered.ensures.err) c.requires.index

pub returns-else-is_err-clause-ok : goal.returns-else-is_err-clause-ok
returns-else-is_err-clause-ok c =
    let absent = absent-overlaps c.args.chunks.now c.args.chunk c.requires.index.chunks c.requires.chunk c.requires.apart in
    OnOk-always c.enter-entered.result
    (ap values_of c.in_ok-insert.ensures.entries ∙ values-insert c.args.chunks.now c.args.chunk c.requires.index.chunks c.requires.index.ordered absent)

pub returns-else-is_err-clause-index : goal.returns-else-is_err-clause-index
returns-else-is_err-clause-index c =
    let chunk = c.args.chunk in
    let old = c.args.chunks.now in
    let f = start_of old in
    let f' = start_of c.insert.new.self in
    let absent = absent-overlaps old chunk c.requires.index.chunks c.requires.chunk c.requires.apart in
    let gains = Gains-insert f f' chunk absent c.in_ok-insert.ensures.updates.0 in
    let apart = apart-overlaps old chunk c.requires.apart in
    let spread = spread-overlaps old chunk c.requires.apart in
    let both : Some c.in-Some.chunk.now ≡ Some chunk = c.in-Some.ensures.value ∙ c.in_ok-insert.ensures.updates.1 in
    let same : c.in-Some.chunk.now ≡ chunk = cc in
    let entered = at-OnOk c.enter-entered.result (sym c.is_err.ensures.value ∙ c.if-is_err.false) c.enter-entered.ensures.ok in
    record {
      chunks = AreChunks-gains f f' chunk gains c.requires.index.chunks c.requires.chunk spread apart;
      stripes = AreStripes-gains f f' (extent_of c.args.extents.now) (extent_of c.enter-entered.new.extents) chunk gains c.requires.index.chunks
          c.requires.index.stripes
          c.requires.chunk apart (rw (c.as_slice.ensures, c.stripe_length.ensures, same) at entered);
      ordered = c.insert.ensures.ordered;
      few = omega (arith, c.in_ok-insert.ensures.len, at_most_one (is_some c.in_ok-insert.field-0));
    }
