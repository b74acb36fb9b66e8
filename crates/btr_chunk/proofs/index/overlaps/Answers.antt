use Rattle.std.proofs.Common.{sym}
use Rattle.btr_chunk.specs.Extents.{extent_of}
use Rattle.btr_chunk.specs.Index.{start_of}
use Rattle.btr_chunk.proofs.Tables.{IsSpaced-stripes, overlaps-address, overlaps-by_range}
use Rattle.btr_chunk.proofs.index.overlaps.Goals as goal

pub shares_range-requires-clause-spaced : goal.shares_range-requires-clause-spaced
shares_range-requires-clause-spaced c =
    IsSpaced-stripes (start_of c.args.chunks.now) (extent_of c.args.extents.now) c.requires.index.chunks c.requires.index.stripes

pub returns-then-shares_address : goal.returns-then-shares_address
returns-then-shares_address c = sym (overlaps-address c.args.chunks.now c.args.chunk.now c.if-shares_address.ensures)

pub returns : goal.returns
returns c =
    let spread = rw c.stripe_length.ensures at (sym c.if-share.ensures) in
    overlaps-by_range c.args.chunks.now (extent_of c.args.extents.now) c.args.chunk.now c.requires.index.stripes c.requires.index.ordered
    spread c.if-shares_address.ensures c.shares_range.result c.shares_range.ensures
