use Rattle.std.proofs.Common.{length}
use Rattle.btr_chunk.proofs.Rows.{stripe_of-same}
use Rattle.btr_chunk.proofs.Rule.{facts}
use Rattle.btr_chunk.proofs.laws.parts_differ.Goals as goal

pub returns : goal.returns
returns c =
    let chunk = c.args.chunk.now in
    stripe_of-same chunk.profile (length chunk.stripes) c.args.one c.args.other c.args.row.now c.requires.parity (facts chunk c.requires.chunk).count
    c.requires.one c.requires.other
