use Rattle.std.proofs.Common.{length}
use Rattle.btr_chunk.proofs.Rows.{stripe_of-cover}
use Rattle.btr_chunk.proofs.Rule.{facts}
use Rattle.btr_chunk.proofs.laws.parts_cover.Goals as goal

pub returns : goal.returns
returns c =
    let chunk = c.args.chunk.now in
    stripe_of-cover chunk.profile (length chunk.stripes) c.args.row.now c.args.stripe c.requires.parity (facts chunk c.requires.chunk).count c.requires.stripe
