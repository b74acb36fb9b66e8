use Rattle.btr_chunk.proofs.Bytes.{place-inside}
use Rattle.btr_chunk.proofs.laws.place_inside.Goals as goal

pub returns : goal.returns
returns c = place-inside c.args.chunk.now c.args.part c.args.at.now c.args.len c.requires.chunk c.requires.part c.requires.at c.requires.reach.inside
