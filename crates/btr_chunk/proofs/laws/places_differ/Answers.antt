use Rattle.btr_chunk.proofs.Bytes.{data_place-same}
use Rattle.btr_chunk.proofs.laws.places_differ.Goals as goal

pub returns : goal.returns
returns c =
    data_place-same c.args.chunk.now c.args.copy c.args.one c.args.other c.requires.chunk c.requires.spread c.requires.copy c.requires.one c.requires.other
