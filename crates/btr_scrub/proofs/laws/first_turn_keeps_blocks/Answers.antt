use Rattle.btr_scrub.proofs.Keeping.{first_turn_keeps_blocks}
use Rattle.btr_scrub.proofs.laws.first_turn_keeps_blocks.Goals as goal

pub returns : goal.returns
returns c = first_turn_keeps_blocks
