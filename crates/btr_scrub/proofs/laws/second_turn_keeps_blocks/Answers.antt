use Rattle.btr_scrub.proofs.Keeping.{second_turn_keeps_blocks}
use Rattle.btr_scrub.proofs.laws.second_turn_keeps_blocks.Goals as goal

pub returns : goal.returns
returns c = second_turn_keeps_blocks
