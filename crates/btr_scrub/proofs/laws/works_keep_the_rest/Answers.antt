use Rattle.btr_scrub.proofs.Outside.{works_keep_the_rest}
use Rattle.btr_scrub.proofs.laws.works_keep_the_rest.Goals as goal

pub returns : goal.returns
returns c = works_keep_the_rest
