use Rattle.btr_scrub.proofs.Tallying.{listed_counts}
use Rattle.btr_scrub.proofs.laws.listed_counts.Goals as goal

pub returns : goal.returns
returns c = listed_counts
