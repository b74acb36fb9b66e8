use Rattle.btr_scrub.proofs.Listing.{few_bytes}
use Rattle.btr_scrub.proofs.laws.few_bytes.Goals as goal

pub returns : goal.returns
returns c = few_bytes
