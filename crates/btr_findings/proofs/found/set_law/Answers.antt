use Rattle.btr_findings.proofs.Sets.{same_findings}
use Rattle.btr_findings.proofs.found.set_law.Goals as goal

pub returns : goal.returns
returns c = same_findings
