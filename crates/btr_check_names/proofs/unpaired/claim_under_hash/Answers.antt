use Rattle.std.proofs.Common.{ap, ◌∙◌}
use Rattle.btr_check_names.specs.Pairs.{entry_claim}
use Rattle.btr_check_names.proofs.unpaired.claim_under_hash.Goals as goal

pub returns : goal.returns
returns c = c.of_entry.ensures ∙ ap entry_claim c.under_hash.ensures
