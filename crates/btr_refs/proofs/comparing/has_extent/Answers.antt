use Rattle.std.proofs.Common.{◌∙◌}
use Rattle.btr_refs.proofs.Extents.{any_there}
use Rattle.btr_refs.proofs.comparing.has_extent.Goals as goal

pub returns : goal.returns
returns c = c.is_any_at.ensures ∙ any_there c.args.addr c.at.result.now c.args.extents.now c.at.ensures
