use Rattle.std.proofs.Common.{sym, ◌∙◌}
use Rattle.btr_read.proofs.Order.{length-candidates}
use Rattle.btr_read.proofs.search.Search.candidate_count.Goals as goal

pub returns : goal.returns
returns c = c.way_count.ensures ∙ sym (length-candidates c.args.self.now)
