use Rattle.std.proofs.Common.{◌≡◌}
use Rattle.btr_findings.proofs.Adding.{adds_as, adds_just}
use Rattle.btr_check_sums.specs.Sums.{tree_missing}
use Rattle.btr_check.proofs.file_trees.are_summed.Goals as goal

pub returns : goal.returns
returns c = λ runs same.
    let chunks = c.args.places.now.chunks.now in
    let missing = tree_missing chunks runs c.args.tree c.args.uses.now.loose c.args.uses.now.used in
    let put = tree_missing chunks runs c.args.tree c.loose.result.now c.used.result.now in
    let are : put ≡ missing = λ i. tree_missing chunks runs c.args.tree (c.loose.ensures i) (c.used.ensures i) in
    let adds = adds_as put missing c.new-missing.result c.put_missing_sums.new.found are (c.in_ok-put_missing_sums.ensures runs same) in
    c.is_nothing.ensures missing (adds_just missing c.new-missing.result c.put_missing_sums.new.found c.new-missing.ensures adds)
