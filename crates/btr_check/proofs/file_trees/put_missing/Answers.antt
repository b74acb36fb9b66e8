use Rattle.std.proofs.Common.{◌≡◌, [], sym}
use Rattle.btr_findings.proofs.Adding.{adds_as, adds_none}
use Rattle.btr_check_sums.specs.Sums.{tree_missing}
use Rattle.btr_check.proofs.file_trees.put_missing.Goals as goal

pub returns-then-branch : goal.returns-then-branch
returns-then-branch c = λ runs same.
    let found = c.args.found.now in
    let missing = tree_missing c.args.places.now.chunks.now runs c.args.tree c.args.uses.now.loose c.args.uses.now.used in
    let none : missing ≡ [] = c.in_ok-are_summed.ensures runs same c.if-branch.true in
    (adds_as [] missing found found (sym none) (adds_none found), λ yes. none)
