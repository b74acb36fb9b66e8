use Rattle.std.proofs.Common.{◌∙◌, Some, drop, sym, ap, subst}
use Rattle.btr_trial.specs.Opening.{OpensOrRefuses}
use Rattle.btr_trial.specs.Stated.{directories, same_rows}
use Rattle.btr_trial.specs.Trial.{restored_same}
use Rattle.btr_trial.proofs.Listings.{restored_listed, restored_stopped}
use Rattle.btr_trial.proofs.restoring.compare_files.Goals as goal

pub returns-in-Ok-clause-same : goal.returns-in-Ok-clause-same
returns-in-Ok-clause-same c =
    let number = c.args.number in
    let mid = c.open_filesystem.new.rack in
    let volume = c.in-Some.volume in
    let opens : OpensOrRefuses mid (Some volume) = subst (OpensOrRefuses mid) c.in-Some.is c.in_ok-volume.ensures.opened in
    let listed = restored_listed number mid c.restore.new.rack volume c.restore.new.vol opens.1 c.new-tree.result c.restore.new.tree c.new-out.result
    c.restore.new.out c.new-tree.ensures c.new-out.ensures c.in-Ok.field-0 c.in-Ok.ensures.ran in
    ap Some (c.are_made.ensures ∙ ap (λ rows. same_rows (drop 1 rows) (directories 0 number)) c.rows.ensures) ∙ sym listed
    ∙ ap (restored_same number) c.in_ok-volume.ensures.kept.held

pub returns-clause-same : goal.returns-clause-same
returns-clause-same c =
    let number = c.args.number in
    let mid = c.open_filesystem.new.rack in
    let volume = c.in-Some.volume in
    let opens : OpensOrRefuses mid (Some volume) = subst (OpensOrRefuses mid) c.in-Some.is c.in_ok-volume.ensures.opened in
    let stopped = restored_stopped number mid c.restore.new.rack volume c.restore.new.vol opens.1 c.new-tree.result c.restore.new.tree c.new-out.result
    c.restore.new.out c.new-tree.ensures c.new-out.ensures c.in-Err.stop c.in_ok-unless_wanted-in-Err.ensures c.in-Err.ensures.ran in
    sym stopped ∙ ap (restored_same number) c.in_ok-volume.ensures.kept.held
