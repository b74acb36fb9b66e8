use Rattle.std.proofs.Common.{◌∙◌, Some, sym, ap, subst}
use Rattle.btr_trial.specs.Opening.{OpensOrRefuses}
use Rattle.btr_trial.specs.Trial.{findings_of}
use Rattle.btr_trial.proofs.Checks.{findings_listed, findings_stopped}
use Rattle.btr_trial.proofs.checking.count_findings.Goals as goal

pub returns-in-Ok-clause-count : goal.returns-in-Ok-clause-count
returns-in-Ok-clause-count c =
    let mid = c.open_filesystem.new.rack in
    let volume = c.in-Some.volume in
    let opens : OpensOrRefuses mid (Some volume) = subst (OpensOrRefuses mid) c.in-Some.is c.in_ok-volume.ensures.opened in
    ap Some c.count_all.ensures ∙ sym (findings_listed mid c.check.new.rack volume c.check.new.vol opens.1 c.in-Ok.findings c.in-Ok.ensures.ran)
    ∙ ap findings_of c.in_ok-volume.ensures.kept.held

pub returns-clause-count : goal.returns-clause-count
returns-clause-count c =
    let mid = c.open_filesystem.new.rack in
    let volume = c.in-Some.volume in
    let opens : OpensOrRefuses mid (Some volume) = subst (OpensOrRefuses mid) c.in-Some.is c.in_ok-volume.ensures.opened in
    sym (findings_stopped mid c.check.new.rack volume c.check.new.vol opens.1 c.in-Err.stop c.in_ok-unless_wanted-in-Err.ensures c.in-Err.ensures.ran)
    ∙ ap findings_of c.in_ok-volume.ensures.kept.held
