use Rattle.std.proofs.Common.{◌∙◌, Some, sym, ap, subst}
use Rattle.btr_trial.specs.Opening.{OpensOrRefuses}
use Rattle.btr_trial.specs.Trial.{lost_of, scrubbed}
use Rattle.btr_trial.proofs.Scrubs.{scrub_done, scrub_stopped}
use Rattle.btr_trial.proofs.scrubbing.count_lost.Goals as goal

pub returns-in-Ok-clause-lost : goal.returns-in-Ok-clause-lost
returns-in-Ok-clause-lost c =
    let mid = c.open_filesystem.new.rack in
    let volume = c.in-Some.volume in
    let opens : OpensOrRefuses mid (Some volume) = subst (OpensOrRefuses mid) c.in-Some.is c.in_ok-volume.ensures.opened in
    sym (scrub_done mid c.scrub.new.rack volume opens.1 c.in-Ok.tally c.in-Ok.ensures.scrubbed).lost_is ∙ ap lost_of c.in_ok-volume.ensures.kept.held

pub returns-in-Ok-clause-left : goal.returns-in-Ok-clause-left
returns-in-Ok-clause-left c =
    let mid = c.open_filesystem.new.rack in
    let volume = c.in-Some.volume in
    let opens : OpensOrRefuses mid (Some volume) = subst (OpensOrRefuses mid) c.in-Some.is c.in_ok-volume.ensures.opened in
    (scrub_done mid c.scrub.new.rack volume opens.1 c.in-Ok.tally c.in-Ok.ensures.scrubbed).left_is ∙ ap scrubbed c.in_ok-volume.ensures.kept.held

pub returns-clause-lost : goal.returns-clause-lost
returns-clause-lost c =
    let mid = c.open_filesystem.new.rack in
    let volume = c.in-Some.volume in
    let opens : OpensOrRefuses mid (Some volume) = subst (OpensOrRefuses mid) c.in-Some.is c.in_ok-volume.ensures.opened in
    sym (scrub_stopped mid c.scrub.new.rack volume opens.1 c.in-Err.stop c.in_ok-unless_wanted-in-Err.ensures c.in-Err.ensures.scrubbed).lost_is
    ∙ ap lost_of c.in_ok-volume.ensures.kept.held

pub returns-clause-left : goal.returns-clause-left
returns-clause-left c =
    let mid = c.open_filesystem.new.rack in
    let volume = c.in-Some.volume in
    let opens : OpensOrRefuses mid (Some volume) = subst (OpensOrRefuses mid) c.in-Some.is c.in_ok-volume.ensures.opened in
    (scrub_stopped mid c.scrub.new.rack volume opens.1 c.in-Err.stop c.in_ok-unless_wanted-in-Err.ensures c.in-Err.ensures.scrubbed).left_is
    ∙ ap scrubbed c.in_ok-volume.ensures.kept.held
