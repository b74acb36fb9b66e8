use Rattle.btr_trial.proofs.Trials.{all_tried}
use Rattle.btr_trial.proofs.trying.try_all.Goals as goal

pub returns : goal.returns
returns c =
    all_tried c.args.number _ _ _ _ _ _ _ _ _ _ c.in_ok-findings.ensures.1 c.in_ok-findings.ensures.2 c.in_ok-spoil.ensures.2 c.in_ok-first.ensures.1
    c.in_ok-first.ensures.2
    c.in_ok-lost.ensures.1 c.in_ok-lost.ensures.2 c.in_ok-spoil-2.ensures.2 c.in_ok-second.ensures.1
