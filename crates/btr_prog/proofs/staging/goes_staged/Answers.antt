use Rattle.btr_prog.proofs.TwoParts.{goes_staged, goes_staged_refused, goes_staged_halt}
use Rattle.btr_prog.proofs.staging.goes_staged.Goals as goal

pub returns : goal.returns
returns g c = record {
  value = λ refused part Bs Ds p k. goes_staged refused g.U.StagedCause.is part Bs Ds p k;
  refused = λ refused part Bs Ds p k. goes_staged_refused refused g.U.StagedCause.is part Bs Ds p k;
  halt =
      λ i refused part Bs Ds p k. goes_staged_halt refused g.U.StagedCause.is part Bs Ds p k i;
}
