use Rattle.btr_prog.proofs.TwoParts.{staged_then, staged_refused, staged_halt}
use Rattle.btr_prog.proofs.staging.staged_then.Goals as goal

pub returns : goal.returns
returns g c = record {
  value = λ refused part B D p k. staged_then refused g.U.StagedCause.is part B D p k;
  refused = λ refused part B D p k. staged_refused refused g.U.StagedCause.is part B D p k;
  halt =
      λ refused part B D p k. staged_halt refused g.U.StagedCause.is part B D p k;
}
