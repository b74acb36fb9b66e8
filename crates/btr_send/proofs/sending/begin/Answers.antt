use Rattle.btr_send.proofs.Putting.{step_halt, step_then}
use Rattle.btr_restore.proofs.Rans.{wrote_passed}
use Rattle.btr_send.proofs.sending.begin.Goals as goal

pub returns-in_err-start_in-clause-wrote : goal.returns-in_err-start_in-clause-wrote
returns-in_err-start_in-clause-wrote g c text calls =
    wrote_passed _ c.from_residual.ensures.1 (step_halt _ _ _ _ _ (c.in_err-start_in.ensures.wrote text calls))

pub returns-in_err-begin_file-clause-wrote : goal.returns-in_err-begin_file-clause-wrote
returns-in_err-begin_file-clause-wrote g c text calls =
    wrote_passed _ c.from_residual-in_err-begin_file.ensures.1
    (step_then _ _ _ _ _ _ (c.in_ok-start_in.ensures.wrote text calls) (step_halt _ _ _ _ _ (c.in_err-begin_file.ensures.wrote text calls)))

pub returns-in_err-put_header-clause-wrote : goal.returns-in_err-put_header-clause-wrote
returns-in_err-put_header-clause-wrote g c text calls =
    wrote_passed _ c.from_residual-in_err-put_header.ensures.1
    (step_then _ _ _ _ _ _ (c.in_ok-start_in.ensures.wrote text calls)
    (step_then _ _ _ _ _ _ (c.in_ok-begin_file.ensures.wrote text calls)
    (step_halt _ _ _ _ _ (c.in_err-put_header.ensures.wrote text calls))))

pub returns-clause-wrote : goal.returns-clause-wrote
returns-clause-wrote g c text calls =
    step_then _ _ _ _ _ _ (c.in_ok-start_in.ensures.wrote text calls)
    (step_then _ _ _ _ _ _ (c.in_ok-begin_file.ensures.wrote text calls)
    (step_then _ _ _ _ _ _ (c.in_ok-put_header.ensures.wrote text calls)
    (c.put_subvol.ensures.wrote text calls)))
