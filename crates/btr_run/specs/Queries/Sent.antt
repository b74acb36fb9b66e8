-- The command `send`.
use Rattle.std.specs.Prelude.{ℕ, List}
use Rattle.btr_send.specs.Sending.{sending}
use Rattle.btr_send.specs.declared.plan.SendPlan.{SendPlan}
use Rattle.btr_run.specs.Queries.Restored.{skipped_in}
use Rattle.btr_run.specs.Rows.{Row, program_row}

-- the row of sending a subvolume: one stream, as a file of this name in this folder
abbrev pub send_row : SendPlan → List ℕ → List ℕ → Row
send_row plan dest name =
    program_row (Unit {0}) skipped_in (λ fs. sending dest name fs.sup plan)
