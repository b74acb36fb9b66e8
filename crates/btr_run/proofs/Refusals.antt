-- The refusals of opening, as answers.
use Rattle.std.proofs.Common.{◌≢◌, ℕ, []}
use Rattle.btr_volume.specs.declared.fault.OpenFault.{OpenFault}
use Rattle.btr_volume.specs.declared.fault.OpenFault.TheVariants as opening
use Rattle.btr_walk.specs.declared.fault.TreeFault.TheVariants as tree
use Rattle.btr_run.specs.Answers.{error_line}
use Rattle.btr_run.specs.Faults.{open_answer}
use Rattle.btr_run.specs.Outcomes.{IsNoFault}
use Rattle.btr_run.specs.declared.answer.Answer.TheVariants.{Usage, SinkFault, OutFault}

-- a refusal of opening is no fault of the output or of the sink, and has a line
open_no_out : (refusal : OpenFault) → open_answer refusal ≢ OutFault
open_no_out (opening.Tree (tree.Lost a)) e = cc
open_no_out refusal e = cc

-- nor is it one of the sink
open_no_sink : (refusal : OpenFault) → open_answer refusal ≢ SinkFault
open_no_sink (opening.Tree (tree.Lost a)) e = cc
open_no_sink refusal e = cc

-- so it is neither of these faults
pub open_no_fault : (refusal : OpenFault) → IsNoFault (open_answer refusal)
open_no_fault refusal = record { no_out = open_no_out refusal; no_sink = open_no_sink refusal }

-- the answer of a refusal of opening has a line
pub open_line : (refusal : OpenFault) → error_line (open_answer refusal) ≢ []
open_line (opening.Tree (tree.Lost a)) e = cc
open_line refusal e = cc

-- nor is it a usage error
pub open_no_usage : (refusal : OpenFault) (at : ℕ) → open_answer refusal ≢ Usage at
open_no_usage (opening.Tree (tree.Lost a)) at e = cc
open_no_usage refusal at e = cc
