-- The answer behind a list, behind a scrub that was finished, or behind a trial.
use Rattle.std.proofs.Common.{◌≡◌, ◌≢◌, ℕ, Bool, true, false, cond, eqb, [], refl}
use Rattle.btr_run.specs.Answers.{error_line}
use Rattle.btr_run.specs.Checked.{found}
use Rattle.btr_run.specs.declared.answer.Answer.TheVariants.{Done, Found, Memory, OutFault, SinkFault}

line_by : (none : Bool) (count : ℕ) → error_line (cond none (Done 0) (Found count)) ≡ []
line_by true count = refl
line_by false count = refl

-- it has no line
pub found_line : (count : ℕ) → error_line (found count) ≡ []
found_line count = line_by (eqb count 0) count

memory_by : (none : Bool) (count : ℕ) → cond none (Done 0) (Found count) ≢ Memory
memory_by true count e = cc
memory_by false count e = cc

-- and is no want of memory
pub found_no_memory : (count : ℕ) → found count ≢ Memory
found_no_memory count = memory_by (eqb count 0) count

out_by : (none : Bool) (count : ℕ) → cond none (Done 0) (Found count) ≢ OutFault
out_by true count e = cc
out_by false count e = cc

-- nor a fault of the output
pub found_no_out : (count : ℕ) → found count ≢ OutFault
found_no_out count = out_by (eqb count 0) count

sink_by : (none : Bool) (count : ℕ) → cond none (Done 0) (Found count) ≢ SinkFault
sink_by true count e = cc
sink_by false count e = cc

-- nor of the sink
pub found_no_sink : (count : ℕ) → found count ≢ SinkFault
found_no_sink count = sink_by (eqb count 0) count
