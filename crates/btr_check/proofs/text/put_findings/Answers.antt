use Rattle.std.proofs.Common.{◌≡◌, ℕ, ◌++◌, List, length, take, Option, Result, Ok, Err, ap}
use Rattle.std.specs.Result.{IsErr}
use Rattle.btr_rack.specs.Out.{Adds, Puts}
use Rattle.btr_rack.specs.declared.error.SinkError.{SinkError}
use Rattle.btr_text.proofs.Writing.{wrote_as, wrote_then, wrote_put, cut_as, cut_then, cut_longer, cut_puts}
use Rattle.btr_check.specs.Text.{findings_text, last_line, lines_of}
use Rattle.btr_check.proofs.text.put_findings.Goals as goal

puts_err : {T : Type 0} (old new : Option (List ℕ)) (text : List ℕ) (r : Result T SinkError) → IsErr r → (n : ℕ) × Adds old new (take n text)
    → Puts old new text r
puts_err old new text (Ok x) is a = absurd (cc is)
puts_err old new text (Err e) is a = a

pub returns-in_err-count-clause-text : goal.returns-in_err-count-clause-text
returns-in_err-count-clause-text g c =
    cut_puts c.from_residual.result c.from_residual.ensures.0 c.new-buffer.ensures (cut_longer (last_line (length c.args.findings)) c.in_err-count.ensures.text)

pub returns-in_err-push_count-clause-text : goal.returns-in_err-push_count-clause-text
returns-in_err-push_count-clause-text g c =
    let all = c.args.findings in
    let same : lines_of all ++ last_line c.in_ok-count.count ≡ findings_text all = ap (λ n. lines_of all ++ last_line n) c.in_ok-count.ensures.count in
    cut_puts c.from_residual-in_err-push_count.result c.from_residual-in_err-push_count.ensures.0 c.new-buffer.ensures
    (cut_as (findings_text all) same (cut_then c.in_ok-count.ensures.text c.in_err-push_count.ensures.text))

pub returns-in_err-flush-clause-text : goal.returns-in_err-flush-clause-text
returns-in_err-flush-clause-text g c =
    let all = c.args.findings in
    let same : lines_of all ++ last_line c.in_ok-count.count ≡ findings_text all = ap (λ n. lines_of all ++ last_line n) c.in_ok-count.ensures.count in
    let stopped : Result (Unit {0}) SinkError = Err c.in_err-flush.field-0.0 in
    puts_err (g.O.Out.text c.args.out.now) (g.O.Out.text c.flush.new.out)
    (findings_text all) c.from_residual-in_err-flush.result c.from_residual-in_err-flush.ensures.0
    (wrote_put (g.O.Out.text c.flush.new.out) stopped c.new-buffer.ensures
    (wrote_as (findings_text all) same (wrote_then c.in_ok-count.ensures.text c.in_ok-push_count.ensures.text)) c.in_err-flush.ensures.text)

pub returns-clause-text : goal.returns-clause-text
returns-clause-text g c =
    let all = c.args.findings in
    let same : lines_of all ++ last_line c.in_ok-count.count ≡ findings_text all = ap (λ n. lines_of all ++ last_line n) c.in_ok-count.ensures.count in
    let done : Result (Unit {0}) SinkError = Ok tt in
    wrote_put (g.O.Out.text c.flush.new.out) done c.new-buffer.ensures
    (wrote_as (findings_text all) same (wrote_then c.in_ok-count.ensures.text c.in_ok-push_count.ensures.text)) c.in_ok-flush.ensures.text
