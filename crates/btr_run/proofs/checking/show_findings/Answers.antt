use Rattle.std.proofs.Common.{◌≡◌, inl, Result, Ok, Err, None, Some, false, refl, ap, ◌∙◌}
use Rattle.btr_check.specs.Before.{refusal}
use Rattle.btr_check.specs.Findings.{findings}
use Rattle.btr_check.specs.Running.{is_outside}
use Rattle.btr_rack.specs.declared.error.SinkError.{SinkError}
use Rattle.btr_run.specs.Agreeing.{IsCheckedOrUnread}
use Rattle.btr_run.specs.Unopened.{IsOrUnopened}
use Rattle.btr_run.specs.Answers.{answer_of, output_answer}
use Rattle.btr_run.specs.Behind.{IsUnread}
use Rattle.btr_run.specs.Checked.{IsCheckOutcome, check_in, check_outcome, found, listing}
use Rattle.btr_run.specs.Faults.{stop_answer}
use Rattle.btr_run.specs.Outcomes.{showing}
use Rattle.btr_run.specs.declared.plan.Command.TheVariants.{Check}
use Rattle.btr_run.proofs.Agreements.{listed_agreed, stopped_agreed, unopened_agreed}
use Rattle.btr_run.proofs.Checks.{listed, listed_behind, listed_effect, listed_told, stop_no_fault, stopped_behind, stopped_effect, stopped_told}
use Rattle.btr_run.proofs.Coming.{answer_gives, shows_also}
use Rattle.btr_read.proofs.Fetched.{map_some}
use Rattle.btr_run.proofs.TreesShown.{steadily, unopened_effect, unopened_told, unopened_behind}
use Rattle.btr_run.proofs.Filesystems.{opened_layout}
use Rattle.btr_run.proofs.Performing.{only_reads}
use Rattle.btr_run.proofs.checking.show_findings.Goals as goal

pub returns-in_err-volume : goal.returns-in_err-volume
returns-in_err-volume g c =
    let old = g.R.Rack.seen c.args.rack.now in
    let new = g.R.Rack.seen c.open_filesystem.new.rack in
    let answer = c.in_err-volume.field-0.0 in
    let result = answer_of c.from_residual.result in
    let text = g.O.Out.text c.args.out.now in
    let account = g.O.Out.account c.args.out.now in
    let e = c.in_err-volume.ensures in
    record {
      effect = unopened_effect answer (answer_of c.from_residual.result) (answer_gives c.from_residual.result answer c.from_residual.ensures.1)
          c.in_err-volume.ensures.refusal (check_in c.args.read_data) (λ images a. refl) old.account new.account old.held
          (g.O.Out.text c.args.out.now) (g.O.Out.account c.args.out.now) c.in_err-volume.ensures.content;
      agreed = map_some old.held _ _ (λ images shows agreed.
          shows_also (IsOrUnopened images (check_outcome c.args.read_data images)) (IsCheckedOrUnread c.args.read_data images) text text account account result
          (λ outcome o. inl o) (shows agreed))
          (unopened_agreed (check_outcome c.args.read_data) (λ images a e. ap (check_in c.args.read_data images) e) old new answer result
          (answer_gives c.from_residual.result answer c.from_residual.ensures.1) text account c.in_err-volume.ensures.opened);
      told = unopened_told answer (answer_of c.from_residual.result) (answer_gives c.from_residual.result answer c.from_residual.ensures.1)
          c.in_err-volume.ensures.refusal IsCheckOutcome (g.O.Out.text c.args.out.now) (g.O.Out.account c.args.out.now);
      cause = only_reads (Check c.args.read_data) old new result (unopened_behind answer (answer_of c.from_residual.result)
          (answer_gives c.from_residual.result answer c.from_residual.ensures.1) e.refusal IsUnread old new
          e.reads e.image e.tree e.hidden e.counted);
    }

pub returns-in_err-findings : goal.returns-in_err-findings
returns-in_err-findings g c =
    let old = g.R.Rack.seen c.args.rack.now in
    let mid = g.R.Rack.seen c.open_filesystem.new.rack in
    let new = g.R.Rack.seen c.check.new.rack in
    let volume = c.in_ok-volume.volume in
    let end = c.in_err-findings.field-0.0 in
    let ran = c.in_err-findings.ensures.ran in
    let result = answer_of c.from_residual-in_err-findings.result in
    let gives = answer_gives c.from_residual-in_err-findings.result (stop_answer end) c.from_residual-in_err-findings.ensures.1 in
    record {
      effect = stopped_effect c.args.read_data old mid new c.in_ok-volume.ensures.reads ran.reads volume.store.layout end ran.quiet ran.cause result gives
          volume refl
          (g.O.Out.text c.args.out.now) (g.O.Out.account c.args.out.now) c.in_ok-volume.ensures.content
          (steadily volume.store.layout mid new (λ B. is_outside end ≡ false → refusal
          (record { sup = volume.sup; chunks = volume.store.layout.chunks; blocks = B }) ≡ Some end) ran.told);
      agreed = stopped_agreed c.args.read_data old mid new c.in_ok-volume.ensures.reads volume c.in_ok-volume.ensures.opened end ran.quiet result gives
          (stop_no_fault end ran.quiet) (g.O.Out.text c.args.out.now) (g.O.Out.account c.args.out.now) ran.told ran.named;
      told = stopped_told c.args.read_data old mid new c.in_ok-volume.ensures.reads ran.reads volume.store.layout end ran.quiet ran.cause result gives
          (g.O.Out.text c.args.out.now) (g.O.Out.account c.args.out.now);
      cause = only_reads (Check c.args.read_data) old new result
          (stopped_behind c.args.read_data old mid new c.in_ok-volume.ensures.reads ran.reads volume.store.layout end ran.quiet ran.cause result gives
          (opened_layout old mid new volume c.in_ok-volume.ensures.reads ran.reads c.in_ok-volume.ensures.opened));
    }

pub returns-in_err-count : goal.returns-in_err-count
returns-in_err-count g c =
    let old = g.R.Rack.seen c.args.rack.now in
    let mid = g.R.Rack.seen c.open_filesystem.new.rack in
    let new = g.R.Rack.seen c.check.new.rack in
    let volume = c.in_ok-volume.volume in
    let all = c.in_ok-findings.findings in
    let ran = c.in_ok-findings.ensures.ran in
    let fault = c.in_err-count.field-0.0 in
    let put : Result Unit SinkError = Err fault in
    let result = answer_of c.from_residual-in_err-count.result in
    let due = answer_gives c.from_residual-in_err-count.result (output_answer fault) c.from_residual-in_err-count.ensures.1 in
    let text = g.O.Out.text c.args.out.now in
    let text' = g.O.Out.text c.put_findings.new.out in
    let before = g.O.Out.account c.args.out.now in
    let after = g.O.Out.account c.put_findings.new.out in
    let puts = c.in_err-count.ensures.text in
    let counts = c.in_err-count.ensures.account in
    record {
      effect = listed_effect c.args.read_data old mid new c.in_ok-volume.ensures.reads ran.reads all put result due text text' before after puts counts volume
          c.in_ok-volume.ensures.content
          (steadily volume.store.layout mid new (λ B. (refusal (record { sup = volume.sup; chunks = volume.store.layout.chunks; blocks = B }) ≡ None)
          × (all ≡ findings c.args.read_data (record { sup = volume.sup; chunks = volume.store.layout.chunks; blocks = B }))) ran.told);
      agreed = listed_agreed c.args.read_data old mid new c.in_ok-volume.ensures.reads volume c.in_ok-volume.ensures.opened all result text text' before after
          (listed c.args.read_data old mid new c.in_ok-volume.ensures.reads ran.reads all put result due text text' before after puts counts
          (λ outcome. outcome ≡ showing (listing all)) refl) ran.told;
      told = listed_told c.args.read_data old mid new c.in_ok-volume.ensures.reads ran.reads all put result due text text' before after puts counts;
      cause = only_reads (Check c.args.read_data) old new result
          (listed_behind c.args.read_data old mid new c.in_ok-volume.ensures.reads ran.reads all put result due);
    }

pub returns : goal.returns
returns g c =
    let old = g.R.Rack.seen c.args.rack.now in
    let mid = g.R.Rack.seen c.open_filesystem.new.rack in
    let new = g.R.Rack.seen c.check.new.rack in
    let volume = c.in_ok-volume.volume in
    let all = c.in_ok-findings.findings in
    let ran = c.in_ok-findings.ensures.ran in
    let put : Result Unit SinkError = Ok tt in
    let result = c.answer_for.result in
    let due = c.answer_for.ensures ∙ ap found c.in_ok-count.ensures.count in
    let text = g.O.Out.text c.args.out.now in
    let text' = g.O.Out.text c.put_findings.new.out in
    let before = g.O.Out.account c.args.out.now in
    let after = g.O.Out.account c.put_findings.new.out in
    let puts = c.in_ok-count.ensures.text in
    let counts = c.in_ok-count.ensures.account in
    record {
      effect = listed_effect c.args.read_data old mid new c.in_ok-volume.ensures.reads ran.reads all put result due text text' before after puts counts volume
          c.in_ok-volume.ensures.content
          (steadily volume.store.layout mid new (λ B. (refusal (record { sup = volume.sup; chunks = volume.store.layout.chunks; blocks = B }) ≡ None)
          × (all ≡ findings c.args.read_data (record { sup = volume.sup; chunks = volume.store.layout.chunks; blocks = B }))) ran.told);
      agreed = listed_agreed c.args.read_data old mid new c.in_ok-volume.ensures.reads volume c.in_ok-volume.ensures.opened all result text text' before after
          (listed c.args.read_data old mid new c.in_ok-volume.ensures.reads ran.reads all put result due text text' before after puts counts
          (λ outcome. outcome ≡ showing (listing all)) refl) ran.told;
      told = listed_told c.args.read_data old mid new c.in_ok-volume.ensures.reads ran.reads all put result due text text' before after puts counts;
      cause = only_reads (Check c.args.read_data) old new result
          (listed_behind c.args.read_data old mid new c.in_ok-volume.ensures.reads ran.reads all put result due);
    }
