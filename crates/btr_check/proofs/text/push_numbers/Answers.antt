use Rattle.std.proofs.Common.{◌+◌, ◌∙◌, drop, take, sym, flat_map}
use Rattle.btr_text.proofs.Writing.{wrote_then, wrote_as, cut_then, cut_longer, cut_as, cut_writes}
use Rattle.btr_check.specs.Text.{number_text}
use Rattle.btr_check.proofs.Texts.{shown_more, shown_around}
use Rattle.btr_check.proofs.text.push_numbers.Goals as goal

pub returns-in_err-push_all-clause-text : goal.returns-in_err-push_all-clause-text
returns-in_err-push_all-clause-text g c =
    let numbers = c.args.numbers.now in
    let i = c.loop-n.n-index in
    cut_writes c.from_residual.result c.from_residual.ensures.0
    (cut_as (flat_map number_text numbers) (sym (shown_around number_text numbers i 0 c.loop-n-test.true))
    (cut_longer (flat_map number_text (drop (i + 1) numbers)) (cut_then c.loop-n.invariant.text c.in_err-push_all.ensures.text)))

pub loop-n-preserved : goal.loop-n-preserved
loop-n-preserved g c =
    let numbers = c.args.numbers.now in
    let i = c.loop-n.n-index in
    record {
      text = wrote_as (flat_map number_text (take (i + 1) numbers)) (sym (shown_more number_text numbers i 0 c.loop-n-test.true))
          (wrote_then c.loop-n.invariant.text c.in_ok-push_all.ensures.text);
      account = c.in_ok-push_all.ensures.account ∙ c.loop-n.invariant.account;
    }
