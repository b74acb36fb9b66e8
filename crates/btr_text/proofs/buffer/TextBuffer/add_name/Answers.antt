use Rattle.std.proofs.Common.{◌+◌, ◌∙◌, drop, take, get_or, refl, sym}
use Rattle.btr_base.specs.Shown.{shown}
use Rattle.btr_text.specs.Pieces.{name_text}
use Rattle.btr_text.proofs.Pieces.{name_more, name_around}
use Rattle.btr_text.proofs.Writing.{wrote_then, wrote_as, cut_then, cut_longer, cut_as, cut_writes}
use Rattle.btr_text.proofs.buffer.TextBuffer.add_name.Goals as goal

pub returns-in_err-add-clause-text : goal.returns-in_err-add-clause-text
returns-in_err-add-clause-text g c =
    let name = c.args.name.now in
    let i = c.loop-b.b-index in
    let is = c.as_slice.ensures ∙ c.show_byte-shown.ensures in
    cut_writes c.from_residual.result c.from_residual.ensures.0
    (cut_as (name_text name) (sym (name_around name i (get_or name i 0) c.loop-b-test.true refl))
    (cut_longer (name_text (drop (i + 1) name)) (cut_then c.loop-b.invariant.text (cut_as (shown (get_or name i 0)) is c.in_err-add.ensures.text))))

pub loop-b-preserved : goal.loop-b-preserved
loop-b-preserved g c =
    let name = c.args.name.now in
    let i = c.loop-b.b-index in
    let is = c.as_slice.ensures ∙ c.show_byte-shown.ensures in
    record {
      text = wrote_as (name_text (take (i + 1) name)) (sym (name_more name i (get_or name i 0) c.loop-b-test.true refl))
          (wrote_then c.loop-b.invariant.text (wrote_as (shown (get_or name i 0)) is c.in_ok-add.ensures.text));
      account = c.in_ok-add.ensures.account ∙ c.loop-b.invariant.account;
    }
