use Rattle.std.proofs.Common.{◌+◌, ◌∙◌, [], ◌∷◌, drop, take, get_or, refl, sym}
use Rattle.hex.specs.Hex.{encode_with}
use Rattle.btr_text.specs.Pieces.{bytes_text}
use Rattle.btr_text.proofs.Pieces.{digits_more, digits_around}
use Rattle.btr_text.proofs.Writing.{wrote_nothing, wrote_then, wrote_as, cut_then, cut_longer, cut_as, cut_writes}
use Rattle.btr_text.proofs.buffer.TextBuffer.add_bytes.Goals as goal

pub loop-b-init : goal.loop-b-init
unfolding encode_with
loop-b-init g c = record { text = wrote_nothing (g.O.Out.text c.args.out.now) c.args.self.now; account = refl }

pub returns-in_err-add-clause-text : goal.returns-in_err-add-clause-text
returns-in_err-add-clause-text g c =
    let bytes = c.args.bytes.now in
    let i = c.loop-b.b-index in
    let b = get_or bytes i 0 in
    cut_writes c.from_residual.result c.from_residual.ensures.0
    (cut_as (bytes_text bytes) (sym (digits_around bytes i b c.loop-b-test.true refl))
    (cut_longer (bytes_text (drop (i + 1) bytes)) (cut_then c.loop-b.invariant.text
    (cut_as (bytes_text (b ∷ [])) c.byte_digits.ensures c.in_err-add.ensures.text))))

pub loop-b-preserved : goal.loop-b-preserved
loop-b-preserved g c =
    let bytes = c.args.bytes.now in
    let i = c.loop-b.b-index in
    let b = get_or bytes i 0 in
    record {
      text = wrote_as (bytes_text (take (i + 1) bytes)) (sym (digits_more bytes i b c.loop-b-test.true refl))
          (wrote_then c.loop-b.invariant.text (wrote_as (bytes_text (b ∷ [])) c.byte_digits.ensures c.in_ok-add.ensures.text));
      account = c.in_ok-add.ensures.account ∙ c.loop-b.invariant.account;
    }
