use Rattle.std.proofs.Common.{◌+◌, ◌∙◌, drop, take, sym}
use Rattle.btr_text.specs.Pieces.{text_of}
use Rattle.btr_text.proofs.Pieces.{pieces_more, pieces_around}
use Rattle.btr_text.proofs.Writing.{wrote_then, wrote_as, cut_then, cut_longer, cut_as, cut_writes}
use Rattle.btr_text.proofs.buffer.TextBuffer.push_all.Goals as goal

pub returns-in_err-push-clause-text : goal.returns-in_err-push-clause-text
returns-in_err-push-clause-text g c =
    let pieces = c.args.pieces.now in
    let i = c.loop-piece.piece-index in
    cut_writes c.from_residual.result c.from_residual.ensures.0
    (cut_as (text_of pieces) (sym (pieces_around pieces i _ c.loop-piece-test.true))
    (cut_longer (text_of (drop (i + 1) pieces)) (cut_then c.loop-piece.invariant.text c.in_err-push.ensures.text)))

pub loop-piece-preserved : goal.loop-piece-preserved
loop-piece-preserved g c =
    let pieces = c.args.pieces.now in
    let i = c.loop-piece.piece-index in
    record {
      text = wrote_as (text_of (take (i + 1) pieces)) (sym (pieces_more pieces i _ c.loop-piece-test.true))
          (wrote_then c.loop-piece.invariant.text c.in_ok-push.ensures.text);
      account = c.in_ok-push.ensures.account ∙ c.loop-piece.invariant.account;
    }
