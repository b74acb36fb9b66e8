use Rattle.std.proofs.Common.{◌∙◌, sym, ap, arith, drop, List, ℕ}
use Rattle.btr_base.specs.Fold.{register_behind}
use Rattle.btr_base.proofs.Behind.{folded}
use Rattle.btr_base.proofs.crc.fold.drop_window.Goals as goal

pub returns : goal.returns
returns c =
    let bytes = c.args.bytes.now in
    let sent = c.send.ensures in
    ap (λ (front : List ℕ). register_behind front bytes) (sym sent.kept)
    ∙ folded c.send.new.dropped bytes 4096 (λ i lt. omega (arith, sent.fits i)) (omega (arith, c.requires)) sent.sent
    ∙ ap (λ (front : List ℕ). register_behind front (drop 4096 bytes)) (sym c.carry.ensures)
