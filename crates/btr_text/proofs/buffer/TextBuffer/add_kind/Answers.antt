use Rattle.std.proofs.Common.{◌≡◌, ◌++◌, ap, codes, unwrap_or}
use Rattle.std.specs.Fmt.{decimal}
use Rattle.btr_text.specs.Pieces.{kind_text}
use Rattle.btr_text.proofs.Writing.{cut_longer, cut_as, cut_writes, writes_then, writes_as}
use Rattle.btr_text.proofs.buffer.TextBuffer.add_kind.Goals as goal

pub returns-in_err-add-in-None-clause-text : goal.returns-in_err-add-in-None-clause-text
returns-in_err-add-in-None-clause-text g c =
    let is : codes "UNKNOWN." ++ decimal c.args.kind ≡ kind_text c.args.kind =
    ap (λ name. unwrap_or name (codes "UNKNOWN." ++ decimal c.args.kind)) (rw c.in-None.is at c.name_of.ensures) in
    cut_writes c.from_residual.result c.from_residual.ensures.0
    (cut_as (kind_text c.args.kind) is (cut_longer (decimal c.args.kind) c.in_err-add-in-None.ensures.text))

pub returns-in_ok-add-in-None-clause-text : goal.returns-in_ok-add-in-None-clause-text
returns-in_ok-add-in-None-clause-text g c =
    let is : codes "UNKNOWN." ++ decimal c.args.kind ≡ kind_text c.args.kind =
    ap (λ name. unwrap_or name (codes "UNKNOWN." ++ decimal c.args.kind)) (rw c.in-None.is at c.name_of.ensures) in
    writes_as (g.O.Out.text c.args.out.now) (g.O.Out.text c.add_decimal.new.out) c.args.self.now c.add_decimal.new.self
    (codes "UNKNOWN." ++ decimal c.args.kind) (kind_text c.args.kind) c.add_decimal.result is
    (writes_then (g.O.Out.text c.add_decimal.new.out) c.add_decimal.new.self (decimal c.args.kind) c.add_decimal.result
    c.in_ok-add-in-None.ensures.text c.add_decimal.ensures.text)
