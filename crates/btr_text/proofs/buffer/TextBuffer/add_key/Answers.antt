use Rattle.std.proofs.Common.{codes}
use Rattle.std.specs.Fmt.{decimal}
use Rattle.btr_text.specs.Pieces.{kind_text}
use Rattle.btr_text.proofs.Writing.{wrote_then, cut_then, cut_longer, cut_writes, writes_then}
use Rattle.btr_text.proofs.buffer.TextBuffer.add_key.Goals as goal

pub returns-in_err-add-clause-text : goal.returns-in_err-add-clause-text
returns-in_err-add-clause-text g c =
    let key = c.args.key in
    cut_writes c.from_residual.result c.from_residual.ensures.0
    (cut_longer (codes ")") (cut_longer (decimal key.offset)
    (cut_longer (codes " ") (cut_longer (kind_text key.kind) (cut_longer (codes " ") (cut_longer (decimal key.objectid) c.in_err-add.ensures.text))))))

pub returns-in_err-add_decimal-clause-text : goal.returns-in_err-add_decimal-clause-text
returns-in_err-add_decimal-clause-text g c =
    let key = c.args.key in
    cut_writes c.from_residual-in_err-add_decimal.result c.from_residual-in_err-add_decimal.ensures.0
    (cut_longer (codes ")") (cut_longer (decimal key.offset)
    (cut_longer (codes " ") (cut_longer (kind_text key.kind)
    (cut_longer (codes " ") (cut_then c.in_ok-add.ensures.text c.in_err-add_decimal.ensures.text))))))

pub returns-in_err-add-2-clause-text : goal.returns-in_err-add-2-clause-text
returns-in_err-add-2-clause-text g c =
    let key = c.args.key in
    cut_writes c.from_residual-in_err-add-2.result c.from_residual-in_err-add-2.ensures.0
    (cut_longer (codes ")") (cut_longer (decimal key.offset) (cut_longer (codes " ") (cut_longer (kind_text key.kind)
    (cut_then (wrote_then c.in_ok-add.ensures.text c.in_ok-add_decimal.ensures.text) c.in_err-add-2.ensures.text)))))

pub returns-in_err-add_kind-clause-text : goal.returns-in_err-add_kind-clause-text
returns-in_err-add_kind-clause-text g c =
    let key = c.args.key in
    cut_writes c.from_residual-in_err-add_kind.result c.from_residual-in_err-add_kind.ensures.0
    (cut_longer (codes ")") (cut_longer (decimal key.offset) (cut_longer (codes " ")
    (cut_then (wrote_then (wrote_then c.in_ok-add.ensures.text c.in_ok-add_decimal.ensures.text) c.in_ok-add-2.ensures.text) c.in_err-add_kind.ensures.text))))

pub returns-in_err-add-3-clause-text : goal.returns-in_err-add-3-clause-text
returns-in_err-add-3-clause-text g c =
    let key = c.args.key in
    cut_writes c.from_residual-in_err-add-3.result c.from_residual-in_err-add-3.ensures.0
    (cut_longer (codes ")") (cut_longer (decimal key.offset)
    (cut_then (wrote_then (wrote_then (wrote_then c.in_ok-add.ensures.text c.in_ok-add_decimal.ensures.text) c.in_ok-add-2.ensures.text)
    c.in_ok-add_kind.ensures.text) c.in_err-add-3.ensures.text)))

pub returns-in_err-add_decimal-2-clause-text : goal.returns-in_err-add_decimal-2-clause-text
returns-in_err-add_decimal-2-clause-text g c =
    let key = c.args.key in
    cut_writes c.from_residual-in_err-add_decimal-2.result c.from_residual-in_err-add_decimal-2.ensures.0
    (cut_longer (codes ")")
    (cut_then (wrote_then (wrote_then (wrote_then (wrote_then c.in_ok-add.ensures.text c.in_ok-add_decimal.ensures.text) c.in_ok-add-2.ensures.text)
    c.in_ok-add_kind.ensures.text) c.in_ok-add-3.ensures.text) c.in_err-add_decimal-2.ensures.text))

pub returns-clause-text : goal.returns-clause-text
returns-clause-text g c =
    writes_then (g.O.Out.text c.add-4.new.out) c.add-4.new.self (codes ")") c.add-4.result
    (wrote_then (wrote_then (wrote_then (wrote_then (wrote_then c.in_ok-add.ensures.text c.in_ok-add_decimal.ensures.text) c.in_ok-add-2.ensures.text)
    c.in_ok-add_kind.ensures.text) c.in_ok-add-3.ensures.text) c.in_ok-add_decimal-2.ensures.text)
    c.add-4.ensures.text
