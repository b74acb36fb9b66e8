use Rattle.std.proofs.Common.{◌∙◌, ◌+◌, ◌*◌, sym, ap, not, arith}
use Rattle.std.specs.Prelude.{is_none}
use Rattle.btr_make.proofs.Spoils.{page_written}
use Rattle.btr_make.proofs.spoiling.spoil_page.Goals as goal

pub returns : goal.returns
returns c =
    let off = c.args.index * 4096 in
    page_written c.args.name.now c.args.index off (off + 4095) c.in-Some.page c.args.rack.now c.poke.new.self (omega arith) (omega arith)
    (ap is_none (sym c.byte.ensures) ∙ ap not c.is_none.ensures ∙ ap (λ b. not (not b)) c.if-is_none.false) c.in-Some.ensures c.in_ok-poke.ensures
