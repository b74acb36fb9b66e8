use Rattle.std.proofs.Common.{◌∙◌, sym, ap}
use Rattle.std.specs.Option.{option_copied}
use Rattle.btr_make.proofs.Spoils.{unkept}
use Rattle.btr_make.proofs.spoiling.turned_page.Goals as goal

pub returns-in_err-page : goal.returns-in_err-page
returns-in_err-page c = rw c.from_residual.ensures (unkept c.args.rack.now c.args.name.now c.args.index
    (sym c.page.ensures ∙ ap option_copied c.in_err-page.was))
