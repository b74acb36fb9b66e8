use Rattle.std.proofs.Common.{rules, refl}
use Rattle.std.specs.Result.{is_ok}
use Rattle.std.proofs.lemmas.Iterator.Search.{all_from_yields_List}
use Rattle.std.proofs.lemmas.Iterator.Consumers.{YieldsList-from_first}
use Rattle.btr_items.proofs.fits.all_fit.Goals as goal

pub returns : goal.returns
returns g c = all_from_yields_List is_ok _ _ _ c.all.ensures.ran (YieldsList-from_first (λ part. part) (λ parts. parts) c.args.parts refl)
    (λ part b q called. search rules)
