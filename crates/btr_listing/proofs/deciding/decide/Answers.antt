use Rattle.std.proofs.Common.{sym, ap, ◌∙◌}
use Rattle.btr_rack.specs.Name.{is_bad}
use Rattle.btr_listing.proofs.Looking.{looked_else, looked_if, looked_value}
use Rattle.btr_listing.proofs.deciding.decide.Goals as goal

pub named-requires-clause-good : goal.named-requires-clause-good
named-requires-clause-good g c = ap is_bad (sym c.as_bytes.ensures) ∙ c.in-Some.ensures.good

pub returns-in-None-clause-looked : goal.returns-in-None-clause-looked
returns-in-None-clause-looked g c = looked_if _ _ _ (ap is_bad (sym c.as_bytes.ensures) ∙ c.in-None.ensures.bad) (looked_value _ c.requires.ready)

pub returns-in-None-clause-fits : goal.returns-in-None-clause-fits
returns-in-None-clause-fits g c = ap is_bad (sym c.as_bytes.ensures) ∙ c.in-None.ensures.bad

pub returns-in-Some-clause-looked : goal.returns-in-Some-clause-looked
returns-in-Some-clause-looked g c = looked_else _ _ _ (ap is_bad (sym c.as_bytes.ensures) ∙ c.in-Some.ensures.good) c.named.ensures.looked
