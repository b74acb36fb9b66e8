use Rattle.std.proofs.Common.{sym, ◌∙◌}
use Rattle.btr_listing.proofs.Decidings.{has_longest}
use Rattle.btr_listing.proofs.Looking.{looked_else, looked_if, looked_value}
use Rattle.btr_listing.proofs.Numbers.{is_above, is_equal, is_most, is_other}
use Rattle.btr_listing.proofs.deciding.named.Goals as goal

pub returns-then-is_long-clause-looked : goal.returns-then-is_long-clause-looked
returns-then-is_long-clause-looked g c = looked_if _ _ _ (sym c.is_long.ensures ∙ c.if-is_long.true) (looked_value _ c.requires.ready)

pub returns-then-is_long-clause-fits : goal.returns-then-is_long-clause-fits
returns-then-is_long-clause-fits g c = has_longest _ _ (sym c.is_long.ensures ∙ c.if-is_long.true)

pub returns-then-entry-eq7-clause-looked : goal.returns-then-entry-eq7-clause-looked
returns-then-entry-eq7-clause-looked g c =
    looked_else _ _ _ (sym c.is_long.ensures ∙ c.if-is_long.false) (looked_if _ _ _ (is_equal _ _ c.if-entry-eq7.true) (looked_value _ c.requires.ready))

pub returns-then-entry-ge3-clause-looked : goal.returns-then-entry-ge3-clause-looked
returns-then-entry-ge3-clause-looked g c =
    looked_else _ _ _ (sym c.is_long.ensures ∙ c.if-is_long.false) (looked_else _ _ _ (is_other _ _ c.if-entry-eq7.false)
    (looked_if _ _ _ (is_most _ _ c.if-entry-ge3.true) (looked_value _ c.requires.ready)))

pub returns-then-entry-eq1-clause-looked : goal.returns-then-entry-eq1-clause-looked
returns-then-entry-eq1-clause-looked g c =
    looked_else _ _ _ (sym c.is_long.ensures ∙ c.if-is_long.false) (looked_else _ _ _ (is_other _ _ c.if-entry-eq7.false)
    (looked_else _ _ _ (is_above _ _ c.if-entry-ge3.false) (looked_if _ _ _ (is_equal _ _ c.if-entry-eq1.true) c.file.ensures.looked)))

pub returns-clause-looked : goal.returns-clause-looked
returns-clause-looked g c =
    looked_else _ _ _ (sym c.is_long.ensures ∙ c.if-is_long.false) (looked_else _ _ _ (is_other _ _ c.if-entry-eq7.false)
    (looked_else _ _ _ (is_above _ _ c.if-entry-ge3.false) (looked_else _ _ _ (is_other _ _ c.if-entry-eq1.false) c.folder.ensures.looked)))

pub returns-then-entry-eq1-clause-fits : goal.returns-then-entry-eq1-clause-fits
returns-then-entry-eq1-clause-fits g c = c.file.ensures.fits c.args.rules.now
