use Rattle.std.proofs.Common.{Some, None, ap, sym, ◌∙◌, cond, get_or, arith}
use Rattle.std.proofs.lemmas.List.{get_or_default}
use Rattle.std.specs.Option.{option_map}
use Rattle.btr_check_names.specs.Pairs.{Half, fits}
use Rattle.btr_check_names.specs.Slots.{Slot, half_in, listed, waits}
use Rattle.btr_check_names.proofs.Slotted.{found_claim, let_go, laid_still, none_found, nothing_removed}
use Rattle.btr_check_names.proofs.ascending.let_go.Goals as goal

pub returns-clause-laid : goal.returns-clause-laid
returns-clause-laid c =
    let d = c.index-slots-at-3.result in
    let in_range = c.in-Some.ensures.found.in_range in
    let inside = c.requires.laid.inside c.in-Some.at d in_range in
    let now = c.let_go.ensures in
    laid_still c.args.names.now c.args.slots.now c.requires.laid c.in-Some.at d c.let_go.new.self in_range (ap (λ (s : Slot). s.claim) now)
    (omega (arith, inside, ap (λ (s : Slot). s.at) now, ap (λ (s : Slot). s.len) now))

pub returns-clause-found : goal.returns-clause-found
returns-clause-found c =
    let names = c.args.names.now in
    let slots = c.args.slots.now in
    let at = c.in-Some.at in
    let d = c.index-slots-at-2.result in
    let has = c.in-Some.ensures.found in
    let half = half_in names (get_or slots at d) in
    let waits_here = ap waits (get_or_default slots at d c.index-slots-at.result has.in_range) ∙ sym c.waits.ensures ∙ c.if-not-waits.false in
    ap Some c.fits-fit.ensures
    ∙ sym (ap (option_map (λ (h : Half). fits h c.args.is_first c.args.name.now))
    (found_claim names slots c.requires.laid c.args.claim.now at d has ∙ ap (λ b. cond b (Some half) None) waits_here))

pub returns-clause-left : goal.returns-clause-left
returns-clause-left c =
    let d = c.index-slots-at-3.result in
    let has = c.in-Some.ensures.found in
    let_go c.args.names.now c.args.slots.now c.requires.laid c.args.claim.now c.in-Some.at d c.let_go.new.self (has.is d) has.in_range
    (ap waits c.let_go.ensures)

pub returns-in_default-clause-found : goal.returns-in_default-clause-found
returns-in_default-clause-found c =
    sym (ap (option_map (λ (h : Half). fits h c.args.is_first c.args.name.now))
    (none_found c.args.names.now c.args.slots.now c.args.claim.now c.in_default.ensures.absent))

pub returns-in_default-clause-left : goal.returns-in_default-clause-left
returns-in_default-clause-left c =
    nothing_removed (listed c.args.names.now c.args.slots.now) c.args.claim.now
    (none_found c.args.names.now c.args.slots.now c.args.claim.now c.in_default.ensures.absent)

pub returns-then-not-waits-clause-found : goal.returns-then-not-waits-clause-found
returns-then-not-waits-clause-found c =
    let names = c.args.names.now in
    let slots = c.args.slots.now in
    let at = c.in-Some.at in
    let d = c.index-slots-at.result in
    let half = half_in names (get_or slots at d) in
    sym (ap (option_map (λ (h : Half). fits h c.args.is_first c.args.name.now))
    (found_claim names slots c.requires.laid c.args.claim.now at d c.in-Some.ensures.found ∙ ap (λ b. cond b (Some half) None) (sym c.waits.ensures
    ∙ c.if-not-waits.true)))

pub returns-then-not-waits-clause-left : goal.returns-then-not-waits-clause-left
returns-then-not-waits-clause-left c =
    let names = c.args.names.now in
    let slots = c.args.slots.now in
    let at = c.in-Some.at in
    let d = c.index-slots-at.result in
    let half = half_in names (get_or slots at d) in
    nothing_removed (listed names slots) c.args.claim.now
    (found_claim names slots c.requires.laid c.args.claim.now at d c.in-Some.ensures.found ∙ ap (λ b. cond b (Some half) None) (sym c.waits.ensures
    ∙ c.if-not-waits.true))
