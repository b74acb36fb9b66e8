use Rattle.std.proofs.Common.{ap, sym, subst, ◌∙◌}
use Rattle.std.specs.FinMap.{get, remove}
use Rattle.std.specs.Option.{option_map}
use Rattle.btr_check_names.specs.Pairs.{WaitOnce, Half, fits, joined}
use Rattle.btr_check_names.proofs.Joining.{apart_after, apart_empty, found_first, found_then, gone_from_list, had_one, let_go_of_both}
use Rattle.btr_check_names.proofs.waiting.Waiting.meet.Goals as goal

pub invariant_of-self : goal.invariant_of-self
invariant_of-self c = let map = c.self.inside.others.entries in subst (λ l. WaitOnce l map) (sym c.in_err-fit.ensures.err) (apart_empty map)

pub invariant_of-self-in-Some : goal.invariant_of-self-in-Some
invariant_of-self-in-Some c =
    let list = c.self.inside.ascending in
    let map = c.self.inside.others.entries in
    let k = c.args.claim.now in
    let had = had_one list k (λ (h : Half). fits h c.args.is_first c.args.name.now) c.in-Some.fit (sym c.in-Some.is ∙ c.in_ok-fit.ensures.found) in
    subst (λ l. WaitOnce l map) (sym c.in_ok-fit.ensures.left) (apart_after list map map k
    (gone_from_list list map k had.0 c.self.invariant had.1) c.self.invariant)

pub returns-in-Some-clause-found : goal.returns-in-Some-clause-found
returns-in-Some-clause-found c =
    let test = λ (h : Half). fits h c.args.is_first c.args.name.now in
    let k = c.args.claim.now in
    found_first c.self.inside.ascending c.self.inside.others.entries k test c.in-Some.fit (sym c.in-Some.is ∙ c.in_ok-fit.ensures.found)
    ∙ ap (λ m. option_map test (get m k)) c.self.view_is

pub returns-in-Some-clause-left : goal.returns-in-Some-clause-left
returns-in-Some-clause-left c =
    let list = c.self.inside.ascending in
    let map = c.self.inside.others.entries in
    let k = c.args.claim.now in
    let had = had_one list k (λ (h : Half). fits h c.args.is_first c.args.name.now) c.in-Some.fit (sym c.in-Some.is ∙ c.in_ok-fit.ensures.found) in
    ap (λ l. joined l map) c.in_ok-fit.ensures.left ∙ let_go_of_both list map map k (gone_from_list list map k had.0 c.self.invariant had.1)
    ∙ ap (λ m. remove m k) c.self.view_is

pub invariant_of-self-2 : goal.invariant_of-self-2
invariant_of-self-2 c =
    let new = c.meet_in_map.new.map.entries in
    subst (λ l. WaitOnce l new) (sym c.in_ok-fit.ensures.left)
    (apart_after c.self.inside.ascending c.self.inside.others.entries new c.args.claim.now c.meet_in_map.ensures.left c.self.invariant)

pub returns-clause-found : goal.returns-clause-found
returns-clause-found c =
    let test = λ (h : Half). fits h c.args.is_first c.args.name.now in
    let k = c.args.claim.now in
    found_then c.self.inside.ascending c.self.inside.others.entries k test c.meet_in_map.result (sym c.in_default.is
    ∙ c.in_ok-fit.ensures.found) c.meet_in_map.ensures.found
    ∙ ap (λ m. option_map test (get m k)) c.self.view_is

pub returns-clause-left : goal.returns-clause-left
returns-clause-left c =
    let new = c.meet_in_map.new.map.entries in
    ap (λ l. joined l new) c.in_ok-fit.ensures.left
    ∙ let_go_of_both c.self.inside.ascending c.self.inside.others.entries new c.args.claim.now c.meet_in_map.ensures.left
    ∙ ap (λ m. remove m c.args.claim.now) c.self.view_is
