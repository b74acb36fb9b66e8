use Rattle.std.proofs.Common.{◌≡◌, ◌==◌, ◌&&◌, length, sym, ap, ◌∙◌, arith}
use Rattle.std.proofs.lemmas.Bool.Decides.{nat_tests}
use Rattle.std.specs.FinMap.{len}
use Rattle.btr_check_names.proofs.Joining.{none_joined}
use Rattle.btr_check_names.proofs.waiting.Waiting.is_empty.Goals as goal

pub returns-then-is_empty : goal.returns-then-is_empty
returns-then-is_empty c =
    let map = c.self.inside.others.entries in
    let no_map : c.is_empty-then-is_empty.result ≡ (length map == 0) = grind (arith, nat_tests, c.is_empty-then-is_empty.ensures) in
    no_map ∙ ap (λ b. b && (length map == 0)) (sym (sym c.is_empty.ensures ∙ c.if-is_empty.true))
    ∙ sym (none_joined c.self.inside.ascending map) ∙ ap (λ m. len m == 0) c.self.view_is

pub returns-else-is_empty : goal.returns-else-is_empty
returns-else-is_empty c =
    let map = c.self.inside.others.entries in
    c.if-is_empty.false ∙ ap (λ b. b && (length map == 0)) (sym (sym c.is_empty.ensures ∙ c.if-is_empty.false))
    ∙ sym (none_joined c.self.inside.ascending map) ∙ ap (λ m. len m == 0) c.self.view_is
