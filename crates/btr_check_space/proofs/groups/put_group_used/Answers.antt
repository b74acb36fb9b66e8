use Rattle.std.proofs.Common.{◌≡◌, ℕ, ◌+◌, ◌-◌, ◌∷◌, [], eqb, get_or, List, sym, ap, subst, ◌∙◌}
use Rattle.std.specs.List.{Contains}
use Rattle.btr_findings.specs.declared.kind.Kind.TheVariants as kind
use Rattle.btr_findings.specs.Findings.{unless, found, shown_sum}
use Rattle.btr_check_space.specs.Bounds.{AreSums, before}
use Rattle.btr_check_space.specs.Groups.{group_used, used_in}
use Rattle.btr_check_space.specs.declared.group.Group.{Group}
use Rattle.btr_check_space.proofs.Between.{end_there, low_first, start_there, sums_at, used_is}
use Rattle.btr_check_space.proofs.Put.{adds_row, unless_same}
use Rattle.btr_check_space.proofs.groups.put_group_used.Goals as goal

abbrev nothing : Group
nothing = record { start = 0; len = 0; used = 0; flags = 0 }

pub sum_before-requires-clause-bound : goal.sum_before-requires-clause-bound
sum_before-requires-clause-bound c =
    let groups = c.args.groups.now in
    let i = c.loop-group.group-index in
    let group : Group = get_or groups i nothing in
    let bounds = c.in_ok-bounds.bounds.items in
    let end = c.from-start.result + c.from.result in
    let is : end ≡ group.start + group.len = ap (λ n. n + c.from.result) c.from-start.ensures ∙ ap (λ n. group.start + n) c.from.ensures in
    subst (λ (l : List ℕ). Contains l end) (sym c.deref-in-loop-group.ensures.value)
    (subst (Contains bounds) (sym is) (end_there groups bounds i nothing c.in_ok-bounds.ensures c.loop-group-test.true))

pub sum_before-requires-in-loop-group-clause-bound : goal.sum_before-requires-in-loop-group-clause-bound
sum_before-requires-in-loop-group-clause-bound c =
    let bounds = c.in_ok-bounds.bounds.items in
    subst (λ (l : List ℕ). Contains l c.from-start.result) (sym c.deref-in-loop-group-3.ensures.value)
    (subst (Contains bounds) (sym c.from-start.ensures)
    (start_there c.args.groups.now bounds c.loop-group.group-index nothing c.in_ok-bounds.ensures c.loop-group-test.true))

pub overflow_sub-used : goal.overflow_sub-used
overflow_sub-used c =
    let extents = c.args.extents.now in
    let group : Group = get_or c.args.groups.now c.loop-group.group-index nothing in
    let bounds = c.in_ok-bounds.bounds.items in
    let sums = c.in_ok-sums.sums.items in
    let are : AreSums extents bounds sums = subst (λ l. AreSums extents l sums) c.deref.ensures.value c.in_ok-sums.ensures in
    let ends = ap (λ n. n + c.from.result) c.from-start.ensures ∙ ap (λ n. group.start + n) c.from.ensures in
    low_first extents group c.sum_before.result c.sum_before-in-loop-group.result
    (c.sum_before.ensures extents (sums_at extents bounds sums _ _ c.deref-in-loop-group.ensures.value c.deref-in-loop-group-2.ensures.value are)
    ∙ ap (before extents) ends)
    (c.sum_before-in-loop-group.ensures extents
    (sums_at extents bounds sums _ _ c.deref-in-loop-group-3.ensures.value c.deref-in-loop-group-4.ensures.value are)
    ∙ ap (before extents) c.from-start.ensures)

pub loop-group-preserved : goal.loop-group-preserved
loop-group-preserved c =
    let extents = c.args.extents.now in
    let groups = c.args.groups.now in
    let i = c.loop-group.group-index in
    let group : Group = get_or groups i nothing in
    let bounds = c.in_ok-bounds.bounds.items in
    let sums = c.in_ok-sums.sums.items in
    let are : AreSums extents bounds sums = subst (λ l. AreSums extents l sums) c.deref.ensures.value c.in_ok-sums.ensures in
    let ends = ap (λ n. n + c.from.result) c.from-start.ensures ∙ ap (λ n. group.start + n) c.from.ensures in
    let used = c.sum_before.result - c.sum_before-in-loop-group.result in
    let sum : used ≡ used_in extents group = used_is extents group c.sum_before.result c.sum_before-in-loop-group.result
    (c.sum_before.ensures extents (sums_at extents bounds sums _ _ c.deref-in-loop-group.ensures.value c.deref-in-loop-group-2.ensures.value are)
    ∙ ap (before extents) ends)
    (c.sum_before-in-loop-group.ensures extents
    (sums_at extents bounds sums _ _ c.deref-in-loop-group-3.ensures.value c.deref-in-loop-group-4.ensures.value are)
    ∙ ap (before extents) c.from-start.ensures) in
    let row : c.new.result ≡ found kind.GroupUsed (group.start ∷ group.used ∷ shown_sum (used_in extents group) ∷ []) =
    c.new.ensures ∙ ap (λ n. found kind.GroupUsed (group.start ∷ group.used ∷ n ∷ [])) (c.shown.ensures ∙ ap shown_sum sum) in
    let tests : eqb c.from-in-loop-group.result used ≡ eqb group.used (used_in extents group) =
    ap (λ n. eqb n used) c.from-in-loop-group.ensures ∙ ap (eqb group.used) sum in
    adds_row (group_used extents) groups i nothing c.args.found.now c.loop-group.found c.put_unless.new.found
    (unless (eqb c.from-in-loop-group.result used) c.new.result) c.loop-group-test.true
    (unless_same (eqb c.from-in-loop-group.result used) (eqb group.used (used_in extents group)) c.new.result
    (found kind.GroupUsed (group.start ∷ group.used ∷ shown_sum (used_in extents group) ∷ [])) tests row)
    c.loop-group.invariant c.in_ok-put_unless.ensures
