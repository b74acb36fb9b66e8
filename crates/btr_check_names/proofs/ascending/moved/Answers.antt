use Rattle.std.proofs.Common.{◌≡◌, All, length, take, drop, get_or, ap, subst, arith}
use Rattle.std.proofs.lemmas.List.{length-append, length-set, length-take-le, length-drop}
use Rattle.btr_check_names.specs.Slots.{IsInside, listed}
use Rattle.btr_check_names.proofs.Slotted.{all_moved, claims_more, inside_at, inside_more, moved_more, rest_more}
use Rattle.btr_check_names.proofs.ascending.moved.Goals as goal

pub move_name-requires-clause-inside : goal.move_name-requires-clause-inside
move_name-requires-clause-inside c =
    inside_at c.args.names.now c.args.slots.now c.loop-next.slots c.loop-next.next c.index-slots-next.result c.loop-next.invariant.claims
    c.loop-next.invariant.rest
    c.loop-next-test.true c.requires.inside

pub loop-next-preserved : goal.loop-next-preserved
loop-next-preserved c =
    let names = c.args.names.now in
    let kept = c.loop-next.kept.items in
    let old = c.args.slots.now in
    let slots = c.loop-next.slots in
    let i = c.loop-next.next in
    let d = c.index-slots-next.result in
    let slot = c.move_name.new.slot in
    let held = c.loop-next.invariant in
    let inside = inside_at names old slots i d held.claims held.rest c.loop-next-test.true c.requires.inside in
    let moved = c.in_ok-move_name.ensures.slot in
    let grown = c.in_ok-move_name.ensures.kept in
    record {
      claims = claims_more names kept old slots i d slot c.loop-next-test.true held.rest inside moved held.claims;
      rest = rest_more names kept old slots i d slot c.loop-next-test.true held.rest inside moved;
      same = rw grown (moved_more names kept old slots i d slot c.loop-next-test.true held.rest inside moved (listed names old) held.same held.inside);
      inside = rw grown (inside_more names kept old slots i d slot c.loop-next-test.true held.rest inside moved held.inside);
      short = omega (
        arith,
        ap length grown,
        length-append kept (take (get_or slots i d).len (drop
            (get_or slots i d).at names)),
        c.in_ok-move_name.ensures.short,
        held.short,
        length-take-le (get_or slots i d).len (drop (get_or slots i d).at names)
            (omega (arith, inside, length-drop (get_or slots i d).at names)),
      );
      within = omega (arith, c.loop-next-test.true, length-set slots i slot);
    }

pub returns-clause-laid : goal.returns-clause-laid
returns-clause-laid c =
    let held = c.loop-next.invariant in
    let slots = c.loop-next.slots in
    let all : c.loop-next.next ≡ length slots = omega (arith, held.within, c.loop-next-test.false) in
    all_moved c.args.names.now c.loop-next.kept.items c.args.slots.now slots held.claims c.requires.ascends
    (subst (λ n. All (IsInside c.loop-next.kept.items) (take n slots)) all held.inside) (omega (arith, held.short, all)) c.requires.few
