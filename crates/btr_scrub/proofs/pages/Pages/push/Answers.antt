use Rattle.std.proofs.Common.{◌≡◌, ◌≤◌, ◌∷◌, ◌++◌, [], length, OnOk, subst, sym, ap, ◌∙◌, arith}
use Rattle.std.proofs.lemmas.Result.{on_ok_weaker}
use Rattle.btr_scrub.proofs.Common.{items_in}
use Rattle.btr_scrub.proofs.Paging.{one_more, pushed}
use Rattle.btr_scrub.proofs.pages.Pages.push.Goals as goal

pub invariant_of-self-2 : goal.invariant_of-self-2
invariant_of-self-2 g c = (
  c.make_room.ensures.full,
  one_more c.make_room.new.full.items c.make_room.new.last.items c.grow.new.items.items c.args.item c.grow.result c.self.inside.len
      (subst (λ xs. length xs ≤ c.self.inside.len) (sym c.in_ok-make_room.ensures.same) c.self.invariant.1) c.grow.ensures.grown c.grow.ensures.refused,
  omega (arith, c.if-self-ge-LIMIT.false, c.self.invariant.2),
)

pub returns : goal.returns
returns g c = subst (λ xs. OnOk c.grow.result (items_in c.make_room.new.full.items c.grow.new.items.items ≡ xs ++ c.args.item ∷ [])) c.self.view_is
    (on_ok_weaker c.grow.result (λ e. ap (items_in c.make_room.new.full.items) e
    ∙ pushed c.make_room.new.full.items c.make_room.new.last.items (c.args.item ∷ []) ∙ ap (λ xs. xs ++ c.args.item ∷ []) c.in_ok-make_room.ensures.same)
    c.grow.ensures.grown)
