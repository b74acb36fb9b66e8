use Rattle.std.proofs.Common.{sym, ◌∙◌, ap, subst}
use Rattle.btr_tour.specs.Visits.{Takes}
use Rattle.btr_check.specs.Walking.{RootSeen, or_first, root_step}
use Rattle.btr_check.proofs.Roots.{item_taken}
use Rattle.btr_check.proofs.root_walk.RootWalkVisitorMemory.meet.Goals as goal

pub returns-in_ok-broken_in-in-Item : goal.returns-in_ok-broken_in-in-Item
returns-in_ok-broken_in-in-Item c =
    let old : RootSeen = record { kind = c.self.inside.kind; wrong = c.self.inside.wrong; trees = c.self.inside.trees.items } in
    let new : RootSeen = record { kind = c.self.inside.kind; wrong = c.note-in-Item.new.wrong; trees = c.list_tree.new.trees.items } in
    subst (λ s. Takes root_step s c.args.met.now new c.list_tree.result) c.self.view_is
    (subst (λ m. Takes root_step old m new c.list_tree.result) (sym c.in-Item.is)
    (item_taken old c.in-Item.found c.note-in-Item.new.wrong c.list_tree.new.trees.items c.list_tree.result
    (c.note-in-Item.ensures ∙ ap (or_first c.self.inside.wrong) c.in_ok-broken_in-in-Item.ensures) c.list_tree.ensures))
