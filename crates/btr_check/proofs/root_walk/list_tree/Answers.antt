use Rattle.std.proofs.Common.{◌++◌, sym, ap, ◌∙◌, append-nil}
use Rattle.std.specs.Option.{option_to_list}
use Rattle.btr_check.proofs.root_walk.list_tree.Goals as goal

pub returns-in_default : goal.returns-in_default
returns-in_default c =
    let items = c.args.trees.now.items in
    sym (ap (λ o. items ++ option_to_list o) (sym c.tree_in.ensures ∙ c.in_default.is) ∙ append-nil items)

pub returns-in-Ok : goal.returns-in-Ok
returns-in-Ok c = c.in-Ok.ensures.items ∙ sym (ap (λ o. c.args.trees.now.items ++ option_to_list o) (sym c.tree_in.ensures ∙ c.in-Some.is))
