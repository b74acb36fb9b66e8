use Rattle.std.proofs.Common.{not, ap, ◌∙◌}
use Rattle.btr_check.proofs.SoundTrees.{nothing_listed}
use Rattle.btr_check.proofs.file_trees.is_nothing.Goals as goal

pub returns : goal.returns
returns c = λ all just none.
    nothing_listed all c.in_ok-list.list c.next.new.self c.next.result (c.in_ok-list.ensures all just) c.next.ensures
    (ap not (c.is_none.ensures ∙ ap not none))
