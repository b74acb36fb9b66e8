use Rattle.std.proofs.Common.{◌+◌, ◌*◌, ◌∙◌, ap}
use Rattle.std.proofs.lemmas.List.{take_rest}
use Rattle.btr_base.specs.Key.{key_at}
use Rattle.btr_node.specs.Block.{entry_key}
use Rattle.btr_node.proofs.Tables.{key_at-drop}
use Rattle.btr_node.proofs.table.entry_key.Goals as goal

pub returns : goal.returns
unfolding entry_key
returns c =
    let at = 101 + c.args.size * c.args.i in
    c.read.ensures ∙ ap (key_at 0) (take_rest c.args.block.now at) ∙ key_at-drop at c.args.block.now
