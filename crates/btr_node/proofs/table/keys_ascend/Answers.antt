use Rattle.std.proofs.Common.{◌≡◌, ◌+◌, ◌-◌, ◌≤◌, sym, ◌∙◌, ap, arith}
use Rattle.std.proofs.lemmas.Bool.{ltb-false}
use Rattle.btr_base.specs.Key.{key_number}
use Rattle.btr_node.specs.Block.{entry_key}
use Rattle.btr_node.proofs.Tables.{ascends-all, ascends-not}
use Rattle.btr_node.proofs.table.keys_ascend.Goals as goal

pub returns-then-not-is_before : goal.returns-then-not-is_before
returns-then-not-is_before c =
    let f = entry_key c.args.size c.args.block.now in
    let i : c.loop-i.i ≡ c.loop-i.i - 1 + 1 = omega arith in
    let next : c.entry_key-in-loop-i.result ≡ f (c.loop-i.i - 1 + 1) = c.entry_key-in-loop-i.ensures ∙ ap f i in
    let order : key_number c.entry_key-in-loop-i.result ≤ key_number c.entry_key.result = ltb-false _ _ (sym c.is_before.ensures ∙ c.if-not-is_before.true) in
    sym (ascends-not f 0 c.args.count (c.loop-i.i - 1) (omega arith) (omega arith) (rw (← next, ← c.entry_key.ensures) order))

pub returns : goal.returns
returns c = sym (ascends-all (entry_key c.args.size c.args.block.now) 0 c.args.count (λ k low high. c.loop-i.invariant k (omega arith)))
