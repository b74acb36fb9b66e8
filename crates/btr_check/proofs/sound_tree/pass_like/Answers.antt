use Rattle.std.proofs.Common.{sym, ◌∙◌}
use Rattle.btr_check.proofs.SoundTrees.{children_some, passes_at}
use Rattle.btr_check.proofs.sound_tree.pass_like.Goals as goal

pub returns-then-is_like : goal.returns-then-is_like
returns-then-is_like c = λ fs found kept below.
    let rooted = c.args.rooted.now in
    let one = c.one-item.result in
    passes_at fs c.args.sound.now c.loop-one.one-index one rooted found c.args.subvolumes.now c.loop-one.subvolumes c.take_kept.new.self
    c.loop-one-test.true (sym c.one-item.is) (c.is_like.ensures c.if-is_like.true)
    (children_some c.as_slice-children.result.now rooted.children.items c.as_slice-children.ensures.value (sym c.is_empty.ensures ∙ c.if-is_empty.false))
    c.in_ok-take_kept.ensures c.loop-one.invariant kept below
