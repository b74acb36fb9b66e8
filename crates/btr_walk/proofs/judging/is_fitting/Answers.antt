use Rattle.std.proofs.Common.{◌≡◌, ℕ, suc, ◌-◌, length, sym, ◌∙◌, arith}
use Rattle.btr_node.specs.Block.{level_of}
use Rattle.btr_walk.proofs.Fitting.{judged_leaf, judged_inner, judged_empty, not_some, inner_long}
use Rattle.btr_walk.proofs.judging.is_fitting.Goals as goal

pub key-requires-in-Inner : goal.key-requires-in-Inner
key-requires-in-Inner c =
    inner_long c.args.block.now c.in-Inner.inner c.in-Inner.ensures.good

pub returns-then-count-eq0 : goal.returns-then-count-eq0
returns-then-count-eq0 c =
    let level : level_of c.args.block.now ≡ c.args.level = grind (arith, c.level.ensures, c.if-level.false) in
    not_some c.is_none.result c.args.pointer.now.first (sym c.is_none.ensures)
    ∙ judged_empty c.args.level c.args.pointer.now c.args.block.now c.in-Leaf.leaf level c.in-Leaf.ensures.answer
    (sym c.count-count.ensures.all ∙ c.if-count-eq0.true)

pub returns-else-count-eq0 : goal.returns-else-count-eq0
returns-else-count-eq0 c =
    let level : level_of c.args.block.now ≡ c.args.level = grind (arith, c.level.ensures, c.if-level.false) in
    let n : ℕ = c.count-count.result - 1 in
    let len : length c.in-Leaf.leaf ≡ suc n = omega (arith, c.count-count.ensures.all, c.if-count-eq0.false) in
    c.fits_ends.ensures ∙ judged_leaf c.args.level c.args.pointer.now c.args.block.now c.in-Leaf.leaf _ _ n level c.in-Leaf.ensures.answer
    c.in-Leaf.ensures.good len c.key.ensures c.key-in-Leaf.ensures

pub returns-in-Inner : goal.returns-in-Inner
returns-in-Inner c =
    let level : level_of c.args.block.now ≡ c.args.level = grind (arith, c.level.ensures, c.if-level.false) in
    let n : ℕ = c.count.result - 1 in
    let len : length c.in-Inner.inner ≡ suc n = omega (arith, c.count.ensures.all, c.count.ensures.some) in
    c.fits_ends-in-Inner.ensures ∙ judged_inner c.args.level c.args.pointer.now c.args.block.now c.in-Inner.inner _ _ n level c.in-Inner.ensures.answer
    c.in-Inner.ensures.good len c.key-in-Inner.ensures c.key-in-Inner-2.ensures
