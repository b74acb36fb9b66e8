use Rattle.std.proofs.Common.{◌≡◌, ℕ, ◌<◌, length, ap, ◌∙◌, subst, arith}
use Rattle.btr_node.specs.Block.{pointers}
use Rattle.btr_walk.specs.Again.{IsNextBelow}
use Rattle.btr_walk.proofs.Preorders.{enters_leaf, enters_node}
use Rattle.btr_walk.proofs.Ranking.{fits_first, near_leaf, near_inner}
use Rattle.btr_walk.proofs.Ways.{leaf_at, inner_at}
use Rattle.btr_walk.proofs.preorder.behind.Goals as goal

pub returns-then-todo-eq0-clause-rank_falls : goal.returns-then-todo-eq0-clause-rank_falls
returns-then-todo-eq0-clause-rank_falls c = near_leaf c.args.ahead.now.path c.args.ahead.now.todo c.requires.shaped

pub returns-then-todo-eq0-clause-behind : goal.returns-then-todo-eq0-clause-behind
returns-then-todo-eq0-clause-behind c = λ B seen e on.
    let ahead = c.args.ahead.now in
    enters_leaf B ahead c.args.block.now seen (leaf_at ahead.todo.level ahead.todo.pointer c.args.block.now c.requires.good c.if-todo-eq0.true) e on

pub of-requires-clause-good : goal.of-requires-clause-good
of-requires-clause-good c =
    let ahead = c.args.ahead.now in
    (inner_at ahead.todo.level ahead.todo.pointer c.args.block.now c.requires.good c.if-todo-eq0.false).good

pub first_of-below-requires-clause-good : goal.first_of-below-requires-clause-good
first_of-below-requires-clause-good c =
    let ahead = c.args.ahead.now in
    (inner_at ahead.todo.level ahead.todo.pointer c.args.block.now c.requires.good c.if-todo-eq0.false).good

pub set_frame-requires : goal.set_frame-requires
set_frame-requires c =
    let ahead = c.args.ahead.now in
    let inner = inner_at ahead.todo.level ahead.todo.pointer c.args.block.now c.requires.good c.if-todo-eq0.false in
    let some = inner.some in
    let few = inner.few in
    omega (arith, some, few)

pub returns-clause-rank_falls : goal.returns-clause-rank_falls
returns-clause-rank_falls c =
    let ahead = c.args.ahead.now in
    let b = c.first_of-below.result in
    let inner = inner_at ahead.todo.level ahead.todo.pointer c.args.block.now c.requires.good c.if-todo-eq0.false in
    near_inner ahead.path c.set_frame.new.path ahead.todo b
    (fits_first _ ahead.todo _ b inner.some inner.few (omega (arith, c.count.ensures.small)) c.first_of-below.ensures) c.set_frame.ensures.set c.requires.shaped

pub returns-clause-behind : goal.returns-clause-behind
returns-clause-behind c = λ B seen e on.
    let ahead = c.args.ahead.now in
    let inner = inner_at ahead.todo.level ahead.todo.pointer c.args.block.now c.requires.good c.if-todo-eq0.false in
    let count : c.count.result ≡ length (pointers c.args.block.now) = c.count.ensures.all ∙ ap length c.of.ensures in
    let b = c.first_of-below.result in
    let more : 0 < length (pointers c.args.block.now) = omega (arith, count, c.count.ensures.some) in
    enters_node B ahead c.args.block.now seen b c.set_frame.new.path c.requires.shaped.long inner more c.set_frame.ensures.set
    (subst (λ (n : ℕ). IsNextBelow (pointers c.args.block.now) ahead.todo.level (record { pointer = ahead.todo.pointer; next = 0; end = n }) b.frame b.todo)
    count (c.first_of-below.ensures.some c.count.ensures.some)) e on
