use Rattle.std.proofs.Common.{◌≡◌, length, take, arith, rules, length-take}
use Rattle.btr_scrub_row.proofs.Common.{IsOfRow, does_nothing, mending_writes, telling}
use Rattle.btr_scrub_row.proofs.BlockWrites.{in_the_row, written, writes_it}
use Rattle.btr_scrub_row.proofs.Held.{held, is_block, lies_at, piece_is}
use Rattle.btr_scrub_row.proofs.Settled.{writes_not}
use Rattle.btr_scrub_row.proofs.Wrote.{does_told}
use Rattle.btr_scrub_row.proofs.blocks.write_block.Goals as goal

pub settle-settled-requires-clause-piece : goal.settle-settled-requires-clause-piece
settle-settled-requires-clause-piece g c =
    piece_is c.args.view.now c.requires.view c.args.want.now c.requires.within c.piece_of-piece.result c.piece_of-piece.ensures

pub write_front-requires-clause-can : goal.write_front-requires-clause-can
write_front-requires-clause-can g c =
    let w = c.requires.within in
    written (is_block w w.of w.is_sought c.piece_of-piece.ensures) c.place_of_part-element.result (c.place_of_part-element.ensures w.row w.of) c.requires.can

pub returns-then-settled-clause-writes : goal.returns-then-settled-clause-writes
returns-then-settled-clause-writes g c told row t of knows tells e =
    let b = is_block c.requires.within of e c.piece_of-piece.ensures in
    does_told (λ images. mending_writes images row.failing t) told
    (λ images is. writes_not images row t c.settle-settled.new.block c.settle-settled.result (c.settle-settled.ensures images row t e (lies_at b) knows
    (held b images c.args.view.now.old.now (telling _ _ tells.known images is))) (search rules))
    tells.untold (does_nothing (IsOfRow c.args.view.now.store.now.layout row) _ _)

pub returns-clause-writes : goal.returns-clause-writes
returns-clause-writes g c told row t of knows tells e =
    let layout = c.args.view.now.store.now.layout in
    let piece = c.piece_of-piece.result in
    let b = is_block c.requires.within of e c.piece_of-piece.ensures in
    let element = c.place_of_part-element.result in
    let there = c.place_of_part-element.ensures row of in
    let block = c.settle-settled.new.block in
    let long : length (take piece.len block) ≡ piece.len =
    omega (arith, length-take piece.len block, c.settle-settled.auto.block, c.requires.block, b.placed.len, b.placed.inside) in
    does_told (λ images. mending_writes images row.failing t) told
    (λ images is. writes_it b element there images block c.settle-settled.result
    (omega (arith, c.settle-settled.auto.block, c.requires.block, b.placed.inside))
    (c.settle-settled.ensures images row t e (lies_at b) knows
    (held b images c.args.view.now.old.now (telling _ _ tells.known images is))) (search rules))
    tells.untold (c.write_front.ensures.writes layout row (in_the_row b element there (length (take piece.len block)) long))
