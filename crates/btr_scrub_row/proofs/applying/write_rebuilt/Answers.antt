use Rattle.btr_scrub_row.proofs.Common.{IsOfRow, does_nothing, flat_map, mending_writes, telling}
use Rattle.btr_scrub_row.proofs.Applied.{no_writes, tells_blocks}
use Rattle.btr_scrub_row.proofs.Wrote.{does_told}
use Rattle.btr_scrub_row.proofs.applying.write_rebuilt.Goals as goal

pub returns-then-judged-eq0-clause-writes : goal.returns-then-judged-eq0-clause-writes
returns-then-judged-eq0-clause-writes g c told row wanted tells =
    let layout = c.args.store.now.layout in
    does_told (λ images. flat_map (mending_writes images row.failing) row.blocks) told
    (λ images is. no_writes images layout row c.args.judged.now c.args.buffer.now (telling _ _ tells.known images is) c.if-judged-eq0.true)
    tells.untold (does_nothing (IsOfRow layout row) _ _)

pub returns-clause-writes : goal.returns-clause-writes
returns-clause-writes g c told row wanted tells =
    let held = (g.R.Rack.seen c.args.rack.now).held in
    let blocks = tells_blocks c.args.store.now.layout row c.args.judged.now c.args.buffer.now told held c.deref.result.now tells c.deref.ensures.value in
    c.write_blocks.ensures.writes told row wanted blocks

pub returns-clause-prepared : goal.returns-clause-prepared
returns-clause-prepared g c = λ images row is. record { holds = is.holds; blocks = is.blocks; p = is.p; q = is.q }
