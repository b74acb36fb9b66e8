use Rattle.std.proofs.Common.{sym}
use Rattle.btr_read.proofs.Slots.{with_own_bytes, readable}
use Rattle.btr_rack.proofs.Reading.{reads_none}
use Rattle.btr_read.proofs.trying.try_part.Goals as goal

pub returns-in_default-clause-kept : goal.returns-in_default-clause-kept
returns-in_default-clause-kept g c = with_own_bytes c.args.pool.now c.args.loan.now

pub read_into-requires-clause-open : goal.read_into-requires-clause-open
read_into-requires-clause-open g c = let r = readable _ c.args.search.now c.args.part c.in-Some.range c.requires.open (sym c.in-Some.ensures) in r.slot

pub read_into-requires-clause-within : goal.read_into-requires-clause-within
read_into-requires-clause-within g c = let r = readable _ c.args.search.now c.args.part c.in-Some.range c.requires.open (sym c.in-Some.ensures) in r.within

pub returns-in_default-clause-reads : goal.returns-in_default-clause-reads
returns-in_default-clause-reads g c = reads_none (g.R.Rack.seen c.args.rack.now)
