use Rattle.std.proofs.Common.{◌<◌, ℕ, sym, arith, length-take}
use Rattle.std.proofs.lemmas.List.Elements.{All-take}
use Rattle.btr_pool.specs.Slots.{bytes_at}
use Rattle.btr_read.specs.Candidates.{size_of}
use Rattle.btr_read.proofs.Slots.{readable}
use Rattle.btr_read.proofs.gathering.read_part.Goals as goal

pub read_into-requires-clause-open : goal.read_into-requires-clause-open
read_into-requires-clause-open g c = let r = readable _ c.args.search.now c.args.part c.in-Some.range c.requires.open (sym c.in-Some.ensures) in r.slot

pub read_into-requires-clause-within : goal.read_into-requires-clause-within
read_into-requires-clause-within g c = let r = readable _ c.args.search.now c.args.part c.in-Some.range c.requires.open (sym c.in-Some.ensures) in r.within

pub returns-in-Ok-clause-slice : goal.returns-in-Ok-clause-slice
returns-in-Ok-clause-slice g c =
    let n : ℕ = size_of c.args.search.now in
    let xs = bytes_at c.read_into.new.pool c.args.loan.now in
    record {
      long = omega (arith, length-take n xs, c.in-Ok.ensures.long, c.requires.fits);
      bytes = All-take (λ b. b < 256) n xs c.in-Ok.ensures.small;
    }
