use Rattle.std.proofs.Common.{arith, rules, Fits, w8}
use Rattle.std.specs.Simd.Lanes.{Each1}
use Rattle.btr_parity.proofs.Halves.{low_within, high_within, scaled_by_halves}
use Rattle.btr_parity.proofs.multiples.Multiples.times.Goals as goal

pub swizzle-low : goal.swizzle-low
swizzle-low c =
    let fits : Each1 (Fits w8) c.args.bytes = search rules in
    low_within c.args.bytes (omega arith) fits

pub swizzle-high : goal.swizzle-high
swizzle-high c =
    let fits : Each1 (Fits w8) c.args.bytes = search rules in
    high_within c.args.bytes (omega arith) fits

pub returns : goal.returns
returns c =
    let fits : Each1 (Fits w8) c.args.bytes = search rules in
    let table = c.args.self.now in
    scaled_by_halves c.args.bytes (omega arith) fits table.factor table.low table.high table.low_halves table.high_halves
