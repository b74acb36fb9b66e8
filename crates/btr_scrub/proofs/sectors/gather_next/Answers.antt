use Rattle.std.proofs.Common.{ℕ, ◌≤◌, Ok, sym, subst, refl, arith}
use Rattle.btr_scrub.proofs.Common.{AddsTo, Gathered, Gathers, Looks, Sector, SumKind, Tells, kind_in, scene, sectors, stored_sum, sum_at, tree_behind}
use Rattle.btr_files.specs.Gaps.{IsGap, first_sum}
use Rattle.btr_files.specs.declared.summed.Summed.{Summed}
use Rattle.btr_scrub.proofs.Gaps.{gathers_gap, gathers_one}
use Rattle.btr_scrub.proofs.OneSector.{gathers_sector, sector_fault, sector_memory}
use Rattle.btr_scrub.proofs.sectors.gather_next.Goals as goal

pub returns-in-Err : goal.returns-in-Err
returns-in-Err g c =
    sector_fault c.args.vol.now.sup (tree_behind c.args.sums) c.args.addr (g.R.Rack.seen c.args.rack.now) (g.R.Rack.seen c.sums_from.new.rack)
    c.args.vol.now c.sums_from.new.vol c.args.gathered.now c.in-Err.ensures.serves c.in-Err.ensures.reads c.in-Err.ensures.volume c.in-Err.fault
    c.in-Err.ensures.cause c.in-Err.ensures.content

pub returns-in-Ok : goal.returns-in-Ok
returns-in-Ok g c =
    let s = c.args.vol.now.sup in
    let sums = tree_behind c.args.sums in
    let old = g.R.Rack.seen c.args.rack.now in
    let new = g.R.Rack.seen c.sums_from.new.rack in
    let x = c.args.gathered.now in
    let y : Gathered = record { list = c.push_sector.new.self; unchecked = x.unchecked } in
    let sum = c.in-Ok-Sum.sum in (
      omega arith,
      c.requires.some,
      gathers_one s sums c.args.addr (scene old c.args.vol.now x) (scene new c.sums_from.new.vol y)
          (gathers_sector s sums c.args.addr old new c.args.vol.now c.sums_from.new.vol x y sum c.in-Ok.ensures.long c.in-Ok-Sum.ensures.serves
          c.in-Ok-Sum.ensures.reads c.in-Ok-Sum.ensures.volume
          (subst (λ (r : Summed). Looks c.args.vol.now.store.layout old new (sum_at (kind_in s) sums c.args.addr) (first_sum (Ok r)))
          c.in-Ok-Sum.field-0-is c.in-Ok-Sum.ensures.content)
          (subst (λ (k : SumKind). AddsTo x.list y.list (Sector c.args.addr (stored_sum k sum.bytes))) c.requires.kind c.in-Ok.ensures.added) refl),
    )

pub returns-in-Err-push_sector : goal.returns-in-Err-push_sector
returns-in-Err-push_sector g c =
    let x = c.args.gathered.now in
    sector_memory c.args.vol.now.sup (tree_behind c.args.sums) c.args.addr (g.R.Rack.seen c.args.rack.now) (g.R.Rack.seen c.sums_from.new.rack)
    c.args.vol.now c.sums_from.new.vol x c.in-Ok-Sum.ensures.serves c.in-Ok-Sum.ensures.reads c.in-Ok-Sum.ensures.volume _
    (record { list = c.push_sector.new.self; unchecked = x.unchecked }) c.requires.is_list c.in-Ok-Sum.ensures.gap

pub returns-in-Ok-gather_gap : goal.returns-in-Ok-gather_gap
returns-in-Ok-gather_gap g c =
    let s = c.args.vol.now.sup in
    let sums = tree_behind c.args.sums in
    let old = g.R.Rack.seen c.args.rack.now in
    let new = g.R.Rack.seen c.sums_from.new.rack in
    let x = c.args.gathered.now in
    let y = c.gather_gap.new.gathered in
    let count = c.part_of-count.result in
    let some : 1 ≤ c.from.result = omega (arith, c.from.ensures, c.part_of-count.ensures.some) in
    let few : c.from.result ≤ c.args.most = omega (arith, c.from.ensures, c.part_of-count.ensures.most) in
    let told = subst (λ (r : Summed). Tells c.args.vol.now.store.layout old new (λ B. IsGap (kind_in s) B sums c.args.addr (Ok r)))
    c.in-Ok-Gap.field-0-is c.in-Ok-Gap.ensures.gap in (
      some,
      few,
      subst (λ (n : ℕ). Gathers (sectors s sums n c.args.addr) (scene old c.args.vol.now x) (scene new c.sums_from.new.vol y) (Ok tt)) (sym c.from.ensures)
          (gathers_gap s sums c.args.addr count c.in-Ok-Gap.len old new c.args.vol.now c.sums_from.new.vol x y c.part_of-count.ensures.len
          c.in-Ok-Gap.ensures.serves c.in-Ok-Gap.ensures.reads c.in-Ok-Gap.ensures.volume told c.in-Ok-gather_gap.ensures),
    )

pub returns-in-Err-gather_gap : goal.returns-in-Err-gather_gap
returns-in-Err-gather_gap g c =
    sector_memory c.args.vol.now.sup (tree_behind c.args.sums) c.args.addr (g.R.Rack.seen c.args.rack.now) (g.R.Rack.seen c.sums_from.new.rack)
    c.args.vol.now c.sums_from.new.vol c.args.gathered.now c.in-Ok-Gap.ensures.serves c.in-Ok-Gap.ensures.reads c.in-Ok-Gap.ensures.volume _
    c.gather_gap.new.gathered c.requires.is_list c.in-Ok-Gap.ensures.gap
