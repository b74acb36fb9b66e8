use Rattle.std.proofs.Common.{ℕ, subst, arith, ◌≡◌}
use Rattle.btr_scrub.proofs.Common.{Lists, Super, scene, tree_behind}
use Rattle.btr_files.specs.Aheads.{kept_sum}
use Rattle.btr_scrub.specs.Gathering.{GathersSome, sectors_met}
use Rattle.btr_scrub.proofs.Gathering.{gathers_none}
use Rattle.btr_scrub.proofs.KeptSums.{gathers_kept, some_behind}
use Rattle.btr_scrub.proofs.OneSector.{sector_fault, sector_memory}
use Rattle.btr_scrub.proofs.sectors.gather_some.Goals as goal

pub returns-in-Err : goal.returns-in-Err
returns-in-Err g c =
    sector_fault c.args.vol.now.sup (tree_behind c.args.sums) c.args.addr (g.R.Rack.seen c.args.rack.now) (g.R.Rack.seen c.sum_ahead.new.rack)
    c.args.vol.now c.sum_ahead.new.vol c.args.gathered.now c.in-Err.ensures.serves c.in-Err.ensures.reads c.in-Err.ensures.volume c.in-Err.fault
    c.in-Err.ensures.cause c.in-Err.ensures.content

pub returns-in_default-gather_kept : goal.returns-in_default-gather_kept
returns-in_default-gather_kept g c =
    sector_memory c.args.vol.now.sup (tree_behind c.args.sums) c.args.addr (g.R.Rack.seen c.args.rack.now) (g.R.Rack.seen c.sum_ahead.new.rack)
    c.args.vol.now c.sum_ahead.new.vol c.args.gathered.now c.sum_ahead.ensures.serves c.sum_ahead.ensures.reads c.sum_ahead.ensures.volume _
    c.gather_kept.new.gathered c.requires.is_list c.sum_ahead.ensures.ahead

pub returns-then-count-gt0 : goal.returns-then-count-gt0
returns-then-count-gt0 g c = (
  omega (arith, c.if-count-gt0.true),
  c.in-Ok.ensures.few,
  gathers_kept c.args.vol.now.sup (tree_behind c.args.sums) c.args.addr c.args.most c.in-Ok.count (g.R.Rack.seen c.args.rack.now)
      (g.R.Rack.seen c.sum_ahead.new.rack) c.args.vol.now c.sum_ahead.new.vol c.args.gathered.now c.gather_kept.new.gathered c.new-ahead.result
      c.sum_ahead.new.ahead c.sum_ahead.ensures.serves c.sum_ahead.ensures.reads c.sum_ahead.ensures.volume c.requires.kind c.new-ahead.ensures
      c.sum_ahead.ensures.ahead c.in-Ok.ensures,
)

pub returns : goal.returns
returns g c =
    let s = c.args.vol.now.sup in
    let sums = tree_behind c.args.sums in
    let old = g.R.Rack.seen c.args.rack.now in
    let new = g.R.Rack.seen c.sum_ahead.new.rack in
    let x = c.args.gathered.now in
    let y = c.gather_kept.new.gathered in
    let mid = scene new c.sum_ahead.new.vol y in
    let last = scene (g.R.Rack.seen c.gather_next.new.rack) c.gather_next.new.vol c.gather_next.new.gathered in
    let none : c.in-Ok.count ≡ 0 = omega (arith, c.if-count-gt0.false) in
    some_behind s sums c.args.addr c.args.most (scene old c.args.vol.now x) mid last c.gather_next.result
    (gathers_none _ old new c.args.vol.now c.sum_ahead.new.vol x y
    (subst (λ (n : ℕ). Lists x y (sectors_met (kept_sum c.sum_ahead.new.ahead) n c.args.addr)) none c.in-Ok.ensures.lists)
    c.sum_ahead.ensures.serves c.sum_ahead.ensures.reads c.sum_ahead.ensures.volume c.sum_ahead.ensures.ahead)
    (subst (λ (t : Super). GathersSome t sums c.args.addr c.args.most mid last c.gather_next.result) c.sum_ahead.ensures.volume.sup c.gather_next.ensures)
