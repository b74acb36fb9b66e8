use Rattle.std.proofs.Common.{◌+◌, ◌-◌, ◌*◌, ◌≤◌, Ok, Err, subst, arith}
use Rattle.btr_scrub.proofs.Common.{Gathers, HasPassed, Meeting, Super, bind, err_from_is_err_and, scene, sector, sectors, tree_behind}
use Rattle.btr_scrub.proofs.Gaps.{sectors_some}
use Rattle.btr_scrub.proofs.Gathering.{gathers_halt, reaches_ends, reaches_none, reaches_step}
use Rattle.btr_scrub.proofs.OneSector.{sectors_all, sectors_first}
use Rattle.btr_scrub.proofs.sectors.gather_sectors.Goals as goal

pub loop-done-init : goal.loop-done-init
loop-done-init g c =
    let s = c.args.vol.now.sup in
    let sums = tree_behind c.args.sums in
    let x = scene (g.R.Rack.seen c.args.rack.now) c.args.vol.now c.args.gathered.now in record {
      few = omega arith;
      reaches = subst (λ (q : Meeting (Unit {0})). HasPassed (sectors s sums c.args.count c.args.addr) q x x) (sectors_all s sums c.args.count c.args.addr)
          (reaches_none (sectors s sums c.args.count c.args.addr) x c.requires.is_list c.requires.serves);
    }

pub returns-in_err-done : goal.returns-in_err-done
returns-in_err-done g c =
    let s = c.args.vol.now.sup in
    let sums = tree_behind c.args.sums in
    let done = c.loop-done.done in
    let x = scene (g.R.Rack.seen c.args.rack.now) c.args.vol.now c.args.gathered.now in
    let y = scene (g.R.Rack.seen c.loop-done.rack) c.loop-done.vol c.loop-done.gathered in
    let z = scene (g.R.Rack.seen c.gather_some.new.rack) c.gather_some.new.vol c.gather_some.new.gathered in
    let here = sector s sums (c.args.addr + done * 4096) in
    let rest = λ (u : Unit {0}). sectors s sums (c.args.count - (done + 1)) (c.args.addr + (done + 1) * 4096) in
    let p = err_from_is_err_and c.from_residual.result c.from_residual.ensures.1 in
    rw (p.1, p.2) (reaches_ends (sectors s sums c.args.count c.args.addr) (bind here rest) x y z (Err c.in_err-done.field-0.0)
    (subst (λ (q : Meeting (Unit {0})). HasPassed (sectors s sums c.args.count c.args.addr) q x y)
    (sectors_first s sums c.args.count c.args.addr done c.loop-done-test.true) c.loop-done.invariant.reaches)
    (gathers_halt here rest y z c.in_err-done.field-0.0 (subst
    (λ (t : Super). Gathers (sector t sums (c.args.addr + done * 4096)) y z (Err c.in_err-done.field-0.0))
    c.loop-done.invariant.reaches.volume.sup c.in_err-done.ensures)))

pub loop-done-preserved : goal.loop-done-preserved
loop-done-preserved g c =
    let s = c.args.vol.now.sup in
    let sums = tree_behind c.args.sums in
    let done = c.loop-done.done in
    let more = c.in_ok-done.field-0 in
    let x = scene (g.R.Rack.seen c.args.rack.now) c.args.vol.now c.args.gathered.now in
    let y = scene (g.R.Rack.seen c.loop-done.rack) c.loop-done.vol c.loop-done.gathered in
    let z = scene (g.R.Rack.seen c.gather_some.new.rack) c.gather_some.new.vol c.gather_some.new.gathered in
    let here = sectors s sums more (c.args.addr + done * 4096) in
    let rest = λ (u : Unit {0}). sectors s sums (c.args.count - (done + more)) (c.args.addr + (done + more) * 4096) in
    let few : done + more ≤ c.args.count = omega (arith, c.in_ok-done.ensures.1, c.loop-done.invariant.few) in record {
      few = few;
      reaches = reaches_step (sectors s sums c.args.count c.args.addr) here rest x y
          (subst (λ (q : Meeting (Unit {0})). HasPassed (sectors s sums c.args.count c.args.addr) q x y)
          (sectors_some s sums c.args.count c.args.addr done more few) c.loop-done.invariant.reaches)
          z tt (subst (λ (t : Super). Gathers (sectors t sums more (c.args.addr + done * 4096)) y z (Ok tt)) c.loop-done.invariant.reaches.volume.sup
          c.in_ok-done.ensures.2);
    }
