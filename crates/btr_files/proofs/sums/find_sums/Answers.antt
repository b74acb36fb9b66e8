use Rattle.std.proofs.Common.{Result, Some, sym, ap, subst}
use Rattle.btr_base.specs.declared.key.Key.{Key}
use Rattle.btr_walk.specs.Reading.{Tells, unread_by}
use Rattle.btr_walk.specs.Showing.{ReachesItem, found_of}
use Rattle.btr_walk.specs.declared.fault.TreeFault.{TreeFault}
use Rattle.btr_walk.proofs.Joined.{drawn}
use Rattle.btr_volume.specs.Tree.{key}
use Rattle.btr_volume.proofs.Looked.{looks_found, judges_err}
use Rattle.btr_files.specs.declared.summed.Summed.{Summed}
use Rattle.btr_files.specs.Gaps.{IsGap, first_sum}
use Rattle.btr_files.specs.Sums.{sum_found, sums_objectid}
use Rattle.btr_files.proofs.AheadLooks.{by_reach, judges_reached}
use Rattle.btr_files.proofs.sums.find_sums.Goals.{in-Err, in-Ok}
use Rattle.btr_files.proofs.sums.find_sums.Goals as goal

pub returns-clause-gap : goal.returns-clause-gap
returns-clause-gap g c =
    let layout = c.args.store.now.layout in
    let before = g.R.Rack.seen c.args.rack.now in
    let now = g.R.Rack.seen c.find_reach.new.rack in
    let is = unread_by layout before now in
    let sums = c.args.sums.now in
    let key_is = c.key_of-key.result in
    let Told = λ (x : Result Summed TreeFault). Tells layout before now (λ B. IsGap c.args.kind B (Some sums) c.args.addr x) in
    elim c.match-find_reach.branch [
      | in-Err w ↦ subst Told (sym w.found-is)
          (drawn layout (λ B. ReachesItem is B sums.place key_is c.find_reach.result) _ (λ B h. tt) c.find_reach.ensures.content)
      | in-Ok w ↦ subst Told (sym w.found-is)
          (by_reach layout is sums.place c.args.addr key_is w.in-Ok.reach c.find_reach.result
          (λ B. IsGap c.args.kind B (Some sums) c.args.addr w.summed-found.result) c.key_of-key.ensures w.in-Ok.is
          (λ B ended reaches. w.summed-found.ensures.gap B sums ended reaches) c.find_reach.ensures.content c.find_reach.ensures.reach)
    ]

pub returns-clause-content : goal.returns-clause-content
returns-clause-content g c =
    let k = sum_found c.args.kind c.args.addr in
    let found = c.match-find_reach.found in
    let layout = c.args.store.now.layout in
    let before = g.R.Rack.seen c.args.rack.now in
    let now = g.R.Rack.seen c.find_reach.new.rack in
    looks_found layout before now c.args.sums.now.place (key sums_objectid 128 c.args.addr) k (found_of c.find_reach.result) (first_sum found)
    (subst (λ (x : Key). Tells layout before now (λ B. ReachesItem (unread_by layout before now) B c.args.sums.now.place x c.find_reach.result))
    c.key_of-key.ensures c.find_reach.ensures.content)
    (elim c.match-find_reach.branch [
      | in-Err w ↦ judges_err k (first_sum found) (found_of c.find_reach.result) w.in-Err.fault (ap found_of w.in-Err.is) (ap first_sum w.found-is)
      | in-Ok w ↦ judges_reached k (first_sum found) (first_sum w.summed-found.result) c.find_reach.result w.in-Ok.reach w.in-Ok.is
          w.summed-found.ensures.sum (ap first_sum w.found-is)
    ])
