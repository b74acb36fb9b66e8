use Rattle.std.proofs.Common.{sym, ap, subst}
use Rattle.btr_walk.specs.Reading.{Tells, unread_by}
use Rattle.btr_walk.specs.Showing.{ReachesItem, found_of}
use Rattle.btr_base.specs.declared.key.Key.{Key}
use Rattle.btr_volume.specs.Tree.{key}
use Rattle.btr_volume.proofs.Looked.{looks_found, judges_err}
use Rattle.btr_files.specs.declared.sums_ahead.SumsAhead.{SumsAhead}
use Rattle.btr_files.specs.Aheads.{IsAheadIn}
use Rattle.btr_files.specs.Sums.{sum_found, sums_objectid}
use Rattle.btr_files.proofs.AheadLooks.{by_reach, judges_reached, stays}
use Rattle.btr_files.proofs.sums.find_ahead.Goals.{in-Err, in-Ok}
use Rattle.btr_files.proofs.sums.find_ahead.Goals as goal

pub returns-clause-ahead : goal.returns-clause-ahead
returns-clause-ahead g c =
    let layout = c.args.store.now.layout in
    let before = g.R.Rack.seen c.args.rack.now in
    let now = g.R.Rack.seen c.find_reach.new.rack in
    let is = unread_by layout before now in
    let root = c.args.root.now in
    let key_is = c.key_of-key.result in
    let old = c.args.ahead.now in
    let Kept = λ (x : SumsAhead). Tells layout before now (λ B. IsAheadIn B root old → IsAheadIn B root x) in
    elim c.match-find_reach.branch [
      | in-Err w ↦ subst Kept (sym w.ahead-is)
          (stays layout (λ B. ReachesItem is B root key_is c.find_reach.result) root old c.find_reach.ensures.content)
      | in-Ok w ↦ subst Kept (sym w.ahead-is)
          (by_reach layout is root c.args.addr key_is w.in-Ok.reach c.find_reach.result
          (λ B. IsAheadIn B root old → IsAheadIn B root w.read_ahead.result) c.key_of-key.ensures w.in-Ok.is
          (λ B ended reaches kept. w.read_ahead.ensures B root ended reaches) c.find_reach.ensures.content c.find_reach.ensures.reach)
    ]

pub returns-clause-content : goal.returns-clause-content
returns-clause-content g c =
    let k = sum_found c.args.kind c.args.addr in
    let sum = c.match-find_reach.sum in
    let layout = c.args.store.now.layout in
    let before = g.R.Rack.seen c.args.rack.now in
    let now = g.R.Rack.seen c.find_reach.new.rack in
    looks_found layout before now c.args.root.now (key sums_objectid 128 c.args.addr) k (found_of c.find_reach.result) sum
    (subst (λ (x : Key). Tells layout before now (λ B. ReachesItem (unread_by layout before now) B c.args.root.now x c.find_reach.result))
    c.key_of-key.ensures c.find_reach.ensures.content)
    (elim c.match-find_reach.branch [
      | in-Err w ↦ judges_err k sum (found_of c.find_reach.result) w.in-Err.fault (ap found_of w.in-Err.is) w.sum-is
      | in-Ok w ↦ judges_reached k sum w.sum_reached-sum.result c.find_reach.result w.in-Ok.reach w.in-Ok.is w.sum_reached-sum.ensures w.sum-is
    ])
