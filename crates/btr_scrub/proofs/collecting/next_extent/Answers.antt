use Rattle.std.proofs.Common.{List, Ok, ap, subst, ◌∙◌}
use Rattle.btr_scrub.proofs.Common.{Want, drawn, unread_by}
use Rattle.btr_walk.specs.Going.{IsOn}
use Rattle.btr_walk.specs.ScanEnds.{IsNextOn}
use Rattle.btr_walk.specs.Showing.{item_of}
use Rattle.btr_scrub.specs.Scanning.{NextExtentBy}
use Rattle.btr_scrub.proofs.Underways.{next_by}
use Rattle.btr_scrub.proofs.collecting.next_extent.Goals as goal

pub returns-in-Some-clause-content : goal.returns-in-Some-clause-content
returns-in-Some-clause-content g c =
    let s = c.args.s.now in
    let scan = c.args.scan.now in
    let next = c.next.new.scan in
    let old = c.args.store.now in
    let new = c.next.follows.lender-at-none in
    let is = unread_by old.layout (g.R.Rack.seen c.args.rack.now) (g.R.Rack.seen c.next.new.rack) in
    drawn old.layout (λ B. IsNextOn is B old new scan next c.next.result)
    (λ B. (seen : List Want) → IsOn scan.lo scan.hi B seen scan.place → NextExtentBy s is B seen old new scan next (Ok c.extent_in.result))
    (λ B h seen on.
    let gives = subst (λ r. IsNextOn is B old new scan next r) (c.in_ok-next.was ∙ ap Ok c.in-Some.is) h seen on in
    next_by s is B seen old new scan next c.extent_in.result (record {
      item = item_of c.in-Some.found;
      gives = record { past = gives.past; is = gives.is; on = gives.on };
      says = c.extent_in.ensures;
    })) c.next.follows.holds-at-none.content
