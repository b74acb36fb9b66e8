use Rattle.std.proofs.Common.{◌∙◌, List, Ok, sym, ap, subst}
use Rattle.btr_read.specs.declared.want.Want.{Want}
use Rattle.btr_walk.specs.Going.{IsOn}
use Rattle.btr_walk.specs.Reading.{unread_by}
use Rattle.btr_walk.specs.ScanEnds.{IsNextOn}
use Rattle.btr_walk.specs.Showing.{item_of}
use Rattle.btr_dump.specs.Trees.{NextItemBy}
use Rattle.btr_dump.specs.declared.trees.NextItem.TheVariants as item
use Rattle.btr_walk.proofs.Joined.{drawn}
use Rattle.btr_dump.proofs.Telling.{on_as}
use Rattle.btr_dump.proofs.trees.next_item.Goals as goal

pub returns-in-Some-root_in-clause-content : goal.returns-in-Some-root_in-clause-content
returns-in-Some-root_in-clause-content g c =
    let scan = c.args.scan.now in
    let next = c.next.new.scan in
    let old = c.args.store.now in
    let new = c.next.follows.lender-at-none in
    let is = unread_by old.layout (g.R.Rack.seen c.args.rack.now) (g.R.Rack.seen c.next.new.rack) in
    drawn old.layout (λ B. IsNextOn is B old new scan next c.next.result)
    (λ B. (seen : List Want) → IsOn scan.lo scan.hi B seen scan.place → NextItemBy is B seen old new scan next (Ok (item.Tree c.in-Some-root_in.root)))
    (λ B h seen on.
    let gives = subst (λ r. IsNextOn is B old new scan next r) (c.in_ok-next.was ∙ ap Ok c.in-Some.is) h seen on in (
      item_of c.in-Some.found,
      record {
        past = gives.past;
        is = gives.is;
        on = on_as scan.lo scan.hi next.lo next.hi B _ next.place (sym c.next.ensures.lo)
            (sym c.next.ensures.hi) gives.on;
      },
      sym c.root_in.ensures ∙ c.in-Some-root_in.is,
    ))
    c.next.follows.holds-at-none.content

pub returns-in-None-root_in-clause-content : goal.returns-in-None-root_in-clause-content
returns-in-None-root_in-clause-content g c =
    let scan = c.args.scan.now in
    let next = c.next.new.scan in
    let old = c.args.store.now in
    let new = c.next.follows.lender-at-none in
    let is = unread_by old.layout (g.R.Rack.seen c.args.rack.now) (g.R.Rack.seen c.next.new.rack) in
    drawn old.layout (λ B. IsNextOn is B old new scan next c.next.result)
    (λ B. (seen : List Want) → IsOn scan.lo scan.hi B seen scan.place → NextItemBy is B seen old new scan next (Ok item.Other))
    (λ B h seen on.
    let gives = subst (λ r. IsNextOn is B old new scan next r) (c.in_ok-next.was ∙ ap Ok c.in-Some.is) h seen on in (
      item_of c.in-Some.found,
      record {
        past = gives.past;
        is = gives.is;
        on = on_as scan.lo scan.hi next.lo next.hi B _ next.place (sym c.next.ensures.lo)
            (sym c.next.ensures.hi) gives.on;
      },
      sym c.root_in.ensures ∙ c.in-None-root_in.is,
    ))
    c.next.follows.holds-at-none.content
