use Rattle.std.proofs.Common.{Ok, Some, ap, ◌∙◌, subst}
use Rattle.btr_walk.specs.Reading.{unread_by}
use Rattle.btr_walk.proofs.Joined.{drawn}
use Rattle.btr_tour.specs.TourEnds.{IsNextMark, NextCause}
use Rattle.btr_tour.specs.declared.met.Met.{Met}
use Rattle.btr_salvage.specs.declared.folder.Found.TheVariants.{Passing}
use Rattle.btr_salvage.specs.Folders.{IsNextMet}
use Rattle.btr_salvage.proofs.Folders.{left_cause, met_block, met_item, met_left}
use Rattle.btr_salvage.proofs.folder.meet_next.Goals as goal

pub returns-in-Block-clause-content : goal.returns-in-Block-clause-content
returns-in-Block-clause-content g c =
    let is = unread_by c.args.store.now.layout (g.R.Rack.seen c.args.rack.now) (g.R.Rack.seen c.next.new.rack) in
    let old = c.args.store.now in
    let new = c.next.follows.lender-at-none in
    drawn old.layout (λ B. IsNextMark is B old new c.args.tour.now c.next.new.tour c.next.result)
    (λ B. IsNextMet is B old new c.args.tour.now c.next.new.tour c.args.name.now (Ok (Some Passing)))
    (λ B h seen on held. met_block is B seen old new c.args.tour.now c.next.new.tour c.next.ensures.scope c.args.name.now _ _
    (subst (λ r. IsNextMark is B old new c.args.tour.now c.next.new.tour r)
    (c.in_ok-next.was ∙ ap Ok c.in-Some.is ∙ ap (λ (m : Met). Ok (Some m)) c.in-Block.is) h seen on held))
    c.next.follows.holds-at-none.content

pub returns-in-Item-clause-content : goal.returns-in-Item-clause-content
returns-in-Item-clause-content g c =
    let is = unread_by c.args.store.now.layout (g.R.Rack.seen c.args.rack.now) (g.R.Rack.seen c.next.new.rack) in
    let old = c.args.store.now in
    let new = c.next.follows.lender-at-none in
    drawn old.layout (λ B. IsNextMark is B old new c.args.tour.now c.next.new.tour c.next.result)
    (λ B. IsNextMet is B old new c.args.tour.now c.next.new.tour c.in_item.new.name (Ok (Some c.in_item.result)))
    (λ B h seen on held. met_item is B seen old new c.args.tour.now c.next.new.tour c.next.ensures.scope c.in_item.new.name c.in-Item.found c.in_item.result
    c.in_item.ensures
    (subst (λ r. IsNextMark is B old new c.args.tour.now c.next.new.tour r)
    (c.in_ok-next.was ∙ ap Ok c.in-Some.is ∙ ap (λ (m : Met). Ok (Some m)) c.in-Item.is) h seen on held))
    c.next.follows.holds-at-none.content

pub returns-in-Fault-clause-cause : goal.returns-in-Fault-clause-cause
returns-in-Fault-clause-cause g c = left_cause c.args.store.now.layout (g.R.Rack.seen c.args.rack.now)
    (g.R.Rack.seen c.next.new.rack) c.args.tour.now c.next.new.tour c.in-Fault.fault c.args.name.now c.left_out.result (c.left_out.ensures c.args.name.now)
    (subst (λ r. NextCause c.args.store.now.layout (g.R.Rack.seen c.args.rack.now) (g.R.Rack.seen c.next.new.rack) c.args.tour.now c.next.new.tour r)
    (c.in_ok-next.was ∙ ap Ok c.in-Some.is ∙ ap (λ (m : Met). Ok (Some m)) c.in-Fault.is) c.next.ensures.cause)

pub returns-in-Fault-clause-content : goal.returns-in-Fault-clause-content
returns-in-Fault-clause-content g c =
    let is = unread_by c.args.store.now.layout (g.R.Rack.seen c.args.rack.now) (g.R.Rack.seen c.next.new.rack) in
    let old = c.args.store.now in
    let new = c.next.follows.lender-at-none in
    drawn old.layout (λ B. IsNextMark is B old new c.args.tour.now c.next.new.tour c.next.result)
    (λ B. IsNextMet is B old new c.args.tour.now c.next.new.tour c.args.name.now c.left_out.result)
    (λ B h seen on held. met_left is B seen old new c.args.tour.now c.next.new.tour c.next.ensures.scope c.args.name.now c.in-Fault.fault c.left_out.result
    (c.left_out.ensures c.args.name.now)
    (subst (λ r. IsNextMark is B old new c.args.tour.now c.next.new.tour r)
    (c.in_ok-next.was ∙ ap Ok c.in-Some.is ∙ ap (λ (m : Met). Ok (Some m)) c.in-Fault.is) h seen on held))
    c.next.follows.holds-at-none.content
