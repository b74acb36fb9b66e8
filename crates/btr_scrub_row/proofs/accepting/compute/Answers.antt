use Rattle.std.proofs.Common.{◌≢◌, ◌<◌, take, sym, ap, ◌∙◌, subst, arith}
use Rattle.btr_scrub_row.proofs.Common.{size_of, value_of}
use Rattle.btr_parity.specs.Solutions.{IsTheOne, Weighs, WeighsWith}
use Rattle.btr_read.specs.Candidates.{slice_count}
use Rattle.btr_read.proofs.Rebuilt.{by_p, by_q, by_both}
use Rattle.btr_scrub_row.proofs.accepting.compute.Goals as goal

pub returns-in-ByP : goal.returns-in-ByP
returns-in-ByP c = λ images t h.
    ap (value_of images t) c.in-ByP.is ∙ by_p images t (take c.args.piece.now.len c.gather.new.sum) h.block.position.index (c.gather.ensures images t h)

pub returns-in-ByQ : goal.returns-in-ByQ
returns-in-ByQ c = λ images t h.
    let sum = take c.args.piece.now.len c.gather-in-ByQ.new.sum in
    let X = take c.args.piece.now.len c.divide_front.new.front in
    let sized : IsTheOne (size_of t) (Weighs c.args.piece.now.index sum) X =
    subst (λ n. IsTheOne n (Weighs c.args.piece.now.index sum) X) h.place.len c.divide_front.ensures in
    let one : IsTheOne (size_of t) (Weighs t.at.index sum) X = subst (λ i. IsTheOne (size_of t) (Weighs i sum) X) h.place.index sized in
    ap (value_of images t) c.in-ByQ.is ∙ by_q images t sum X h.block.position.index (c.gather-in-ByQ.ensures images t h) one

pub returns-in-ByBoth : goal.returns-in-ByBoth
returns-in-ByBoth c = λ images t h.
    let j = c.in-ByBoth.other in
    let sum = take c.args.piece.now.len c.gather-in-ByBoth.new.sum in
    let weighted = take c.args.piece.now.len c.gather-in-ByBoth-2.new.sum in
    let X = take c.args.piece.now.len c.solve_front.new.p in
    let sized : IsTheOne (size_of t) (WeighsWith sum weighted c.args.piece.now.index j) X =
    subst (λ n. IsTheOne n (WeighsWith sum weighted c.args.piece.now.index j) X) h.place.len c.solve_front.ensures in
    let one : IsTheOne (size_of t) (WeighsWith sum weighted t.at.index j) X =
    subst (λ i. IsTheOne (size_of t) (WeighsWith sum weighted i j) X) h.place.index sized in
    let parts = rw c.in-ByBoth.is at c.requires.parts in
    let below : j < slice_count t = omega (arith, parts.0, h.place.slices) in
    let differ : t.at.index ≢ j = λ e. parts.1 (sym e ∙ sym h.place.index) in
    ap (value_of images t) c.in-ByBoth.is
    ∙ by_both images t j sum weighted X h.block.position.index below differ (c.gather-in-ByBoth.ensures images t h)
    (c.gather-in-ByBoth-2.ensures images t h) one
