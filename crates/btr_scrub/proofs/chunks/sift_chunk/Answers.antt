use Rattle.std.proofs.Common.{◌+◌, ◌<◌, ◌++◌, Err, refl, sym, ap, ◌∙◌, subst, arith}
use Rattle.btr_scrub.proofs.Common.{AccountsMend, Layout, LiesInStripe, Span, Volume, begun, kept_wants, same_held, wants_among}
use Rattle.btr_scrub.specs.Order.{AreBetween}
use Rattle.btr_scrub.specs.Sifting.{WentIn}
use Rattle.btr_scrub.proofs.Lists.{at_in, in_of}
use Rattle.btr_scrub.proofs.Sieved.{behind, gathers_behind, gathers_later, gathers_never, sieves_fault, sieves_ok, sieves_passed, sieves_stop, stands_as}
use Rattle.btr_scrub.proofs.Sieved.{stop_behind}
use Rattle.btr_scrub.proofs.Sieving.{is_behind}
use Rattle.btr_scrub.proofs.Unitwise.{chunk_lies}
use Rattle.btr_scrub.proofs.chunks.sift_chunk.Goals as goal

pub returns-in_err-end-clause-sieves : goal.returns-in_err-end-clause-sieves
returns-in_err-end-clause-sieves g c chunk whole span there stands =
    sieves_passed c.from_residual.ensures.1 (sieves_stop (stop_behind whole (c.in_err-end.ensures chunk span there)))

pub returns-in-Ok-true-clause-sieves : goal.returns-in-Ok-true-clause-sieves
returns-in-Ok-true-clause-sieves g c chunk whole span there stands =
    let b = g.R.Rack.seen c.gather_chunk.new.rack in
    let after = c.gather_chunk.new.vol in
    let last : Volume = record { store = c.sift_listed.new.store; sup = after.sup } in
    let listed = c.gather_chunk.new.gathered in
    let is = c.in_ok-end.ensures chunk span there in
    let kind = c.emptied.ensures.kind ∙ stands.kind in
    let h = gathers_behind whole is c.emptied.ensures.wants kind stands.unchecked stands.is_whole in
    let layout = is.volume.store.layout in
    let all = is_behind whole.list listed.list stands.is_whole is.lists.is_list (is.lists.kind ∙ kind) whole.unchecked listed.unchecked listed.unchecked refl in
    let went = subst (WentIn after.store.layout b.held listed c.args.span.now c.args.sieve.now c.sift_listed.new.sieve) c.in-Ok-true.field-0-test
    c.in-Ok-true.ensures.went in
    let more = went whole (behind whole listed) (stands_as layout (same_held is.reads) stands) all in
    sieves_ok {vol = last}
    (gathers_later c.in-Ok-true.ensures.reads (record { sup = refl; store = c.in-Ok-true.ensures.loans }) c.in-Ok-true.ensures.ready.serves h)
    (stands_as (sym layout) (same_held c.in-Ok-true.ensures.reads) more)

pub returns-in-Ok-false-clause-sieves : goal.returns-in-Ok-false-clause-sieves
returns-in-Ok-false-clause-sieves g c chunk whole span there stands =
    let b = g.R.Rack.seen c.gather_chunk.new.rack in
    let vol = c.args.vol.now in
    let after = c.gather_chunk.new.vol in
    let last : Volume = record { store = c.sift_listed.new.store; sup = after.sup } in
    let listed = c.gather_chunk.new.gathered in
    let is = c.in_ok-end.ensures chunk span there in
    let addr = c.args.span.now.start in
    let some : 0 < vol.sup.nodesize = omega (arith, c.requires.nodesize, c.requires.can.nodesize, c.requires.can.large) in
    let out = subst (WentIn after.store.layout b.held listed c.args.span.now c.args.sieve.now c.sift_listed.new.sieve) c.in-Ok-false.field-0-test
    c.in-Ok-false.ensures.went in
    let wants = is.lists.wants ∙ ap (λ ws. ws ++ wants_among is.done) c.emptied.ensures.wants in
    let between = λ (h : AreBetween vol.store.layout chunk.start (chunk.start + chunk.length) (wants_among is.done)).
    subst (λ (l : Layout). AreBetween l c.args.span.now.start (c.args.span.now.start + c.args.span.now.length) (kept_wants listed.list))
    (sym is.volume.store.layout)
    (subst (λ (s : Span). AreBetween vol.store.layout s.start (s.start + s.length) (kept_wants listed.list)) (sym span)
    (subst (AreBetween vol.store.layout chunk.start (chunk.start + chunk.length)) (sym wants) h)) in
    let at = at_in chunk vol.store.layout.chunks (in_of chunk vol.store.layout.chunks there) in
    sieves_stop {vol = last} (stop_behind whole (gathers_never c.in-Ok-false.ensures.reads (record { sup = refl; store = c.in-Ok-false.ensures.loans })
    c.in-Ok-false.ensures.ready.serves is addr
    (λ B met. out (between (chunk_lies vol.sup vol.store.layout c.requires.ready.table c.requires.nodesize some B c.args.trees.now.sums at.0 chunk at.1
    c.args.trees.now.extents is.done c.in_ok-end.end met)))))

pub returns-clause-sieves : goal.returns-clause-sieves
returns-clause-sieves g c chunk whole span there stands =
    let b = g.R.Rack.seen c.gather_chunk.new.rack in
    let z = g.R.Rack.seen c.sift_listed.new.rack in
    let last : Volume = record { store = c.sift_listed.new.store; sup = c.gather_chunk.new.vol.sup } in
    let is = c.in_ok-end.ensures chunk span there in
    sieves_fault {last = last}
    (gathers_behind whole is c.emptied.ensures.wants (c.emptied.ensures.kind ∙ stands.kind) stands.unchecked stands.is_whole) c.in-Err.ensures.reads
    (record { sup = refl; store = c.in-Err.ensures.loans }) c.in-Err.ensures.ready.serves c.in-Err.fault
    (subst (λ (l : Layout). AccountsMend {A = Unit {0}} (LiesInStripe l) b z (Err c.in-Err.fault)) is.volume.store.layout
    c.in-Err.ensures.account) c.stop_of.result c.stop_of.ensures (begun 0 0)
