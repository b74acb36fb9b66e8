use Rattle.std.proofs.Common.{◌≡◌, take, Some, IsNone, refl, sym, ap, ◌∙◌, subst, arith, ℕ, List, Ok}
use Rattle.btr_scrub_row.proofs.Common.{IsSited, Layout, Slice, Target, Want, piece_in, sought, sought_of, value_of}
use Rattle.btr_read.specs.Candidates.{element}
use Rattle.btr_read.specs.Want.{passes}
use Rattle.btr_scrub_row.proofs.Accepted.{in_count, none_accepted, one_accepted, own_good, own_value, q_there, the_target, tried_more, way_below}
use Rattle.btr_scrub_row.proofs.accepting.accept.Goals as goal

pub loop-k-init : goal.loop-k-init
loop-k-init c = λ images t e h. refl

pub compute-requires-clause-parts : goal.compute-requires-clause-parts
compute-requires-clause-parts c =
    let within = c.requires.piece.within in
    let way = c.way_at-way.result in
    let count = c.way_count-k-end.ensures in
    let target = the_target _ (IsSited c.args.piece.now) c.requires.piece.placed in
    c.way_of.ensures.parts c.args.piece.now.shape.slices within.index (in_count way count (omega (arith, within.index))
    (way_below target.2 count c.loop-k.k way c.loop-k-test.true (rw target.1 at c.way_at-way.ensures)))

pub compute-requires-clause-q : goal.compute-requires-clause-q
compute-requires-clause-q c =
    let count = c.way_count-k-end.ensures in
    let target = the_target _ (IsSited c.args.piece.now) c.requires.piece.placed in
    let below = way_below target.2 count c.loop-k.k c.way_at-way.result c.loop-k-test.true (rw target.1 at c.way_at-way.ensures) in
    λ reads. q_there count below c.way_of.ensures reads

-- a test of bytes in the store's setting is a test of a wanted block
passes_is : (layout : Layout) (want : Want) {t : Target} (bytes : List ℕ) → sought layout want ≡ Ok t
    → passes t.setting t.want bytes ≡ passes layout.setting want bytes
passes_is layout want {t = t} bytes e = let of = sought_of layout want t e in rw (of.setting_is, of.want_is) refl

pub loop-k-preserved : goal.loop-k-preserved
loop-k-preserved c = λ images t e h.
    let value = c.compute.ensures images t h in
    let test = passes_is c.args.view.now.store.now.layout c.args.want.now (value_of images t c.way_of.result) e
    ∙ ap (passes c.args.view.now.store.now.layout.setting c.args.want.now) value ∙ sym c.front_passes.ensures ∙ c.if-front_passes.false in
    tried_more (rw e at c.requires.piece.placed) c.way_count-k-end.ensures c.loop-k.k c.way_at-way.result c.loop-k-test.true
    (rw e at c.way_at-way.ensures) c.way_of.ensures h.block.stand images (c.loop-k.invariant images t e h) test

pub returns-then-front_passes : goal.returns-then-front_passes
returns-then-front_passes c = λ images t e h.
    let piece = c.args.piece.now in
    let k = c.loop-k.k in
    let way = c.way_at-way.result in
    let value = c.compute.ensures images t h in
    let layout = c.args.view.now.store.now.layout in
    let want = c.args.want.now in
    let test = passes_is layout want (value_of images t c.way_of.result) e ∙ ap (passes layout.setting want) value
    ∙ sym c.front_passes.ensures ∙ c.if-front_passes.true in
    let order = rw e at c.way_at-way.ensures in
    let sited = rw e at c.requires.piece.placed in
    let so_far = c.loop-k.invariant images t e h in
    let same = ap (λ i. passes layout.setting want (piece_in c.args.view.now.old.now piece i)) h.place.index
    ∙ ap (passes layout.setting want) (h.block.slices t.at.index sited.position.index) ∙ sym (passes_is layout want (element images t (Slice t.at.index)) e) in
    let count = c.way_count-k-end.ensures in
    record {
      bytes = one_accepted sited count k way c.loop-k-test.true order c.way_of.ensures h.block.stand images so_far test
          ∙ ap Some (value ∙ ap (λ m. take m c.compute.new.block) h.place.len);
      good = own_good _ _ way same (λ z. sym (ap (passes t.setting t.want)
          (own_value sited count k way c.loop-k-test.true order c.way_of.ensures h.block.stand images so_far z)) ∙ test) ∙ sym c.own_passes.ensures;
    }

pub returns : goal.returns
returns c = λ images t e h.
    let sited = rw e at c.requires.piece.placed in
    none_accepted sited c.way_count-k-end.ensures images c.loop-k.k (h.block.stand (Slice t.at.index)
    (subst IsNone (sym sited.parity) refl, sited.position.index)) c.loop-k-test.false (c.loop-k.invariant images t e h)
