use Rattle.std.proofs.Common.{◌≡◌, ◌∙◌, Ok, Err, Some, None, refl, ap, subst}
use Rattle.std.specs.Option.{is_some}
use Rattle.std.proofs.lemmas.Result.{err_from_is_err_and}
use Rattle.btr_tour.specs.declared.met.Met.TheVariants as met
use Rattle.btr_tour.specs.declared.step.Step.{Step}
use Rattle.btr_tour.specs.declared.step.Step.TheVariants.{Block, Child, Item, Fault, End}
use Rattle.btr_tour.specs.Shape.{StepRankFalls}
use Rattle.btr_tour.specs.Steps.{HasStep, StepCause}
use Rattle.btr_tour.specs.TourEnds.{rank_of}
use Rattle.btr_tour.proofs.Nexts.{toured, toured_item}
use Rattle.btr_tour.proofs.tour.next.Goals as goal

pub returns-in_err-step : goal.returns-in_err-step
returns-in_err-step g c =
    let s = c.step.ensures in
    let is = c.in_err-step.was in
    let p = err_from_is_err_and c.from_residual.result c.from_residual.ensures.1 in
    rw (p.1, p.2)
    (let h = subst (HasStep c.args.tour.now.place c.step.new.tour.place c.step.new.tour.leaf) is s.step in (
      (
        refl,
        λ x. tt,
        toured c.args.store.now c.step.new.store c.args.tour.now c.step.new.tour _ _ c.step.result s.others s.ready s.content (Err c.in_err-step.field-0.0)
            (Err c.in_err-step.field-0.0) is (λ Is B seen x. x),
      ),
      record {
        after = tt;
        reads = s.reads;
        scope = s.scope;
        level = s.level;
        kept = h.0;
        rank_falls = subst (StepRankFalls (rank_of c.args.tour.now) (rank_of c.step.new.tour)) is s.rank_falls;
        cause = (subst (StepCause c.args.store.now.layout _ _ c.args.tour.now.place) is s.cause, h.2, h.1);
      },
    ))

pub returns-in-End : goal.returns-in-End
returns-in-End g c =
    let s = c.step.ensures in
    let is : c.step.result ≡ Ok End = c.in_ok-step.was ∙ ap Ok c.in-End.is in
    let h = subst (HasStep c.args.tour.now.place c.step.new.tour.place c.step.new.tour.leaf) is s.step in (
      (
        refl,
        λ x. tt,
        toured c.args.store.now c.step.new.store c.args.tour.now c.step.new.tour _ _ c.step.result s.others s.ready s.content (Ok End) (Ok None) is
            (λ Is B seen x. x),
      ),
      record {
        after = tt;
        reads = s.reads;
        scope = s.scope;
        level = s.level;
        kept = h.0;
        rank_falls = subst (StepRankFalls (rank_of c.args.tour.now) (rank_of c.step.new.tour)) is s.rank_falls;
        cause = tt;
      },
    )

pub returns-in-Fault : goal.returns-in-Fault
returns-in-Fault g c =
    let s = c.step.ensures in
    let f = c.in-Fault.fault in
    let is : c.step.result ≡ Ok (Fault f) = c.in_ok-step.was ∙ ap Ok c.in-Fault.is in
    let h = subst (HasStep c.args.tour.now.place c.step.new.tour.place c.step.new.tour.leaf) is s.step in (
      (
        refl,
        λ x. tt,
        toured c.args.store.now c.step.new.store c.args.tour.now c.step.new.tour _ _ c.step.result s.others s.ready s.content (Ok (Fault f))
            (Ok (Some (met.Fault f))) is (λ Is B seen x. x),
      ),
      record {
        after = tt;
        reads = s.reads;
        scope = s.scope;
        level = s.level;
        kept = h.0;
        rank_falls = subst (StepRankFalls (rank_of c.args.tour.now) (rank_of c.step.new.tour)) is s.rank_falls;
        cause = (subst (StepCause c.args.store.now.layout _ _ c.args.tour.now.place) is s.cause, h.1);
      },
    )

pub returns-in-Child : goal.returns-in-Child
returns-in-Child g c =
    let s = c.step.ensures in
    let child : Step = Child c.in-Child.block c.in-Child.place in
    let is : c.step.result ≡ Ok child = c.in_ok-step.was ∙ ap Ok c.in-Child.is in
    let h = subst (HasStep c.args.tour.now.place c.step.new.tour.place c.step.new.tour.leaf) is s.step in (
      (
        refl,
        λ x. tt,
        toured c.args.store.now c.step.new.store c.args.tour.now c.step.new.tour _ _ c.step.result s.others s.ready s.content (Ok child)
            (Ok (Some (met.Child c.in-Child.block c.in-Child.place))) is (λ Is B seen x. x),
      ),
      record {
        after = tt;
        reads = s.reads;
        scope = s.scope;
        level = s.level;
        kept = h;
        rank_falls = subst (StepRankFalls (rank_of c.args.tour.now) (rank_of c.step.new.tour)) is s.rank_falls;
        cause = tt;
      },
    )

pub returns-in-Block : goal.returns-in-Block
returns-in-Block g c =
    let s = c.step.ensures in
    let place = c.in-Block.place in
    let block : Step = Block place c.in-Block.header in
    let is : c.step.result ≡ Ok block = c.in_ok-step.was ∙ ap Ok c.in-Block.is in
    let h = subst (HasStep c.args.tour.now.place c.step.new.tour.place c.step.new.tour.leaf) is s.step in (
      (
        refl,
        λ x. tt,
        toured c.args.store.now c.step.new.store c.args.tour.now
            (record { scope = c.step.new.tour.scope; place = c.step.new.tour.place; leaf = c.step.new.tour.leaf; level = Some place.level }) _ _
            c.step.result s.others (record { serves = s.ready.serves; hand = s.ready.hand; shaped = s.ready.shaped; low = h }) s.content (Ok block)
            (Ok (Some (met.Block place c.in-Block.header))) is (λ Is B seen x. x),
      ),
      record {
        after = tt;
        reads = s.reads;
        scope = s.scope;
        level = refl;
        kept = tt;
        rank_falls = subst (StepRankFalls (rank_of c.args.tour.now) (rank_of c.step.new.tour)) is s.rank_falls;
        cause = tt;
      },
    )

pub returns-in-Some : goal.returns-in-Some
returns-in-Some g c =
    let s = c.step.ensures in
    let at = c.in-Item.at in
    let is : c.step.result ≡ Ok (Item at) = c.in_ok-step.was ∙ ap Ok c.in-Item.is in (
      (
        refl,
        λ x. tt,
        toured_item c.args.store.now c.step.new.store c.args.tour.now c.step.new.tour _ _ c.step.result s.others s.ready s.content c.in-Some.hand at
            c.found_at.result c.bytes.result.now is c.in-Some.is c.bytes.ensures.value c.found_at.ensures,
      ),
      record {
        after = tt;
        reads = s.reads;
        scope = s.scope;
        level = s.level;
        kept = ap is_some c.in-Some.is;
        rank_falls = subst (StepRankFalls (rank_of c.args.tour.now) (rank_of c.step.new.tour)) is s.rank_falls;
        cause = tt;
      },
    )
