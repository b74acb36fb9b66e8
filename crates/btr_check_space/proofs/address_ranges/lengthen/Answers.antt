use Rattle.std.proofs.Common.{◌≡◌, ◌<◌, ◌≤◌, ◌++◌, length, take, get_or, [], sym, ap, subst, ◌∙◌, append-nil, arith}
use Rattle.std.proofs.lemmas.List.{drop_all, get_or-set_other, length-set, take_all}
use Rattle.btr_check_space.specs.AddressRanges.{HoldSame, AscendAtBothEnds}
use Rattle.btr_check_space.proofs.Elements.{default_free}
use Rattle.btr_check_space.proofs.Reaching.{all_lengthened, hold_same, ascend_lengthened, lengthened_more, nothing, start_of}
use Rattle.btr_check_space.proofs.address_ranges.lengthen.Goals as goal

pub loop-i-preserved : goal.loop-i-preserved
loop-i-preserved c =
    let i = c.loop-i.i in
    let list = c.loop-i.ranges in
    let old = c.args.ranges.now in
    let was = c.loop-i.invariant in
    let below : i < length list = omega (arith, was.long, c.loop-i-test.true) in
    let range = c.lengthened-last.result in
    record {
      long = length-set list i range ∙ was.long;
      rest = λ k d behind. get_or-set_other list i k range d (λ same. absurd (omega (arith, same, behind))) ∙ was.rest k d (omega (arith, behind));
      behind = λ k d behind inside.
          let next : (get_or old i d).start ≤ (get_or old k d).start = c.requires i k d (omega (arith, behind)) inside in
          let here : range.start ≡ (get_or old i d).start =
          ap start_of c.lengthened-last.ensures ∙ ap start_of (was.rest i nothing (omega arith) ∙ default_free old i nothing d c.loop-i-test.true) in
          omega (arith, next, here);
      all = lengthened_more c.loop-i.last range nothing list i below c.lengthened-last.ensures ∙ was.all;
    }

-- where none is left, all are lengthened
all_are : (g : goal.After-loop-i) → g.loop-i.ranges ≡ all_lengthened nothing g.args.ranges.now
all_are c =
    let i = c.loop-i.i in
    let list = c.loop-i.ranges in
    let none : length list ≤ i = omega (arith, c.loop-i.invariant.long, c.loop-i-test.false) in
    sym (append-nil list)
    ∙ ap (λ l. l ++ all_lengthened c.loop-i.last []) (sym (take_all i list none))
    ∙ ap (λ l. take i list ++ all_lengthened c.loop-i.last l) (sym (drop_all i list none))
    ∙ c.loop-i.invariant.all

pub returns-clause-ascend : goal.returns-clause-ascend
returns-clause-ascend c = subst AscendAtBothEnds (sym (all_are c)) (ascend_lengthened c.args.ranges.now c.requires)

pub returns-clause-same : goal.returns-clause-same
returns-clause-same c = subst (HoldSame c.args.ranges.now) (sym (all_are c)) (hold_same c.args.ranges.now c.requires)
