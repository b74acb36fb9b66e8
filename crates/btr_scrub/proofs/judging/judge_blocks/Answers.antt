use Rattle.std.proofs.Common.{inr, sym, subst}
use Rattle.btr_scrub.proofs.Common.{AreUpTo, IsFirstRefused}
use Rattle.btr_scrub.proofs.Placed.{passed_apart, passed_refused}
use Rattle.btr_scrub.proofs.judging.judge_blocks.Goals as goal

pub loop-want-preserved-then-is_plain : goal.loop-want-preserved-then-is_plain
loop-want-preserved-then-is_plain c =
    let layout = c.args.store.now.layout in
    let before = c.loop-want.end in
    let mid = c.next.new.self in
    let new = c.pass_from-end.new.self in
    let end = c.in_ok-end.end in
    let judged = c.in_ok-end.ensures in record {
      ahead = λ to a. c.loop-want.invariant.ahead to (subst (AreUpTo layout before to) (sym c.in-Some.ensures) (
        judged.0.0,
        judged.0.1,
        subst (λ e. AreUpTo layout e to mid) judged.1
            (passed_apart layout mid new end c.placed_until.result c.pass_from-end.result c.pass_from-end.ensures c.placed_until.ensures to a),
      ));
      refused = λ fault r. c.loop-want.invariant.refused fault (subst (λ ws. IsFirstRefused layout before ws fault) (sym c.in-Some.ensures) (inr (
        judged.0,
        subst (λ e. IsFirstRefused layout e mid fault) judged.1
            (passed_refused layout mid new end c.placed_until.result c.pass_from-end.result c.pass_from-end.ensures c.placed_until.ensures fault r),
      )));
    }
