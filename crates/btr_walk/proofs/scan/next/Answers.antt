use Rattle.std.proofs.Common.{Ok, refl, ap, ◌∙◌}
use Rattle.std.proofs.lemmas.Result.{err_from_is_err_and}
use Rattle.btr_walk.proofs.Nexts.{cause_as, next_err, next_end, next_item, keeps_err, keeps_end, keeps_item, stays_put, moved_none, near_some, near_none}
use Rattle.btr_walk.proofs.scan.next.Goals as goal

pub returns-in_err-met : goal.returns-in_err-met
returns-in_err-met g c =
    let a = c.advance-leaf.result in
    let p = err_from_is_err_and c.from_residual.result c.from_residual.ensures.1 in
    rw (p.1, p.2)
    (let free = keeps_err a.leaf c.put_leaf.new.place a.met c.in_err-met.field-0.0 c.put_leaf.ensures c.in_err-met.was c.advance-leaf.ensures.item in (
      (
        refl,
        λ x. tt,
        next_err c.args.store.now c.advance-leaf.new.store c.args.scan.now c.take-leaf.result c.take-leaf.ensures.value
            c.advance-leaf.new.place a c.put_leaf.new.place c.put_leaf.ensures _ _ c.advance-leaf.ensures.serves c.in_err-met.field-0.0 c.in_err-met.was free
            c.advance-leaf.ensures.shaped c.advance-leaf.ensures.others c.advance-leaf.ensures.hand c.advance-leaf.ensures.content,
      ),
      record {
        after = tt;
        reads = c.advance-leaf.ensures.reads;
        lo = refl;
        hi = refl;
        kept = free;
        rank_falls = near_none c.args.scan.now c.put_leaf.new.place c.advance-leaf.new.place free c.advance-leaf.ensures.on c.requires.ready.alone;
        place = moved_none c.args.scan.now c.advance-leaf.new.place
            (stays_put c.args.scan.now.place.rest c.advance-leaf.new.place a.met c.in_err-met.field-0.0 c.in_err-met.was c.advance-leaf.ensures.stays);
        cause = cause_as c.args.store.now.layout _ _ a.met c.in_err-met.field-0.0 c.in_err-met.was c.advance-leaf.ensures.cause;
      },
    ))

pub returns : goal.returns
returns g c =
    let a = c.advance-leaf.result in
    let met = c.in_ok-met.was ∙ ap Ok c.if-not-branch.false in (
      (
        refl,
        λ x. tt,
        next_item c.args.store.now c.advance-leaf.new.store c.args.scan.now c.take-leaf.result c.take-leaf.ensures.value
            c.advance-leaf.new.place a c.put_leaf.new.place c.put_leaf.ensures _ _ c.advance-leaf.ensures.serves c.in-Some.hand c.in-Some.is c.found_at.result
            c.bytes.result.now c.bytes.ensures.value c.found_at.ensures met c.advance-leaf.ensures.shaped c.advance-leaf.ensures.others
            c.advance-leaf.ensures.hand c.advance-leaf.ensures.content,
      ),
      record {
        after = tt;
        reads = c.advance-leaf.ensures.reads;
        lo = refl;
        hi = refl;
        kept = keeps_item a.leaf c.put_leaf.new.place c.in-Some.hand a.met c.put_leaf.ensures c.in-Some.is met c.advance-leaf.ensures.item;
        rank_falls = near_some c.args.scan.now c.take-leaf.result c.put_leaf.new.place c.advance-leaf.new.place a c.take-leaf.ensures.value c.put_leaf.ensures
            c.advance-leaf.ensures.rank_falls met;
        place = tt;
        cause = tt;
      },
    )

pub returns-then-not-branch : goal.returns-then-not-branch
returns-then-not-branch g c =
    let a = c.advance-leaf.result in
    let met = c.in_ok-met.was ∙ ap Ok c.if-not-branch.true in
    let free = keeps_end a.leaf c.put_leaf.new.place a.met c.put_leaf.ensures met c.advance-leaf.ensures.item in (
      (
        refl,
        λ x. tt,
        next_end c.args.store.now c.advance-leaf.new.store c.args.scan.now c.take-leaf.result c.take-leaf.ensures.value
            c.advance-leaf.new.place a c.put_leaf.new.place c.put_leaf.ensures _ _ c.advance-leaf.ensures.serves met free c.advance-leaf.ensures.shaped
            c.advance-leaf.ensures.others c.advance-leaf.ensures.hand c.advance-leaf.ensures.content,
      ),
      record {
        after = tt;
        reads = c.advance-leaf.ensures.reads;
        lo = refl;
        hi = refl;
        kept = free;
        rank_falls = near_none c.args.scan.now c.put_leaf.new.place c.advance-leaf.new.place free c.advance-leaf.ensures.on c.requires.ready.alone;
        place = tt;
        cause = tt;
      },
    )
