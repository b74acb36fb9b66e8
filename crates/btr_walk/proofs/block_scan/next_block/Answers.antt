use Rattle.std.proofs.Common.{◌≡◌, Ok, Some, refl, ap, subst}
use Rattle.std.specs.Option.{is_some}
use Rattle.std.proofs.lemmas.Result.{err_from_is_err_and}
use Rattle.btr_read.specs.Store.{block_of}
use Rattle.btr_walk.specs.Preorder.{IsStep}
use Rattle.btr_walk.specs.Reading.{Tells, unread_by}
use Rattle.btr_walk.proofs.Walks.{walked_err, walked_end, walked_some, cause_of, lends_is, lends_none, rank_falls_is, held_is}
use Rattle.btr_walk.proofs.block_scan.next_block.Goals as goal

pub returns-in_err-step_block : goal.returns-in_err-step_block
returns-in_err-step_block g c =
    let p = err_from_is_err_and c.from_residual.result c.from_residual.ensures.1 in
    rw (p.1, p.2)
    ((
      (
        refl,
        λ x. tt,
        walked_err c.args.store.now c.give_back.new.store c.step_block.new.store c.args.scan.now c.take.result c.take.ensures.value
            c.give_back.ensures.back _ _ c.in_err-step_block.ensures.serves c.take.new.self c.in_err-step_block.field-0.0 c.take.ensures.after
            c.in_err-step_block.ensures.lent
            c.requires.ready.shaped c.in_err-step_block.ensures.content,
      ),
      record {
        after = tt;
        reads = c.in_err-step_block.ensures.reads;
        kept = c.take.ensures.after;
        rank_falls = refl;
        cause = cause_of c.args.store.now c.give_back.new.store c.step_block.new.store c.args.scan.now c.take.result c.take.ensures.value
            c.give_back.ensures.back _ _ c.in_err-step_block.ensures.serves c.in_err-step_block.field-0.0 c.in_err-step_block.ensures.cause;
      },
    ))

pub returns-in-None : goal.returns-in-None
returns-in-None g c =
    let place = c.args.scan.now.place in
    let new = c.step_block.new.store in
    let mid = c.give_back.new.store.layout in
    let is = unread_by mid (g.R.Rack.seen c.args.rack.now) (g.R.Rack.seen c.step_block.new.rack) in (
      (
        refl,
        λ x. tt,
        walked_end c.args.store.now c.give_back.new.store c.step_block.new.store c.args.scan.now c.take.result c.take.ensures.value
            c.give_back.ensures.back _ _ c.in_ok-step_block.ensures.serves c.take.new.self c.take.ensures.after
            (lends_none c.give_back.new.store new c.in_ok-step_block.field-0 c.in-None.is c.in_ok-step_block.ensures.lent) c.requires.ready.shaped
            (subst (λ r. Tells mid (g.R.Rack.seen c.args.rack.now) (g.R.Rack.seen c.step_block.new.rack) (λ B. IsStep is B place new (Ok r)))
            c.in-None.is c.in_ok-step_block.ensures.content),
      ),
      record {
        after = tt;
        reads = c.in_ok-step_block.ensures.reads;
        kept = c.take.ensures.after;
        rank_falls = refl;
        cause = tt;
      },
    )

pub returns-in-Some-loan : goal.returns-in-Some-loan
returns-in-Some-loan g c =
    let place = c.args.scan.now.place in
    let e = c.in-Some.entry in
    let new = c.step_block.new.store in
    let mid = c.give_back.new.store.layout in
    let is = unread_by mid (g.R.Rack.seen c.args.rack.now) (g.R.Rack.seen c.step_block.new.rack) in
    let held = held_is c.keep.new.place c.in-Some-loan.held e.loan c.in-Some-loan.is c.keep.ensures in
    let near = rank_falls_is place c.in_ok-step_block.field-0 e c.in-Some.is c.in_ok-step_block.ensures.rank_falls in (
      (
        refl,
        λ x. tt,
        walked_some c.args.store.now c.give_back.new.store c.step_block.new.store c.args.scan.now c.take.result c.take.ensures.value c.give_back.ensures.back _
            _ c.in_ok-step_block.ensures.serves c.keep.new.place e (record { addr = e.addr; level = e.level; bytes = c.bytes.result }) c.keep.ensures
            (subst (λ l. block_of new l ≡ Some c.bytes.result.now) held c.bytes.ensures.value) refl refl
            (lends_is c.give_back.new.store new c.in_ok-step_block.field-0 e c.in-Some.is c.in_ok-step_block.ensures.lent) near.0
            (subst (λ r. Tells mid (g.R.Rack.seen c.args.rack.now) (g.R.Rack.seen c.step_block.new.rack) (λ B. IsStep is B place new (Ok r)))
            c.in-Some.is c.in_ok-step_block.ensures.content),
      ),
      record {
        after = tt;
        reads = c.in_ok-step_block.ensures.reads;
        kept = ap is_some c.keep.ensures;
        rank_falls = near.1;
        cause = tt;
      },
    )
