use Rattle.std.proofs.Common.{Ok, Err}
use Rattle.std.proofs.lemmas.Result.{err_from_is_err_and}
use Rattle.btr_walk.specs.Reading.{unread_by}
use Rattle.btr_walk.proofs.Fetched.{since}
use Rattle.btr_files.specs.Ahead.{IsLooked}
use Rattle.btr_files.specs.Sums.{kind_in}
use Rattle.btr_files.proofs.AllMaps.{all_of_one, all_joined}
use Rattle.btr_files.proofs.Following.{step_err, step_on}
use Rattle.btr_files.proofs.Streamed.{NextWithSums}
use Rattle.btr_files.proofs.streaming.next_step.Goals as goal

pub returns-in_err-next-in-Next-clause-content : goal.returns-in_err-next-in-Next-clause-content
returns-in_err-next-in-Next-clause-content g c =
    let kind = kind_in c.args.vol.now.sup in
    let source = c.args.source.now in
    let p = c.args.progress.now in
    let layout = c.args.vol.now.store.layout in
    let is = unread_by layout (g.R.Rack.seen c.args.rack.now) (g.R.Rack.seen c.find_next.new.rack) in
    let exit = err_from_is_err_and c.from_residual.result c.from_residual.ensures.1 in
    rw (exit.1, exit.2)
    (all_of_one layout (λ B. IsLooked source is B p (Err c.in_err-next-in-Next.field-0.0))
    (λ Bs. NextWithSums kind source is Bs p p c.find_next.new.store c.args.ahead.now c.args.ahead.now (Err c.in_err-next-in-Next.field-0.0))
    (λ Bs h summed. (step_err kind source Bs p is p c.find_next.new.store c.in_err-next-in-Next.field-0.0 h, summed))
    c.in_err-next-in-Next.ensures.content)

pub returns-in_err-shown-in-Next-clause-content : goal.returns-in_err-shown-in-Next-clause-content
returns-in_err-shown-in-Next-clause-content g c =
    let kind = kind_in c.args.vol.now.sup in
    let source = c.args.source.now in
    let p = c.args.progress.now in
    let p' = c.in_ok-next-in-Next.next in
    let p'' = c.give.new.progress in
    let layout = c.args.vol.now.store.layout in
    let mid = c.find_next.new.store.layout in
    let new = c.give.new.vol.store in
    let a = g.R.Rack.seen c.args.rack.now in
    let b = g.R.Rack.seen c.find_next.new.rack in
    let d = g.R.Rack.seen c.give.new.rack in
    let is = unread_by layout a d in
    let result = (Err c.in_err-shown-in-Next.field-0.0) in
    let exit = err_from_is_err_and c.from_residual-in_err-shown-in-Next.result c.from_residual-in_err-shown-in-Next.ensures.1 in
    rw (exit.1, exit.2)
    (all_joined (λ Bs. IsLooked source (unread_by layout a b) (Bs 0) p (Ok p'))
    (λ Bs. NextWithSums kind source (unread_by mid b d) Bs p' p'' new c.args.ahead.now c.give.new.ahead result)
    (λ Bs. NextWithSums kind source is Bs p p'' new c.args.ahead.now c.give.new.ahead result) c.find_next.ensures.loans.layout
    (λ Bs h n summed. let both = n summed in (
      step_on kind source Bs p (unread_by layout a b) (unread_by mid b d) is p' p''
          (since layout mid c.find_next.ensures.loans.layout c.find_next.ensures.reads) new result h both.0,
      both.1,
    ))
    (all_of_one layout (λ B. IsLooked source (unread_by layout a b) B p (Ok p')) (λ Bs. IsLooked source (unread_by layout a b) (Bs 0) p (Ok p'))
    (λ Bs h. h) c.in_ok-next-in-Next.ensures.content) c.in_err-shown-in-Next.ensures.content)

pub returns-in_ok-shown-in-Next-clause-content : goal.returns-in_ok-shown-in-Next-clause-content
returns-in_ok-shown-in-Next-clause-content g c =
    let kind = kind_in c.args.vol.now.sup in
    let source = c.args.source.now in
    let p = c.args.progress.now in
    let p' = c.in_ok-next-in-Next.next in
    let p'' = c.give.new.progress in
    let layout = c.args.vol.now.store.layout in
    let mid = c.find_next.new.store.layout in
    let new = c.give.new.vol.store in
    let a = g.R.Rack.seen c.args.rack.now in
    let b = g.R.Rack.seen c.find_next.new.rack in
    let d = g.R.Rack.seen c.give.new.rack in
    let is = unread_by layout a d in
    let result = (Ok c.in_ok-shown-in-Next.shown) in
    all_joined (λ Bs. IsLooked source (unread_by layout a b) (Bs 0) p (Ok p'))
    (λ Bs. NextWithSums kind source (unread_by mid b d) Bs p' p'' new c.args.ahead.now c.give.new.ahead result)
    (λ Bs. NextWithSums kind source is Bs p p'' new c.args.ahead.now c.give.new.ahead result) c.find_next.ensures.loans.layout
    (λ Bs h n summed. let both = n summed in (
      step_on kind source Bs p (unread_by layout a b) (unread_by mid b d) is p' p''
          (since layout mid c.find_next.ensures.loans.layout c.find_next.ensures.reads) new result h both.0,
      both.1,
    ))
    (all_of_one layout (λ B. IsLooked source (unread_by layout a b) B p (Ok p')) (λ Bs. IsLooked source (unread_by layout a b) (Bs 0) p (Ok p'))
    (λ Bs h. h) c.in_ok-next-in-Next.ensures.content) c.in_ok-shown-in-Next.ensures.content
