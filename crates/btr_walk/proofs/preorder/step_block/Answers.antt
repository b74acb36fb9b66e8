use Rattle.std.proofs.Common.{Ok, Err, Some, None, subst}
use Rattle.std.proofs.lemmas.Result.{err_from_is_err_and}
use Rattle.btr_walk.specs.Preorder.{IsAhead, IsEntry, IsStep}
use Rattle.btr_walk.specs.Reading.{unread_by}
use Rattle.btr_walk.proofs.Fetched.{since}
use Rattle.btr_walk.proofs.Joined.{drawn, joined}
use Rattle.btr_walk.proofs.Walks.{step_end, step_halts, step_gives, lends_block}
use Rattle.btr_walk.proofs.preorder.step_block.Goals as goal

pub returns-in-None-clause-content : goal.returns-in-None-clause-content
returns-in-None-clause-content g c =
    let is = unread_by c.args.store.now.layout (g.R.Rack.seen c.args.rack.now) (g.R.Rack.seen c.ahead_of.new.rack) in
    let place = c.args.place.now in
    drawn c.args.store.now.layout (λ B. IsAhead is B place (Ok c.in_ok-ahead_of.field-0)) (λ B. IsStep is B place c.ahead_of.new.store (Ok None))
    (λ B h. step_end B is is is place c.ahead_of.new.store (subst (λ r. IsAhead is B place (Ok r)) c.in-None.is h)) c.in_ok-ahead_of.ensures.content

pub returns-in_err-enter_block-in-Some-clause-content : goal.returns-in_err-enter_block-in-Some-clause-content
returns-in_err-enter_block-in-Some-clause-content g c =
    let was = unread_by c.args.store.now.layout (g.R.Rack.seen c.args.rack.now) (g.R.Rack.seen c.ahead_of.new.rack) in
    let then = unread_by c.ahead_of.new.store.layout (g.R.Rack.seen c.ahead_of.new.rack) (g.R.Rack.seen c.enter_block.new.rack) in
    let is = unread_by c.args.store.now.layout (g.R.Rack.seen c.args.rack.now) (g.R.Rack.seen c.enter_block.new.rack) in
    let place = c.args.place.now in
    let ahead = c.in-Some.ahead in
    let f = c.in_err-enter_block-in-Some.field-0.0 in
    let same = c.in_ok-ahead_of.ensures.store in
    let p = err_from_is_err_and c.from_residual-in_err-enter_block-in-Some.result c.from_residual-in_err-enter_block-in-Some.ensures.1 in
    rw (p.1, p.2)
    (joined (λ B. IsAhead was B place (Ok c.in_ok-ahead_of.field-0)) (λ B. IsEntry then B ahead c.enter_block.new.store (Err f))
    (λ B. IsStep is B place c.enter_block.new.store (Err f)) same.layout
    (λ B a e. step_halts B was then is place c.enter_block.new.store ahead f (since _ _ same.layout c.in_ok-ahead_of.ensures.reads)
    (subst (λ r. IsAhead was B place (Ok r)) c.in-Some.is a) e)
    c.in_ok-ahead_of.ensures.content c.in_err-enter_block-in-Some.ensures.content)

pub returns-in_ok-enter_block-in-Some-clause-lent : goal.returns-in_ok-enter_block-in-Some-clause-lent
returns-in_ok-enter_block-in-Some-clause-lent g c = lends_block c.args.store.now c.ahead_of.new.store c.enter_block.new.store _
    c.in_ok-enter_block-in-Some.field-0 c.in_ok-ahead_of.ensures.store
    c.in_ok-enter_block-in-Some.ensures.lent

pub returns-in_ok-enter_block-in-Some-clause-content : goal.returns-in_ok-enter_block-in-Some-clause-content
returns-in_ok-enter_block-in-Some-clause-content g c =
    let was = unread_by c.args.store.now.layout (g.R.Rack.seen c.args.rack.now) (g.R.Rack.seen c.ahead_of.new.rack) in
    let then = unread_by c.ahead_of.new.store.layout (g.R.Rack.seen c.ahead_of.new.rack) (g.R.Rack.seen c.enter_block.new.rack) in
    let is = unread_by c.args.store.now.layout (g.R.Rack.seen c.args.rack.now) (g.R.Rack.seen c.enter_block.new.rack) in
    let place = c.args.place.now in
    let ahead = c.in-Some.ahead in
    let same = c.in_ok-ahead_of.ensures.store in
    joined (λ B. IsAhead was B place (Ok c.in_ok-ahead_of.field-0)) (λ B. IsEntry then B ahead c.enter_block.new.store (Ok c.in_ok-enter_block-in-Some.field-0))
    (λ B. IsStep is B place c.enter_block.new.store (Ok (Some c.in_ok-enter_block-in-Some.field-0))) same.layout
    (λ B a e. step_gives B was then is place c.enter_block.new.store ahead c.in_ok-enter_block-in-Some.field-0
    (subst (λ r. IsAhead was B place (Ok r)) c.in-Some.is a) e)
    c.in_ok-ahead_of.ensures.content c.in_ok-enter_block-in-Some.ensures.content

pub returns-in_err-ahead_of-clause-content : goal.returns-in_err-ahead_of-clause-content
returns-in_err-ahead_of-clause-content g c =
    let p = err_from_is_err_and c.from_residual.result c.from_residual.ensures.1 in
    rw (p.1, p.2) c.in_err-ahead_of.ensures.content
