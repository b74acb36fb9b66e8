use Rattle.std.proofs.Common.{◌≡◌, ℕ, List, Ok, Err}
use Rattle.std.proofs.lemmas.Result.{err_from_is_err_and}
use Rattle.btr_walk.specs.Le.{want_of}
use Rattle.btr_walk.specs.Preorder.{path_blocks, place_of, Enters, IsEntry}
use Rattle.btr_walk.specs.Reading.{Reads, unread_by}
use Rattle.btr_walk.proofs.Fetched.{some_block}
use Rattle.btr_walk.proofs.Joined.{drawn, block_is}
use Rattle.btr_walk.proofs.Preorders.{blocks_halt}
use Rattle.btr_walk.proofs.preorder.enter_block.Goals as goal

pub returns-in_err-loan-clause-content : goal.returns-in_err-loan-clause-content
returns-in_err-loan-clause-content g c =
    let is = unread_by c.args.store.now.layout (g.R.Rack.seen c.args.rack.now) (g.R.Rack.seen c.read_block.new.rack) in
    let ahead = c.args.ahead.now in
    let store = c.read_block.new.store in
    let p = err_from_is_err_and c.from_residual.result c.from_residual.ensures.1 in
    rw (p.1, p.2)
    (drawn c.args.store.now.layout (λ B. Reads is B ahead.todo.level ahead.todo.pointer store (Err c.in_err-loan.field-0.0))
    (λ B. IsEntry is B ahead store (Err c.in_err-loan.field-0.0))
    (λ B h seen on. blocks_halt B is ahead.todo.level ahead.todo.pointer store c.in_err-loan.field-0.0
    (path_blocks B 0 ahead.path) seen h) c.in_err-loan.ensures.content)

pub returns-clause-content : goal.returns-clause-content
returns-clause-content g c =
    let is = unread_by c.args.store.now.layout (g.R.Rack.seen c.args.rack.now) (g.R.Rack.seen c.read_block.new.rack) in
    let ahead = c.args.ahead.now in
    let store = c.read_block.new.store in
    let block = c.bytes.result.now in
    let place = c.behind-place.result in
    drawn c.args.store.now.layout (λ B. Reads is B ahead.todo.level ahead.todo.pointer store (Ok c.in_ok-loan.loan))
    (λ B. IsEntry is B ahead store (Ok (record { addr = ahead.todo.pointer.addr; level = ahead.todo.level; loan = c.in_ok-loan.loan; place = place })))
    (λ B h seen on. some_block store c.in_ok-loan.loan block (λ (b : List ℕ). Enters B seen (place_of ahead) place (want_of ahead.todo.level ahead.todo.pointer)
    (record { addr = ahead.todo.pointer.addr; level = ahead.todo.level; bytes = b })) c.bytes.ensures.value
    (c.behind-place.ensures.behind B seen (block_is store c.in_ok-loan.loan block (λ (b : List ℕ). B (want_of ahead.todo.level ahead.todo.pointer) ≡ Ok b)
    c.bytes.ensures.value h) on)) c.in_ok-loan.ensures.content
