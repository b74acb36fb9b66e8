use Rattle.std.proofs.Common.{◌≡◌, ℕ, List, Ok, Err, length, ap, subst, arith}
use Rattle.std.proofs.lemmas.Result.{err_from_is_err_and}
use Rattle.btr_node.specs.Block.{pointers}
use Rattle.btr_node.specs.declared.node.Node.TheVariants.{Inner}
use Rattle.btr_walk.specs.declared.fault.TreeFault.TheVariants as tree
use Rattle.btr_walk.specs.Le.{want_of}
use Rattle.btr_walk.specs.Reading.{Reads, unread_by}
use Rattle.btr_walk.specs.Again.{IsNextBelow, Rereads}
use Rattle.btr_walk.proofs.Halting.{read_still, same_block}
use Rattle.btr_walk.proofs.Lending.{given_back, served_back}
use Rattle.btr_walk.proofs.Joined.{drawn, block_is, is_inner_at}
use Rattle.btr_walk.proofs.again.read_again.Goals as goal

pub returns-in_err-loan-clause-content : goal.returns-in_err-loan-clause-content
returns-in_err-loan-clause-content g c =
    let is = unread_by c.args.store.now.layout (g.R.Rack.seen c.args.rack.now) (g.R.Rack.seen c.read_block.new.rack) in
    let frame = c.args.frame.now in
    let store = c.read_block.new.store in
    let p = err_from_is_err_and c.from_residual.result c.from_residual.ensures.1 in
    rw (p.1, p.2)
    (drawn c.args.store.now.layout (λ B. Reads is B c.args.level frame.pointer store (Err c.in_err-loan.field-0.0))
    (λ B. Rereads is B c.args.level frame (Err c.in_err-loan.field-0.0))
    (λ B h seen node. read_still is B seen c.args.level frame.pointer store c.in_err-loan.field-0.0 node.block (Inner (pointers node.block)) node.came node.is
    node.read h) c.in_err-loan.ensures.content)

pub next_of-below-requires-clause-good : goal.next_of-below-requires-clause-good
next_of-below-requires-clause-good g c =
    (is_inner_at c.args.level c.args.frame.now.pointer c.read_block.new.store c.in_ok-loan.loan c.bytes.result.now c.bytes.ensures.value
    c.in_ok-loan.ensures.good (λ e. absurd (omega (arith, e, c.requires.some)))).good

pub returns-in-Some-clause-store : goal.returns-in-Some-clause-store
returns-in-Some-clause-store g c = given_back _ _ _ _ c.in_ok-loan.loan c.in_ok-loan.ensures.lent c.give.ensures

pub returns-in-Some-clause-content : goal.returns-in-Some-clause-content
returns-in-Some-clause-content g c =
    let is = unread_by c.args.store.now.layout (g.R.Rack.seen c.args.rack.now) (g.R.Rack.seen c.read_block.new.rack) in
    let frame = c.args.frame.now in
    let want = want_of c.args.level frame.pointer in
    let b = c.in-Some.below in
    drawn c.args.store.now.layout (λ B. Reads is B c.args.level frame.pointer c.read_block.new.store (Ok c.in_ok-loan.loan))
    (λ B. Rereads is B c.args.level frame (Ok b))
    (λ B reads seen node.
    let came = block_is c.read_block.new.store c.in_ok-loan.loan c.bytes.result.now (λ (x : List ℕ). B want ≡ Ok x) c.bytes.ensures.value reads in
    subst (λ (x : List ℕ). IsNextBelow (pointers x) c.args.level frame b.frame b.todo)
    (same_block B want c.bytes.result.now node.block came node.came) c.in-Some.ensures) c.in_ok-loan.ensures.content

pub returns-in-None-clause-store : goal.returns-in-None-clause-store
returns-in-None-clause-store g c = given_back _ _ _ _ c.in_ok-loan.loan c.in_ok-loan.ensures.lent c.give.ensures

pub returns-in-None-clause-content : goal.returns-in-None-clause-content
returns-in-None-clause-content g c =
    let is = unread_by c.args.store.now.layout (g.R.Rack.seen c.args.rack.now) (g.R.Rack.seen c.read_block.new.rack) in
    let frame = c.args.frame.now in
    let want = want_of c.args.level frame.pointer in
    let block = c.bytes.result.now in
    drawn c.args.store.now.layout (λ B. Reads is B c.args.level frame.pointer c.read_block.new.store (Ok c.in_ok-loan.loan))
    (λ B. Rereads is B c.args.level frame (Err (tree.Malformed frame.pointer.addr)))
    (λ B reads seen node.
    let came = block_is c.read_block.new.store c.in_ok-loan.loan block (λ (x : List ℕ). B want ≡ Ok x) c.bytes.ensures.value reads in
    let same = same_block B want block node.block came node.came in
    let count : length (pointers block) ≡ length (pointers node.block) = ap (λ (x : List ℕ). length (pointers x)) same in
    let more = node.more in
    let within = node.within in
    absurd (omega (arith, count, more, within, c.in-None.ensures))) c.in_ok-loan.ensures.content

pub returns-in-Some-clause-serves : goal.returns-in-Some-clause-serves
returns-in-Some-clause-serves g c = served_back _ c.read_block.new.store c.give.new.self c.in_ok-loan.loan c.in_ok-loan.ensures.serves c.give.ensures

pub returns-in-None-clause-serves : goal.returns-in-None-clause-serves
returns-in-None-clause-serves g c = served_back _ c.read_block.new.store c.give.new.self c.in_ok-loan.loan c.in_ok-loan.ensures.serves c.give.ensures
