use Rattle.std.proofs.Common.{◌≡◌, ◌≤◌, ℕ, List, Ok, Err, IsTrue, length, refl, ap, arith}
use Rattle.std.proofs.lemmas.Result.{err_from_is_err_and}
use Rattle.btr_node.specs.Block.{items, is_leaf}
use Rattle.btr_walk.specs.declared.fault.TreeFault.TheVariants as tree
use Rattle.btr_walk.specs.Le.{want_of}
use Rattle.btr_walk.specs.Reading.{Reads, unread_by}
use Rattle.btr_walk.proofs.Fetched.{some_block}
use Rattle.btr_walk.proofs.Hands.{again_halts, again_short, again_held}
use Rattle.btr_walk.proofs.Joined.{drawn, block_is, is_leaf_at}
use Rattle.btr_walk.proofs.Lending.{given_back, served_back}
use Rattle.btr_walk.proofs.leaf_again.read_leaf.Goals as goal
use Rattle.btr_walk.specs.Hand.{IsLeafAgain}

pub returns-in_err-loan-clause-content : goal.returns-in_err-loan-clause-content
returns-in_err-loan-clause-content g c =
    let is = unread_by c.args.store.now.layout (g.R.Rack.seen c.args.rack.now) (g.R.Rack.seen c.read_block.new.rack) in
    let frame = c.args.frame.now in
    let store = c.read_block.new.store in
    let p = err_from_is_err_and c.from_residual.result c.from_residual.ensures.1 in
    rw (p.1, p.2)
    (drawn c.args.store.now.layout (λ B. Reads is B 0 frame.pointer store (Err c.in_err-loan.field-0.0))
    (λ B. IsLeafAgain is B frame store (Err c.in_err-loan.field-0.0))
    (λ B h. again_halts is B frame store c.in_err-loan.field-0.0 h) c.in_err-loan.ensures.content)

pub of-requires-clause-good : goal.of-requires-clause-good
of-requires-clause-good g c = (is_leaf_at 0 c.args.frame.now.pointer c.read_block.new.store c.in_ok-loan.loan c.bytes.result.now c.bytes.ensures.value
    c.in_ok-loan.ensures.good refl).good

pub returns-then-count-frame-clause-serves : goal.returns-then-count-frame-clause-serves
returns-then-count-frame-clause-serves g c = served_back _ c.read_block.new.store c.give.new.self c.in_ok-loan.loan c.in_ok-loan.ensures.serves c.give.ensures

pub returns-then-count-frame-clause-lent : goal.returns-then-count-frame-clause-lent
returns-then-count-frame-clause-lent g c = given_back _ _ _ _ c.in_ok-loan.loan c.in_ok-loan.ensures.lent c.give.ensures

pub returns-then-count-frame-clause-content : goal.returns-then-count-frame-clause-content
returns-then-count-frame-clause-content g c =
    let is = unread_by c.args.store.now.layout (g.R.Rack.seen c.args.rack.now) (g.R.Rack.seen c.read_block.new.rack) in
    let frame = c.args.frame.now in
    let store = c.read_block.new.store in
    let block = c.bytes.result.now in
    let same : length c.of.result ≡ length (items block) = ap length c.of.ensures in
    drawn c.args.store.now.layout (λ B. Reads is B 0 frame.pointer store (Ok c.in_ok-loan.loan))
    (λ B. IsLeafAgain is B frame c.give.new.self (Err (tree.Malformed frame.pointer.addr)))
    (λ B h. again_short is B frame store c.in_ok-loan.loan block c.bytes.ensures.value
    (block_is store c.in_ok-loan.loan block (λ (b : List ℕ). B (want_of 0 frame.pointer) ≡ Ok b) c.bytes.ensures.value h) c.give.new.self frame.pointer.addr
    (omega (arith, same, c.count-count.ensures.all, c.if-count-frame.true))) c.in_ok-loan.ensures.content

pub returns-clause-lent : goal.returns-clause-lent
returns-clause-lent g c =
    let block = c.bytes.result.now in
    let leaf = is_leaf_at 0 c.args.frame.now.pointer c.read_block.new.store c.in_ok-loan.loan block c.bytes.ensures.value c.in_ok-loan.ensures.good refl in
    let same : length c.of.result ≡ length (items block) = ap length c.of.ensures in
    record {
      others = given_back _ _ _ _ c.in_ok-loan.loan c.in_ok-loan.ensures.lent refl;
      hand = record {
        live = c.in_ok-loan.ensures.lent.live;
        large = c.in_ok-loan.ensures.lent.large;
        small = omega (arith, c.count-count.ensures.small, c.if-count-frame.false);
        good = some_block c.read_block.new.store c.in_ok-loan.loan block (λ (b : List ℕ). IsTrue (is_leaf b) × (c.args.frame.now.end ≤ length (items b)))
            c.bytes.ensures.value (leaf.good, omega (arith, same, c.count-count.ensures.all, c.if-count-frame.false));
      };
    }

pub returns-clause-content : goal.returns-clause-content
returns-clause-content g c =
    let is = unread_by c.args.store.now.layout (g.R.Rack.seen c.args.rack.now) (g.R.Rack.seen c.read_block.new.rack) in
    let frame = c.args.frame.now in
    let store = c.read_block.new.store in
    let block = c.bytes.result.now in
    drawn c.args.store.now.layout (λ B. Reads is B 0 frame.pointer store (Ok c.in_ok-loan.loan))
    (λ B. IsLeafAgain is B frame store (Ok (record { pointer = frame.pointer; next = frame.next; end = frame.end; loan = c.in_ok-loan.loan })))
    (λ B h. again_held is B frame store c.in_ok-loan.loan block c.bytes.ensures.value
    (block_is store c.in_ok-loan.loan block (λ (b : List ℕ). B (want_of 0 frame.pointer) ≡ Ok b) c.bytes.ensures.value h)) c.in_ok-loan.ensures.content
