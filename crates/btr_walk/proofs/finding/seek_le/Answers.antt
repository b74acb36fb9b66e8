use Rattle.std.proofs.Common.{Ok, Err, Some, None, sym, subst}
use Rattle.btr_rack.proofs.Reading.{reads_more}
use Rattle.btr_walk.specs.Reading.{Tells, Reads, unread_by}
use Rattle.btr_walk.specs.Reach.{FindsAndReaches}
use Rattle.btr_walk.proofs.Lending.{given_back, same_then, served_back}
use Rattle.btr_walk.proofs.Joined.{joined, is_leaf_at, is_inner_at, WayOn, stops, finds_none, finds_some, finds_nothing, goes_down, lends_leaf, finds_as}
use Rattle.btr_walk.proofs.Fetched.{since, passed_on}
use Rattle.btr_walk.proofs.finding.seek_le.Goals as goal

pub place_le-requires-clause-good : goal.place_le-requires-clause-good
place_le-requires-clause-good g c = (is_leaf_at c.loop-loan.level c.loop-loan.pointer c.read_block.new.store c.in_ok-loan.loan c.bytes-block.result.now
    c.bytes-block.ensures.value c.in_ok-loan.ensures.good c.if-level-eq0.true).good

pub first_item_key-until-requires-clause-good : goal.first_item_key-until-requires-clause-good
first_item_key-until-requires-clause-good g c = (is_leaf_at c.loop-loan.level c.loop-loan.pointer c.read_block.new.store c.in_ok-loan.loan
    c.bytes-block.result.now c.bytes-block.ensures.value c.in_ok-loan.ensures.good c.if-level-eq0.true).good

pub key_behind-requires-clause-good : goal.key_behind-requires-clause-good
key_behind-requires-clause-good g c = (is_leaf_at c.loop-loan.level c.loop-loan.pointer c.read_block.new.store c.in_ok-loan.loan c.bytes-block.result.now
    c.bytes-block.ensures.value c.in_ok-loan.ensures.good c.if-level-eq0.true).good

pub returns-in-Some-clause-lent : goal.returns-in-Some-clause-lent
returns-in-Some-clause-lent g c =
    let leaf = is_leaf_at c.loop-loan.level c.loop-loan.pointer c.read_block.new.store c.in_ok-loan.loan c.bytes-block.result.now c.bytes-block.ensures.value
    c.in_ok-loan.ensures.good c.if-level-eq0.true in
    lends_leaf c.args.key c.args.root.now c.loop-loan.level c.loop-loan.pointer c.read_block.new.store c.in_ok-loan.loan c.bytes-block.result.now
    c.bytes-block.ensures.value c.args.store.now c.loop-loan.store _ c.in-Some.at c.loop-loan.invariant.same
    c.in_ok-loan.ensures.lent leaf c.in-Some.ensures.within

pub returns-in-Some-clause-content : goal.returns-in-Some-clause-content
returns-in-Some-clause-content g c =
    let is = unread_by c.args.store.now.layout (g.R.Rack.seen c.args.rack.now) (g.R.Rack.seen c.read_block.new.rack) in
    let was = unread_by c.loop-loan.store.layout (g.R.Rack.seen c.loop-loan.rack) (g.R.Rack.seen c.read_block.new.rack) in
    let leaf = is_leaf_at c.loop-loan.level c.loop-loan.pointer c.read_block.new.store c.in_ok-loan.loan c.bytes-block.result.now c.bytes-block.ensures.value
    c.in_ok-loan.ensures.good c.if-level-eq0.true in
    joined (WayOn c.args.key c.args.root.now c.loop-loan.level c.loop-loan.pointer)
    (λ B. Reads was B c.loop-loan.level c.loop-loan.pointer c.read_block.new.store (Ok c.in_ok-loan.loan))
    (λ B. FindsAndReaches is B c.args.root.now c.args.key c.read_block.new.store
    (Ok (record {
      sighted = Some (record { leaf = c.loop-loan.pointer.addr; at = c.in-Some.at; loan = c.in_ok-loan.loan });
      until = c.key_behind.result;
    }))) c.loop-loan.invariant.same.layout
    (finds_some c.args.key c.args.root.now c.loop-loan.level c.loop-loan.pointer c.read_block.new.store c.in_ok-loan.loan c.bytes-block.result.now
    c.bytes-block.ensures.value is c.in-Some.at c.key_behind.result leaf c.in-Some.ensures.within c.key_behind.ensures c.in-Some.ensures.some)
    c.loop-loan.invariant.tells c.in_ok-loan.ensures.content

pub returns-in-None-clause-lent : goal.returns-in-None-clause-lent
returns-in-None-clause-lent g c = same_then c.loop-loan.invariant.same (given_back _ _ _ _ c.in_ok-loan.loan c.in_ok-loan.ensures.lent c.give.ensures)

pub returns-in-None-clause-content : goal.returns-in-None-clause-content
returns-in-None-clause-content g c =
    let is = unread_by c.args.store.now.layout (g.R.Rack.seen c.args.rack.now) (g.R.Rack.seen c.read_block.new.rack) in
    let was = unread_by c.loop-loan.store.layout (g.R.Rack.seen c.loop-loan.rack) (g.R.Rack.seen c.read_block.new.rack) in
    let leaf = is_leaf_at c.loop-loan.level c.loop-loan.pointer c.read_block.new.store c.in_ok-loan.loan c.bytes-block.result.now c.bytes-block.ensures.value
    c.in_ok-loan.ensures.good c.if-level-eq0.true in
    joined (WayOn c.args.key c.args.root.now c.loop-loan.level c.loop-loan.pointer)
    (λ B. Reads was B c.loop-loan.level c.loop-loan.pointer c.read_block.new.store (Ok c.in_ok-loan.loan))
    (λ B. FindsAndReaches is B c.args.root.now c.args.key c.give.new.self (Ok (record { sighted = None; until = c.first_item_key-until.result })))
    c.loop-loan.invariant.same.layout
    (finds_none c.args.key c.args.root.now c.loop-loan.level c.loop-loan.pointer c.read_block.new.store c.in_ok-loan.loan c.bytes-block.result.now
    c.bytes-block.ensures.value is c.give.new.self c.first_item_key-until.result leaf c.in-None.ensures.none
    c.first_item_key-until.ensures) c.loop-loan.invariant.tells c.in_ok-loan.ensures.content

pub child_le-requires-clause-good : goal.child_le-requires-clause-good
child_le-requires-clause-good g c =
    (is_inner_at c.loop-loan.level c.loop-loan.pointer c.read_block.new.store c.in_ok-loan.loan c.bytes-block-in-loop-loan.result.now
    c.bytes-block-in-loop-loan.ensures.value c.in_ok-loan.ensures.good c.if-level-eq0.false).good

pub first_pointer_key-until-requires-clause-good : goal.first_pointer_key-until-requires-clause-good
first_pointer_key-until-requires-clause-good g c = (is_inner_at c.loop-loan.level c.loop-loan.pointer c.read_block.new.store c.in_ok-loan.loan
    c.bytes-block-in-loop-loan.result.now c.bytes-block-in-loop-loan.ensures.value c.in_ok-loan.ensures.good c.if-level-eq0.false).good

pub returns-in-None-child_le-clause-lent : goal.returns-in-None-child_le-clause-lent
returns-in-None-child_le-clause-lent g c = same_then c.loop-loan.invariant.same
    (given_back _ _ _ _ c.in_ok-loan.loan c.in_ok-loan.ensures.lent c.give-in-None-child_le.ensures)

pub returns-in-None-child_le-clause-content : goal.returns-in-None-child_le-clause-content
returns-in-None-child_le-clause-content g c =
    let is = unread_by c.args.store.now.layout (g.R.Rack.seen c.args.rack.now) (g.R.Rack.seen c.read_block.new.rack) in
    let was = unread_by c.loop-loan.store.layout (g.R.Rack.seen c.loop-loan.rack) (g.R.Rack.seen c.read_block.new.rack) in
    let inner = is_inner_at c.loop-loan.level c.loop-loan.pointer c.read_block.new.store c.in_ok-loan.loan c.bytes-block-in-loop-loan.result.now
    c.bytes-block-in-loop-loan.ensures.value c.in_ok-loan.ensures.good c.if-level-eq0.false in
    joined (WayOn c.args.key c.args.root.now c.loop-loan.level c.loop-loan.pointer)
    (λ B. Reads was B c.loop-loan.level c.loop-loan.pointer c.read_block.new.store (Ok c.in_ok-loan.loan))
    (λ B. FindsAndReaches is B c.args.root.now c.args.key c.give-in-None-child_le.new.self
    (Ok (record { sighted = None; until = c.first_pointer_key-until.result }))) c.loop-loan.invariant.same.layout
    (finds_nothing c.args.key c.args.root.now c.loop-loan.level c.loop-loan.pointer c.read_block.new.store c.in_ok-loan.loan
    c.bytes-block-in-loop-loan.result.now
    c.bytes-block-in-loop-loan.ensures.value is c.give-in-None-child_le.new.self c.first_pointer_key-until.result inner
    (sym c.in-None-child_le.ensures) c.first_pointer_key-until.ensures) c.loop-loan.invariant.tells c.in_ok-loan.ensures.content

pub loop-loan-preserved : goal.loop-loan-preserved
loop-loan-preserved g c =
    let inner = is_inner_at c.loop-loan.level c.loop-loan.pointer c.read_block.new.store c.in_ok-loan.loan c.bytes-block-in-loop-loan.result.now
    c.bytes-block-in-loop-loan.ensures.value c.in_ok-loan.ensures.good c.if-level-eq0.false in
    let was = unread_by c.loop-loan.store.layout (g.R.Rack.seen c.loop-loan.rack) (g.R.Rack.seen c.read_block.new.rack) in
    record {
      reads = reads_more c.loop-loan.invariant.reads c.in_ok-loan.ensures.reads;
      serves = served_back _ c.read_block.new.store c.give-in-Some-child_le.new.self c.in_ok-loan.loan c.in_ok-loan.ensures.serves
          c.give-in-Some-child_le.ensures;
      same = same_then c.loop-loan.invariant.same (given_back _ _ _ _ c.in_ok-loan.loan c.in_ok-loan.ensures.lent c.give-in-Some-child_le.ensures);
      tells = joined (WayOn c.args.key c.args.root.now c.loop-loan.level c.loop-loan.pointer)
          (λ B. Reads was B c.loop-loan.level c.loop-loan.pointer c.read_block.new.store (Ok c.in_ok-loan.loan))
          (WayOn c.args.key c.args.root.now _ c.in-Some-child_le.below) c.loop-loan.invariant.same.layout
          (goes_down c.args.key c.args.root.now c.loop-loan.level c.loop-loan.pointer
          c.read_block.new.store c.in_ok-loan.loan c.bytes-block-in-loop-loan.result.now
          c.bytes-block-in-loop-loan.ensures.value was c.in-Some-child_le.below inner
          (sym c.in-Some-child_le.ensures)) c.loop-loan.invariant.tells c.in_ok-loan.ensures.content;
    }

pub returns-in_err-loan-clause-content : goal.returns-in_err-loan-clause-content
returns-in_err-loan-clause-content g c =
    let old = g.R.Rack.seen c.args.rack.now in
    let new = g.R.Rack.seen c.read_block.new.rack in
    let store = c.read_block.new.store in
    let level = c.loop-loan.level in
    let pointer = c.loop-loan.pointer in
    let is = unread_by c.args.store.now.layout old new in
    let was = unread_by c.loop-loan.store.layout (g.R.Rack.seen c.loop-loan.rack) new in
    let fault = c.in_err-loan.field-0.0 in
    let told : Tells c.loop-loan.store.layout (g.R.Rack.seen c.loop-loan.rack) new (λ B. Reads was B level pointer store (Err fault)) =
    subst (λ r. Tells c.loop-loan.store.layout (g.R.Rack.seen c.loop-loan.rack) new (λ B. Reads was B level pointer store r))
    (c.in_err-loan.was {u = tt}) c.read_block.ensures.content in
    passed_on (λ r. Tells c.args.store.now.layout old new (λ B. FindsAndReaches is B c.args.root.now c.args.key store r)) c.from_residual.result fault
    c.from_residual.ensures.1
    (joined (WayOn c.args.key c.args.root.now level pointer) (λ B. Reads was B level pointer store (Err fault))
    (λ B. FindsAndReaches is B c.args.root.now c.args.key store (Err fault)) c.loop-loan.invariant.same.layout
    (λ B way reads. finds_as B was is c.args.root.now c.args.key store (Err fault)
    (since _ _ c.loop-loan.invariant.same.layout c.loop-loan.invariant.reads) (stops c.args.key c.args.root.now level pointer was store fault B way reads))
    c.loop-loan.invariant.tells told)

pub returns-in-None-clause-serves : goal.returns-in-None-clause-serves
returns-in-None-clause-serves g c = served_back _ c.read_block.new.store c.give.new.self c.in_ok-loan.loan c.in_ok-loan.ensures.serves c.give.ensures

pub returns-in-None-child_le-clause-serves : goal.returns-in-None-child_le-clause-serves
returns-in-None-child_le-clause-serves g c = served_back _ c.read_block.new.store c.give-in-None-child_le.new.self c.in_ok-loan.loan
    c.in_ok-loan.ensures.serves c.give-in-None-child_le.ensures
