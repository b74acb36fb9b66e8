use Rattle.std.proofs.Common.{◌≡◌, ◌≤◌, ℕ, List, Ok, IsTrue, length, refl}
use Rattle.btr_node.specs.Block.{items, pointers, is_leaf}
use Rattle.btr_prog.specs.Prog.{Wants, first, exec}
use Rattle.btr_walk.specs.declared.entering.Entered.TheVariants.{Leaf, Inner}
use Rattle.btr_walk.specs.Le.{want_of}
use Rattle.btr_walk.specs.Range.{RangeProg, emit_all, range_at}
use Rattle.btr_walk.specs.Scans.{part_items}
use Rattle.btr_walk.specs.Reading.{Reads, unread_by}
use Rattle.btr_walk.specs.Entering.{IsEntered}
use Rattle.btr_walk.proofs.Fetched.{some_block}
use Rattle.btr_walk.proofs.Lending.{given_back, served_back}
use Rattle.btr_walk.proofs.Joined.{drawn, block_is, is_leaf_at, is_inner_at}
use Rattle.btr_walk.proofs.Entered.{enter_leaf, held_leaf, enter_inner, enter_frame, enter_todo}
use Rattle.btr_walk.proofs.Ranking.{fits_first}
use Rattle.btr_walk.proofs.entering.enter.Goals as goal

pub part_of-part-requires-clause-good : goal.part_of-part-requires-clause-good
part_of-part-requires-clause-good g c = (is_leaf_at c.args.todo.now.level c.args.todo.now.pointer c.read_block.new.store c.in_ok-loan.loan
    c.bytes.result.now c.bytes.ensures.value c.in_ok-loan.ensures.good c.if-todo-eq0.true).good

pub returns-then-todo-eq0-clause-lent : goal.returns-then-todo-eq0-clause-lent
returns-then-todo-eq0-clause-lent g c =
    let leaf = is_leaf_at c.args.todo.now.level c.args.todo.now.pointer c.read_block.new.store c.in_ok-loan.loan c.bytes.result.now c.bytes.ensures.value
    c.in_ok-loan.ensures.good c.if-todo-eq0.true in
    record {
      others = given_back _ _ _ _ c.in_ok-loan.loan c.in_ok-loan.ensures.lent refl;
      hand = record {
        live = c.in_ok-loan.ensures.lent.live;
        large = c.in_ok-loan.ensures.lent.large;
        small = c.part_of-part.ensures.fits;
        good = some_block c.read_block.new.store c.in_ok-loan.loan c.bytes.result.now
            (λ (block : List ℕ). IsTrue (is_leaf block) × (c.part_of-part.result.end ≤ length (items block))) c.bytes.ensures.value
            (leaf.good, c.part_of-part.ensures.part.within);
      };
    }

pub returns-then-todo-eq0-clause-content : goal.returns-then-todo-eq0-clause-content
returns-then-todo-eq0-clause-content g c =
    let is = unread_by c.args.store.now.layout (g.R.Rack.seen c.args.rack.now) (g.R.Rack.seen c.read_block.new.rack) in
    let todo = c.args.todo.now in
    let store = c.read_block.new.store in
    let block = c.bytes.result.now in
    let leaf = is_leaf_at todo.level todo.pointer store c.in_ok-loan.loan block c.bytes.ensures.value c.in_ok-loan.ensures.good c.if-todo-eq0.true in
    drawn c.args.store.now.layout (λ B. Reads is B todo.level todo.pointer store (Ok c.in_ok-loan.loan))
    (λ B. IsEntered c.args.lo c.args.hi is B todo store (Ok (Leaf
    (record { pointer = todo.pointer; next = c.part_of-part.result.next; end = c.part_of-part.result.end; loan = c.in_ok-loan.loan }))))
    (λ B reads. let e = block_is store c.in_ok-loan.loan block (λ (b : List ℕ). B (want_of todo.level todo.pointer) ≡ Ok b) c.bytes.ensures.value reads in (
      some_block store c.in_ok-loan.loan block (λ (b : List ℕ). (rest : RangeProg) → exec B (range_at c.args.lo c.args.hi todo.level todo.pointer rest)
          ≡ first (Wants (want_of todo.level todo.pointer)) (exec B
          (emit_all (part_items todo.pointer.addr b c.part_of-part.result.next c.part_of-part.result.end) rest))) c.bytes.ensures.value
          (enter_leaf c.args.lo c.args.hi B todo.level todo.pointer block c.part_of-part.result leaf c.part_of-part.ensures.part e),
      λ seen read. held_leaf c.args.lo c.args.hi B todo.level todo.pointer block store c.part_of-part.result.next c.part_of-part.result.end
          c.in_ok-loan.loan seen leaf c.bytes.ensures.value e read,
    ))
    c.in_ok-loan.ensures.content

pub choose-requires-clause-good : goal.choose-requires-clause-good
choose-requires-clause-good g c = (is_inner_at c.args.todo.now.level c.args.todo.now.pointer c.read_block.new.store c.in_ok-loan.loan
    c.bytes-block.result.now c.bytes-block.ensures.value c.in_ok-loan.ensures.good c.if-todo-eq0.false).good

pub first_of-below-requires-clause-good : goal.first_of-below-requires-clause-good
first_of-below-requires-clause-good g c = (is_inner_at c.args.todo.now.level c.args.todo.now.pointer c.read_block.new.store c.in_ok-loan.loan
    c.bytes-block.result.now c.bytes-block.ensures.value c.in_ok-loan.ensures.good c.if-todo-eq0.false).good

pub returns-clause-lent : goal.returns-clause-lent
returns-clause-lent g c = given_back _ _ _ _ c.in_ok-loan.loan c.in_ok-loan.ensures.lent c.give.ensures

pub returns-clause-serves : goal.returns-clause-serves
returns-clause-serves g c = served_back _ c.read_block.new.store c.give.new.self c.in_ok-loan.loan c.in_ok-loan.ensures.serves c.give.ensures

pub returns-clause-content : goal.returns-clause-content
returns-clause-content g c =
    let is = unread_by c.args.store.now.layout (g.R.Rack.seen c.args.rack.now) (g.R.Rack.seen c.read_block.new.rack) in
    let todo = c.args.todo.now in
    let store = c.read_block.new.store in
    let block = c.bytes-block.result.now in
    let inner = is_inner_at todo.level todo.pointer store c.in_ok-loan.loan block c.bytes-block.ensures.value c.in_ok-loan.ensures.good c.if-todo-eq0.false in
    drawn c.args.store.now.layout (λ B. Reads is B todo.level todo.pointer store (Ok c.in_ok-loan.loan))
    (λ B. IsEntered c.args.lo c.args.hi is B todo c.give.new.self (Ok (Inner c.first_of-below.result)))
    (λ B reads up.
    let e = block_is store c.in_ok-loan.loan block (λ (b : List ℕ). B (want_of todo.level todo.pointer) ≡ Ok b) c.bytes-block.ensures.value reads in
    let choice = c.choose.ensures.choice in
    let b = c.first_of-below.result in (
      enter_inner c.args.lo c.args.hi B todo block c.choose.result b inner choice c.first_of-below.ensures e up,
      enter_frame c.args.lo c.args.hi B todo block c.choose.result b inner choice c.first_of-below.ensures e up,
      enter_todo c.args.lo c.args.hi B todo block c.choose.result b inner choice c.first_of-below.ensures e up,
      (fits_first (pointers block) todo c.choose.result b inner.some inner.few c.choose.ensures.fits c.first_of-below.ensures).todo,
    ))
    c.in_ok-loan.ensures.content

pub returns-clause-level : goal.returns-clause-level
returns-clause-level g c =
    let inner = is_inner_at c.args.todo.now.level c.args.todo.now.pointer c.read_block.new.store c.in_ok-loan.loan c.bytes-block.result.now
    c.bytes-block.ensures.value c.in_ok-loan.ensures.good c.if-todo-eq0.false in
    fits_first _ c.args.todo.now c.choose.result c.first_of-below.result inner.some inner.few c.choose.ensures.fits c.first_of-below.ensures
