use Rattle.std.proofs.Common.{◌≡◌, ◌≤◌, IfSome, ℕ, List, Ok, Err, None, Some, IsTrue, refl, sym, ap, subst, length, ◌∙◌, arith}
use Rattle.btr_node.specs.Block.{items, pointers, is_leaf}
use Rattle.btr_walk.specs.declared.place.RootPlace.{RootPlace}
use Rattle.btr_walk.specs.Le.{want_of}
use Rattle.btr_read.specs.declared.want.Want.{Want}
use Rattle.btr_walk.specs.Scans.{IsChoice, IsPart}
use Rattle.btr_walk.specs.Reading.{Reads, CauseOf, unread_by}
use Rattle.btr_walk.proofs.Fetched.{some_block}
use Rattle.btr_walk.proofs.Lending.{given_back, served_back}
use Rattle.btr_walk.proofs.Joined.{drawn, block_is, is_leaf_at, is_inner_at}
use Rattle.btr_read.specs.Store.{block_of}
use Rattle.btr_walk.specs.declared.leaf_at.LeafAt.{LeafAt}
use Rattle.btr_walk.specs.declared.going.Where.{Where}
use Rattle.btr_tour.specs.Tour.{place_of}
use Rattle.btr_read.specs.Store.{SameLoans}
use Rattle.btr_walk.specs.Lending.{base}
use Rattle.btr_tour.specs.Shape.{rank_on, StepRankFalls}
use Rattle.btr_tour.specs.Steps.{Arrived, arrived, HasStep, Advances, StepCause, MeetsBlock}
use Rattle.btr_tour.specs.Place.{place_left}
use Rattle.btr_tour.proofs.Enters.{same_block, enter_leaf, enter_node, enter_fault, todo_wanted, out_shaped, out_step, out_leaf, out_cause}
use Rattle.btr_tour.proofs.Ranking.{leaf_rank_falls, out_rank_falls, node_rank_falls, fits_part}
use Rattle.btr_walk.specs.Going.{IsAlong}
use Rattle.btr_walk.specs.Hand.{IsInHand, loan_of}
use Rattle.btr_walk.specs.Ranks.{IsShaped}
use Rattle.btr_tour.proofs.entering.enter.Goals as goal

pub part_of-part-requires-clause-good : goal.part_of-part-requires-clause-good
part_of-part-requires-clause-good g c = (is_leaf_at c.args.todo.now.level c.args.todo.now.pointer c.read_block.new.store c.in-Ok.loan
    c.bytes-then-todo-eq0.result.now c.bytes-then-todo-eq0.ensures.value c.in-Ok.ensures.good c.if-todo-eq0.true).good

pub choose-part-requires-clause-good : goal.choose-part-requires-clause-good
choose-part-requires-clause-good g c = (is_inner_at c.args.todo.now.level c.args.todo.now.pointer c.read_block.new.store c.in-Ok.loan
    c.bytes-in-Ok.result.now c.bytes-in-Ok.ensures.value c.in-Ok.ensures.good c.if-todo-eq0.false).good

pub set_frame-requires : goal.set_frame-requires
set_frame-requires g c =
    let inner = is_inner_at c.args.todo.now.level c.args.todo.now.pointer c.read_block.new.store c.in-Ok.loan c.bytes-in-Ok.result.now
    c.bytes-in-Ok.ensures.value c.in-Ok.ensures.good c.if-todo-eq0.false in
    let some = inner.some in
    let few = inner.few in
    omega (arith, some, few)

pub returns-in-Err-clause-rank_falls : goal.returns-in-Err-clause-rank_falls
returns-in-Err-clause-rank_falls g c =
    let place = c.args.place.now in
    subst (λ (a : Arrived). StepRankFalls (rank_on place None) (rank_on a.place a.leaf) a.step) (sym c.left_out.ensures)
    (out_rank_falls place c.args.todo.now.level c.args.todo.now.pointer c.in-Err.fault c.requires.todo)

pub returns-in-Err-clause-shaped : goal.returns-in-Err-clause-shaped
returns-in-Err-clause-shaped g c =
    let place = c.args.place.now in
    let after : Where = record { path = place.path; todo = None } in
    let s = c.requires.shaped in
    subst (λ (a : Arrived). IsShaped a.place) (sym c.left_out.ensures)
    (out_shaped place after c.in-Err.fault s (record { long = s.long; frames = s.frames; above = tt }))

pub returns-in-Err-clause-step : goal.returns-in-Err-clause-step
returns-in-Err-clause-step g c =
    let place = c.args.place.now in
    subst (λ (a : Arrived). HasStep place a.place a.leaf a.step) (sym c.left_out.ensures)
    (out_step place (record { path = place.path; todo = None }) c.in-Err.fault)

pub returns-in-Err-clause-others : goal.returns-in-Err-clause-others
returns-in-Err-clause-others g c =
    let none = ap (λ (a : Arrived). a.leaf) c.left_out.ensures ∙ out_leaf c.args.place.now
    (record { path = c.args.place.now.path; todo = None }) c.in-Err.fault in
    subst (λ l. SameLoans c.args.store.now (base c.read_block.new.store (loan_of l))) (sym none) c.in-Err.ensures.refused

pub returns-in-Err-clause-hand : goal.returns-in-Err-clause-hand
returns-in-Err-clause-hand g c =
    let none = ap (λ (a : Arrived). a.leaf) c.left_out.ensures ∙ out_leaf c.args.place.now
    (record { path = c.args.place.now.path; todo = None }) c.in-Err.fault in
    subst (λ l. IfSome l (IsInHand c.read_block.new.store)) (sym none) tt

pub returns-in-Err-clause-content : goal.returns-in-Err-clause-content
returns-in-Err-clause-content g c =
    let is = unread_by c.args.store.now.layout (g.R.Rack.seen c.args.rack.now) (g.R.Rack.seen c.read_block.new.rack) in
    let lo = c.args.scope.now.lo in
    let hi = c.args.scope.now.hi in
    let sums = c.args.scope.now.sums in
    let place = c.args.place.now in
    let todo = c.args.todo.now in
    let store = c.read_block.new.store in
    drawn c.args.store.now.layout (λ B. Reads is B todo.level todo.pointer store (Err c.in-Err.fault))
    (λ B. Advances lo hi B is (λ seen. Unit {0}) sums place (place_left lo hi B place) store (arrived c.left_out.new.place c.left_out.result))
    (λ B reads. subst (Advances lo hi B is (λ seen. Unit {0}) sums place (place_left lo hi B place) store) (sym c.left_out.ensures)
    (enter_fault lo hi B is sums place todo.level todo.pointer store c.in-Err.fault c.requires.todo reads)) c.in-Err.ensures.content

pub returns-in-Err-clause-cause : goal.returns-in-Err-clause-cause
returns-in-Err-clause-cause g c =
    let layout = c.args.store.now.layout in
    let before = g.R.Rack.seen c.args.rack.now in
    let now = g.R.Rack.seen c.read_block.new.rack in
    let place = c.args.place.now in
    subst (λ (a : Arrived). StepCause layout before now place a.step) (sym c.left_out.ensures)
    (out_cause layout before now place (record { path = place.path; todo = None }) c.in-Err.fault
    (todo_wanted place c.args.todo.now (λ want. CauseOf layout want before now c.in-Err.fault) c.requires.todo c.in-Err.ensures.of_want))

pub returns-then-todo-eq0-clause-others : goal.returns-then-todo-eq0-clause-others
returns-then-todo-eq0-clause-others g c = given_back _ _ _ _ c.in-Ok.loan c.in-Ok.ensures.lent refl

pub returns-then-todo-eq0-clause-hand : goal.returns-then-todo-eq0-clause-hand
returns-then-todo-eq0-clause-hand g c =
    let block = c.bytes-then-todo-eq0.result.now in
    let leaf = is_leaf_at c.args.todo.now.level c.args.todo.now.pointer c.read_block.new.store c.in-Ok.loan block c.bytes-then-todo-eq0.ensures.value
    c.in-Ok.ensures.good c.if-todo-eq0.true in
    let part = c.part_of-part.result in
    record {
      live = c.in-Ok.ensures.lent.live;
      large = c.in-Ok.ensures.lent.large;
      small = c.part_of-part.ensures.fits;
      good = some_block c.read_block.new.store c.in-Ok.loan block (λ (b : List ℕ). IsTrue (is_leaf b) × (part.end ≤ length (items b)))
          c.bytes-then-todo-eq0.ensures.value (leaf.good, c.part_of-part.ensures.part.within);
    }

pub returns-then-todo-eq0-clause-rank_falls : goal.returns-then-todo-eq0-clause-rank_falls
returns-then-todo-eq0-clause-rank_falls g c =
    leaf_rank_falls c.args.place.now c.args.todo.now.level c.args.todo.now.pointer
    (record { pointer = c.args.todo.now.pointer; next = c.part_of-part.result.next; end = c.part_of-part.result.end; loan = c.in-Ok.loan }) c.requires.todo
    c.part_of-part.ensures.fits

pub returns-then-todo-eq0-clause-content : goal.returns-then-todo-eq0-clause-content
returns-then-todo-eq0-clause-content g c =
    let is = unread_by c.args.store.now.layout (g.R.Rack.seen c.args.rack.now) (g.R.Rack.seen c.read_block.new.rack) in
    let lo = c.args.scope.now.lo in
    let hi = c.args.scope.now.hi in
    let sums = c.args.scope.now.sums in
    let place = c.args.place.now in
    let todo = c.args.todo.now in
    let store = c.read_block.new.store in
    let loan = c.in-Ok.loan in
    let block = c.bytes.result.now in
    let part = c.part_of-part.result in
    let after : Where = record { path = place.path; todo = None } in
    let hand : LeafAt = record { pointer = todo.pointer; next = part.next; end = part.end; loan = loan } in
    let leaf = is_leaf_at todo.level todo.pointer store loan block c.bytes.ensures.value c.in-Ok.ensures.good c.if-todo-eq0.true in
    let is_part : IsPart lo hi (items block) part =
    subst (λ (b : List ℕ). IsPart lo hi (items b) part) (same_block
    (block_of store loan) c.bytes-then-todo-eq0.result.now block c.bytes-then-todo-eq0.ensures.value
    c.bytes.ensures.value) c.part_of-part.ensures.part in
    drawn c.args.store.now.layout (λ B. Reads is B todo.level todo.pointer store (Ok loan))
    (λ B. (seen : List Want) → IsAlong lo hi B seen place → Unit {0}
    → MeetsBlock lo hi B seen sums (place_left lo hi B place) store after (Some hand) c.place_of.result c.read.result)
    (λ B reads seen on none. subst (λ (at : RootPlace). MeetsBlock lo hi B seen sums (place_left lo hi B place) store after (Some hand) at
    c.read.result) (sym c.place_of.ensures) (
    subst (MeetsBlock lo hi B seen sums (place_left lo hi B place) store after (Some hand) (place_of todo.level todo.pointer)) (sym c.read.ensures) (
    enter_leaf lo hi B seen sums place todo.level todo.pointer store loan block part c.requires.todo c.if-todo-eq0.true leaf
    (block_is store loan block (λ (b : List ℕ). B (want_of todo.level todo.pointer) ≡ Ok b) c.bytes.ensures.value reads) c.bytes.ensures.value is_part on)))
    c.in-Ok.ensures.content

pub returns-else-todo-eq0-clause-serves : goal.returns-else-todo-eq0-clause-serves
returns-else-todo-eq0-clause-serves g c = served_back _ c.read_block.new.store c.give.new.self c.in-Ok.loan c.in-Ok.ensures.serves c.give.ensures

pub returns-else-todo-eq0-clause-others : goal.returns-else-todo-eq0-clause-others
returns-else-todo-eq0-clause-others g c = given_back _ _ _ _ c.in-Ok.loan c.in-Ok.ensures.lent c.give.ensures

pub returns-else-todo-eq0-clause-shaped : goal.returns-else-todo-eq0-clause-shaped
returns-else-todo-eq0-clause-shaped g c =
    let inner = is_inner_at c.args.todo.now.level c.args.todo.now.pointer c.read_block.new.store c.in-Ok.loan c.bytes-in-Ok.result.now
    c.bytes-in-Ok.ensures.value c.in-Ok.ensures.good c.if-todo-eq0.false in
    (node_rank_falls c.args.place.now c.args.todo.now.level c.args.todo.now.pointer c.set_frame.new.path c.frame_of-frame.result c.requires.todo inner.some
    inner.few (fits_part c.args.todo.now.pointer c.choose-part.result c.frame_of-frame.result c.choose-part.ensures.fits c.frame_of-frame.ensures)
    c.set_frame.ensures.set c.requires.shaped).0

pub returns-else-todo-eq0-clause-rank_falls : goal.returns-else-todo-eq0-clause-rank_falls
returns-else-todo-eq0-clause-rank_falls g c =
    let inner = is_inner_at c.args.todo.now.level c.args.todo.now.pointer c.read_block.new.store c.in-Ok.loan c.bytes-in-Ok.result.now
    c.bytes-in-Ok.ensures.value c.in-Ok.ensures.good c.if-todo-eq0.false in
    (node_rank_falls c.args.place.now c.args.todo.now.level c.args.todo.now.pointer c.set_frame.new.path c.frame_of-frame.result c.requires.todo inner.some
    inner.few (fits_part c.args.todo.now.pointer c.choose-part.result c.frame_of-frame.result c.choose-part.ensures.fits c.frame_of-frame.ensures)
    c.set_frame.ensures.set c.requires.shaped).1

pub returns-else-todo-eq0-clause-step : goal.returns-else-todo-eq0-clause-step
returns-else-todo-eq0-clause-step g c =
    let inner = is_inner_at c.args.todo.now.level c.args.todo.now.pointer c.read_block.new.store c.in-Ok.loan c.bytes-in-Ok.result.now
    c.bytes-in-Ok.ensures.value c.in-Ok.ensures.good c.if-todo-eq0.false in
    let few = inner.few in
    omega (arith, few, ap (λ (p : RootPlace). p.level) c.place_of.ensures)

pub returns-else-todo-eq0-clause-content : goal.returns-else-todo-eq0-clause-content
returns-else-todo-eq0-clause-content g c =
    let is = unread_by c.args.store.now.layout (g.R.Rack.seen c.args.rack.now) (g.R.Rack.seen c.read_block.new.rack) in
    let lo = c.args.scope.now.lo in
    let hi = c.args.scope.now.hi in
    let sums = c.args.scope.now.sums in
    let place = c.args.place.now in
    let todo = c.args.todo.now in
    let store = c.read_block.new.store in
    let new = c.give.new.self in
    let loan = c.in-Ok.loan in
    let block = c.bytes.result.now in
    let part = c.choose-part.result in
    let o = c.frame_of-frame.result in
    let after : Where = record { path = c.set_frame.new.path; todo = None } in
    let inner = is_inner_at todo.level todo.pointer store loan block c.bytes.ensures.value c.in-Ok.ensures.good c.if-todo-eq0.false in
    let choice : IsChoice lo hi (pointers block) part =
    subst (λ (b : List ℕ). IsChoice lo hi (pointers b) part) (same_block
    (block_of store loan) c.bytes-in-Ok.result.now block c.bytes-in-Ok.ensures.value c.bytes.ensures.value) c.choose-part.ensures.choice in
    drawn c.args.store.now.layout (λ B. Reads is B todo.level todo.pointer store (Ok loan))
    (λ B. (seen : List Want) → IsAlong lo hi B seen place → Unit {0}
    → MeetsBlock lo hi B seen sums (place_left lo hi B place) new after None c.place_of.result c.read.result)
    (λ B reads seen on none. subst (λ (at : RootPlace). MeetsBlock lo hi B seen sums (place_left lo hi B place) new after None at c.read.result)
    (sym c.place_of.ensures) (
    subst (MeetsBlock lo hi B seen sums (place_left lo hi B place) new after None (place_of todo.level todo.pointer)) (sym c.read.ensures) (
    enter_node lo hi B seen sums place todo.level todo.pointer new block c.set_frame.new.path part o c.requires.todo inner
    (block_is store loan block (λ (b : List ℕ). B (want_of todo.level todo.pointer) ≡ Ok b) c.bytes.ensures.value reads) c.requires.shaped choice
    c.frame_of-frame.ensures
    c.set_frame.ensures.set on)))
    c.in-Ok.ensures.content
