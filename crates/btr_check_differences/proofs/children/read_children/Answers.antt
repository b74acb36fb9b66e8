use Rattle.std.proofs.Common.{◌≡◌, ◌-◌, ◌++◌, List, ℕ, Ok}
use Rattle.std.specs.Bool.{⊤}
use Rattle.btr_walk.proofs.Joined.{block_is, drawn, is_inner_at}
use Rattle.btr_walk.proofs.Lending.{given_back, served_back}
use Rattle.btr_walk.proofs.Turns.{same_room}
use Rattle.btr_walk.specs.Le.{want_of}
use Rattle.btr_walk.specs.Reading.{Map, Reads, unread_by}
use Rattle.btr_check_differences.specs.Differing.{items_at, items_below}
use Rattle.btr_check_differences.proofs.Nodes.{node_more}
use Rattle.btr_check_differences.proofs.children.read_children.Goals as goal

pub push_children-pushed-requires-clause-good : goal.push_children-pushed-requires-clause-good
push_children-pushed-requires-clause-good g c =
    (is_inner_at c.args.level c.args.pointer.now c.read_block.new.store c.in-Ok.loan c.bytes.result.now c.bytes.ensures.value c.in-Ok.ensures.good
    c.requires.inner).good

pub returns-in-Ok-pushed : goal.returns-in-Ok-pushed
returns-in-Ok-pushed g c =
    let old = c.args.store.now in
    let level = c.args.level in
    let pointer = c.args.pointer.now in
    let is = unread_by old.layout (g.R.Rack.seen c.args.rack.now) (g.R.Rack.seen c.read_block.new.rack) in
    let store = c.read_block.new.store in
    let loan = c.in-Ok.loan in
    let block = c.bytes.result.now in
    let e = c.in-Ok.ensures in
    let loans = given_back old store c.give.new.self (want_of level pointer) loan e.lent c.give.ensures in
    let before = c.args.children.now.items in
    let after = c.push_children-pushed.new.children.items in
    record {
      read = record {
        reads = e.reads;
        loans = loans;
        ready = record {
          serves = served_back (g.R.Rack.seen c.read_block.new.rack) store c.give.new.self loan e.serves c.give.ensures;
          room = same_room old c.give.new.self loans c.requires.ready.room;
        };
        told = drawn old.layout (λ (B : Map). Reads is B level pointer store (Ok loan))
            (λ (B : Map). items_below B (level - 1) after ≡ items_below B (level - 1) before ++ items_at B level pointer)
            (λ B reads. node_more B pointer level block before after c.requires.inner
            (block_is store loan block (λ (b : List ℕ). B (want_of level pointer) ≡ Ok b) c.bytes.ensures.value reads)
            (is_inner_at level pointer store loan block c.bytes.ensures.value e.good c.requires.inner).is c.in-Ok-pushed.ensures) e.content;
      };
    }

pub returns-in-Err-pushed : goal.returns-in-Err-pushed
returns-in-Err-pushed g c =
    let old = c.args.store.now in
    let level = c.args.level in
    let pointer = c.args.pointer.now in
    let is = unread_by old.layout (g.R.Rack.seen c.args.rack.now) (g.R.Rack.seen c.read_block.new.rack) in
    let store = c.read_block.new.store in
    let loan = c.in-Ok.loan in
    let e = c.in-Ok.ensures in
    let loans = given_back old store c.give.new.self (want_of level pointer) loan e.lent c.give.ensures in
    record {
      read = record {
        reads = e.reads;
        loans = loans;
        ready = record {
          serves = served_back (g.R.Rack.seen c.read_block.new.rack) store c.give.new.self loan e.serves c.give.ensures;
          room = same_room old c.give.new.self loans c.requires.ready.room;
        };
        told = drawn old.layout (λ (B : Map). Reads is B level pointer store (Ok loan)) (λ (B : Map). ⊤) (λ B reads. tt) e.content;
      };
    }
