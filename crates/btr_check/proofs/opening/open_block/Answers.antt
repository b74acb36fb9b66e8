use Rattle.std.proofs.Common.{◌≡◌, Ok, Err, None, List, ℕ, sym, ◌∙◌, refl}
use Rattle.std.specs.Bool.{⊤}
use Rattle.btr_walk.proofs.Joined.{block_is, drawn, is_inner_at, is_leaf_at}
use Rattle.btr_walk.proofs.Lending.{given_back, served_back}
use Rattle.btr_walk.proofs.Turns.{same_room}
use Rattle.btr_walk.specs.Le.{want_of}
use Rattle.btr_walk.specs.Reading.{Map, Reads, unread_by}
use Rattle.btr_check.specs.declared.opening.Opened.TheVariants.{Whole}
use Rattle.btr_check.specs.Passing.{Opens}
use Rattle.btr_check.specs.Running.{FaultUnread, IsUnreadOf, filesystem}
use Rattle.btr_check.specs.Wanted.{Only}
use Rattle.btr_check.proofs.Openings.{opens_fault, opens_good}
use Rattle.btr_check.proofs.Runs.{cause_unread, less_told}
use Rattle.btr_check.proofs.Wanting.{read_unread}
use Rattle.btr_check.proofs.opening.open_block.Goals as goal

pub walk_good-opened-requires-clause-leaf : goal.walk_good-opened-requires-clause-leaf
walk_good-opened-requires-clause-leaf g c = λ e.
    (is_leaf_at c.args.level c.args.pointer.now c.read_block.new.store c.in-Ok.loan c.bytes.result.now c.bytes.ensures.value c.in-Ok.ensures.good e).good

pub walk_good-opened-requires-clause-inner : goal.walk_good-opened-requires-clause-inner
walk_good-opened-requires-clause-inner g c = λ e.
    (is_inner_at c.args.level c.args.pointer.now c.read_block.new.store c.in-Ok.loan c.bytes.result.now c.bytes.ensures.value c.in-Ok.ensures.good e).good

pub returns-in-None-clause-ran : goal.returns-in-None-clause-ran
returns-in-None-clause-ran g c =
    let vol = c.args.vol.now in
    let layout = vol.store.layout in
    let before = g.R.Rack.seen c.args.rack.now in
    let now = g.R.Rack.seen c.read_block.new.rack in
    let is = unread_by layout before now in
    let store = c.read_block.new.store in
    let fault = c.in-Err.fault in
    let e = c.in-Err.ensures in
    record {
      reads = e.reads;
      volume = record { sup = refl; store = e.refused };
      ready = record { serves = e.serves; room = same_room vol.store store e.refused c.requires.ready.room };
      cause = cause_unread layout before now fault e.cause;
      quiet = tt;
      told = less_told e.content;
      named = drawn layout (λ (B : Map). Reads is B c.args.level c.args.pointer.now store (Err fault))
          (λ (B : Map). FaultUnread (IsUnreadOf layout before now (Only (want_of c.args.level c.args.pointer.now) (filesystem vol B))) fault)
          (λ B reads. read_unread is B c.args.level c.args.pointer.now store fault reads) e.content;
    }

pub returns-in-Ok-meet_fault-clause-ran : goal.returns-in-Ok-meet_fault-clause-ran
returns-in-Ok-meet_fault-clause-ran g c =
    let vol = c.args.vol.now in
    let layout = vol.store.layout in
    let is = unread_by layout (g.R.Rack.seen c.args.rack.now) (g.R.Rack.seen c.read_block.new.rack) in
    let store = c.read_block.new.store in
    let e = c.in-Err.ensures in
    record {
      reads = e.reads;
      volume = record { sup = refl; store = e.refused };
      ready = record { serves = e.serves; room = same_room vol.store store e.refused c.requires.ready.room };
      cause = tt;
      quiet = tt;
      told = drawn layout (λ (B : Map). Reads is B c.args.level c.args.pointer.now store (Err c.in-Err.fault))
          (λ (B : Map). Opens (filesystem vol B) c.args.level c.args.pointer.now c.args.walk.now c.meet_fault.new.self (Whole None))
          (λ B reads. opens_fault (filesystem vol B) c.args.level c.args.pointer.now c.args.walk.now c.meet_fault.new.self is store c.in-Err.fault
          c.in-Some.left (sym c.of.ensures ∙ c.in-Some.is) reads c.in-Ok-meet_fault.ensures) e.content;
      named = less_told e.content;
    }

pub returns-in-Ok-opened-clause-ran : goal.returns-in-Ok-opened-clause-ran
returns-in-Ok-opened-clause-ran g c =
    let vol = c.args.vol.now in
    let level = c.args.level in
    let pointer = c.args.pointer.now in
    let layout = vol.store.layout in
    let is = unread_by layout (g.R.Rack.seen c.args.rack.now) (g.R.Rack.seen c.read_block.new.rack) in
    let store = c.read_block.new.store in
    let loan = c.in-Ok.loan in
    let block = c.bytes.result.now in
    let e = c.in-Ok.ensures in
    let new = c.walk_good-opened.new.walk in
    let opened = c.in-Ok-opened.opened in
    let loans = given_back vol.store store c.give.new.self (want_of level pointer) loan e.lent c.give.ensures in
    record {
      reads = e.reads;
      volume = record { sup = refl; store = loans };
      ready = record {
        serves = served_back (g.R.Rack.seen c.read_block.new.rack) store c.give.new.self loan e.serves c.give.ensures;
        room = same_room vol.store c.give.new.self loans c.requires.ready.room;
      };
      cause = tt;
      quiet = tt;
      told = drawn layout (λ (B : Map). Reads is B level pointer store (Ok loan))
          (λ (B : Map). Opens (filesystem vol B) level pointer c.args.walk.now new opened)
          (λ B reads. opens_good (filesystem vol B) level pointer c.args.walk.now new block opened
          (block_is store loan block (λ (b : List ℕ). B (want_of level pointer) ≡ Ok b) c.bytes.ensures.value reads)
          (λ low. (is_leaf_at level pointer store loan block c.bytes.ensures.value e.good low).is)
          (λ high. (is_inner_at level pointer store loan block c.bytes.ensures.value e.good high).is)
          c.in-Ok-opened.ensures.above c.in-Ok-opened.ensures.walked) e.content;
      named = less_told e.content;
    }

pub returns-in-Err-opened-clause-ran : goal.returns-in-Err-opened-clause-ran
returns-in-Err-opened-clause-ran g c =
    let vol = c.args.vol.now in
    let layout = vol.store.layout in
    let is = unread_by layout (g.R.Rack.seen c.args.rack.now) (g.R.Rack.seen c.read_block.new.rack) in
    let store = c.read_block.new.store in
    let loan = c.in-Ok.loan in
    let e = c.in-Ok.ensures in
    let loans = given_back vol.store store c.give.new.self (want_of c.args.level c.args.pointer.now) loan e.lent c.give.ensures in
    record {
      reads = e.reads;
      volume = record { sup = refl; store = loans };
      ready = record {
        serves = served_back (g.R.Rack.seen c.read_block.new.rack) store c.give.new.self loan e.serves c.give.ensures;
        room = same_room vol.store c.give.new.self loans c.requires.ready.room;
      };
      cause = tt;
      quiet = tt;
      told = drawn layout (λ (B : Map). Reads is B c.args.level c.args.pointer.now store (Ok loan)) (λ (B : Map). ⊤) (λ B reads. tt) e.content;
      named = less_told e.content;
    }
