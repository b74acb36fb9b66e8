use Rattle.std.proofs.Common.{◌∙◌, ◌++◌, List, [], true, false, Ok, Err, ap, subst}
use Rattle.std.proofs.lemmas.Result.{err_from_is_err_and}
use Rattle.btr_prog.specs.Prog.{exec}
use Rattle.btr_read.specs.declared.want.Want.{Want}
use Rattle.btr_volume.specs.declared.stop.Stop.TheVariants.{Tree}
use Rattle.btr_walk.specs.Blocks.{shown_block}
use Rattle.btr_walk.specs.Preorder.{IsAmong, IsNextBlock, blocks_left}
use Rattle.btr_walk.specs.Reading.{unread_by}
use Rattle.btr_dump.specs.Pieces.{held_block, held_in, met_block, blocks_shown}
use Rattle.btr_dump.specs.Showing.{Turns}
use Rattle.btr_dump.proofs.Blocks.{met_wants_none, met_written}
use Rattle.btr_dump.proofs.Loops.{turn_halts, turn_ends, turn_goes, turn_stops}
use Rattle.btr_walk.proofs.Joined.{drawn}
use Rattle.btr_dump.proofs.Growing.{grows_none, run_grows, no_block}
use Rattle.btr_dump.proofs.tree.TreeBlocksCursor.show_next.Goals as goal

pub returns-in-Err-clause-content : goal.returns-in-Err-clause-content
returns-in-Err-clause-content g c =
    let scan = c.args.self.now.scan in
    let next = c.next_block.new.scan in
    let kind = c.args.self.now.kind in
    let is = unread_by c.args.store.now.layout (g.R.Rack.seen c.args.rack.now) (g.R.Rack.seen c.next_block.new.rack) in
    let text = g.O.Out.text c.args.out.now in
    let waits = c.args.text.now in
    drawn c.args.store.now.layout (λ B. IsNextBlock is B scan next c.next_block.result)
    (λ B. (seen : List Want) → IsAmong B seen scan.place → Turns is (λ ws. IsAmong B ws next.place) (exec B (blocks_shown kind (blocks_left B scan)))
    (exec B (blocks_shown kind (blocks_left B next))) seen text text waits waits (Err (Tree c.in-Err.fault)))
    (λ B h seen on. turn_halts (met_block kind) B is seen (blocks_left B scan) text waits c.in-Err.fault
    (subst (λ r. IsNextBlock is B scan next r) c.in-Err.is h seen on))
    c.next_block.follows.holds-at-none.content

pub returns-in-Ok-None-clause-content : goal.returns-in-Ok-None-clause-content
returns-in-Ok-None-clause-content g c =
    let scan = c.args.self.now.scan in
    let next = c.next_block.new.scan in
    let kind = c.args.self.now.kind in
    let is = unread_by c.args.store.now.layout (g.R.Rack.seen c.args.rack.now) (g.R.Rack.seen c.next_block.new.rack) in
    let text = g.O.Out.text c.args.out.now in
    let waits = c.args.text.now in
    drawn c.args.store.now.layout (λ B. IsNextBlock is B scan next c.next_block.result)
    (λ B. (seen : List Want) → IsAmong B seen scan.place → Turns is (λ ws. IsAmong B ws next.place) (exec B (blocks_shown kind (blocks_left B scan)))
    (exec B (blocks_shown kind (blocks_left B next))) seen text text waits waits (Ok false))
    (λ B h seen on. turn_ends (met_block kind) B is seen (blocks_left B scan) text waits
    (subst (λ r. IsNextBlock is B scan next r) (c.in-Ok-None.is ∙ ap Ok c.in-Ok-None.field-0-is) h seen on))
    c.next_block.follows.holds-at-none.content

pub returns-in_err-write_held-in-Ok-Some-clause-cause : goal.returns-in_err-write_held-in-Ok-Some-clause-cause
returns-in_err-write_held-in-Ok-Some-clause-cause g c =
    let p = err_from_is_err_and c.from_residual.result c.from_residual.ensures.1 in
    rw (p.1, p.2)
    (c.in_err-write_held-in-Ok-Some.ensures.cause c.args.store.now.layout (g.R.Rack.seen c.args.rack.now)
    (g.R.Rack.seen c.next_block.new.rack))

pub returns-in_err-write_held-in-Ok-Some-clause-content : goal.returns-in_err-write_held-in-Ok-Some-clause-content
returns-in_err-write_held-in-Ok-Some-clause-content g c =
    let scan = c.args.self.now.scan in
    let next = c.next_block.new.scan in
    let kind = c.args.self.now.kind in
    let layout = c.args.store.now.layout in
    let is = unread_by layout (g.R.Rack.seen c.args.rack.now) (g.R.Rack.seen c.next_block.new.rack) in
    let found = c.in-Ok-Some.found in
    let old_text = g.O.Out.text c.args.out.now in
    let new_text = g.O.Out.text c.write_held.new.out in
    let p = err_from_is_err_and c.from_residual.result c.from_residual.ensures.1 in
    rw (p.1, p.2)
    (drawn layout (λ B. IsNextBlock is B scan next c.next_block.result)
    (λ B. (seen : List Want) → IsAmong B seen scan.place → Turns is (λ ws. IsAmong B ws next.place) (exec B (blocks_shown kind (blocks_left B scan)))
    (exec B (blocks_shown kind (blocks_left B next))) seen old_text new_text c.args.text.now c.write_held.new.text
    (Err c.in_err-write_held-in-Ok-Some.field-0.0))
    (λ B h seen on.
    let gives = subst (λ r. IsNextBlock is B scan next r) (c.in-Ok-Some.is ∙ ap Ok c.in-Ok-Some.field-0-is) h seen on in
    turn_stops (met_block kind) B (blocks_left B scan) (blocks_left B next) (shown_block found) gives.past gives.is is seen old_text new_text
    c.args.text.now c.write_held.new.text c.in_err-write_held-in-Ok-Some.field-0.0
    (met_written is (seen ++ gives.past) B kind (shown_block found) old_text new_text c.args.text.now c.write_held.new.text
    (Err c.in_err-write_held-in-Ok-Some.field-0.0)
    (c.in_err-write_held-in-Ok-Some.ensures.text layout (g.R.Rack.seen c.args.rack.now) (g.R.Rack.seen c.next_block.new.rack) (seen ++ gives.past) B)))
    c.next_block.follows.holds-at-none.content)

pub returns-in_ok-write_held-in-Ok-Some-clause-content : goal.returns-in_ok-write_held-in-Ok-Some-clause-content
returns-in_ok-write_held-in-Ok-Some-clause-content g c =
    let scan = c.args.self.now.scan in
    let next = c.next_block.new.scan in
    let kind = c.args.self.now.kind in
    let layout = c.args.store.now.layout in
    let is = unread_by layout (g.R.Rack.seen c.args.rack.now) (g.R.Rack.seen c.next_block.new.rack) in
    let found = c.in-Ok-Some.found in
    let old_text = g.O.Out.text c.args.out.now in
    let new_text = g.O.Out.text c.write_held.new.out in
    drawn layout (λ B. IsNextBlock is B scan next c.next_block.result)
    (λ B. (seen : List Want) → IsAmong B seen scan.place → Turns is (λ ws. IsAmong B ws next.place) (exec B (blocks_shown kind (blocks_left B scan)))
    (exec B (blocks_shown kind (blocks_left B next))) seen old_text new_text c.args.text.now c.write_held.new.text (Ok true))
    (λ B h seen on.
    let gives = subst (λ r. IsNextBlock is B scan next r) (c.in-Ok-Some.is ∙ ap Ok c.in-Ok-Some.field-0-is) h seen on in
    turn_goes (met_block kind) B (blocks_left B scan) (blocks_left B next) (shown_block found) gives.past gives.is (λ ws. IsAmong B ws next.place) is
    seen (seen ++ gives.past) old_text new_text c.args.text.now c.write_held.new.text (met_wants_none B kind (shown_block found))
    gives.on (met_written is (seen ++ gives.past) B kind (shown_block found) old_text new_text c.args.text.now c.write_held.new.text (Ok tt)
    (c.in_ok-write_held-in-Ok-Some.ensures.text layout (g.R.Rack.seen c.args.rack.now) (g.R.Rack.seen c.next_block.new.rack) (seen ++ gives.past) B)))
    c.next_block.follows.holds-at-none.content

pub returns-in-Err-clause-grows : goal.returns-in-Err-clause-grows
returns-in-Err-clause-grows g c = grows_none (g.O.Out.text c.args.out.now)

pub returns-in-Ok-None-clause-grows : goal.returns-in-Ok-None-clause-grows
returns-in-Ok-None-clause-grows g c = grows_none (g.O.Out.text c.args.out.now)

pub returns-in_err-write_held-in-Ok-Some-clause-grows : goal.returns-in_err-write_held-in-Ok-Some-clause-grows
returns-in_err-write_held-in-Ok-Some-clause-grows g c =
    let layout = c.args.store.now.layout in
    let old = g.R.Rack.seen c.args.rack.now in
    let new = g.R.Rack.seen c.next_block.new.rack in
    let found = c.in-Ok-Some.found in
    run_grows (unread_by layout old new) [] (exec no_block (held_block c.args.self.now.kind found.addr found.bytes.now (held_in found.bytes.now)))
    (g.O.Out.text c.args.out.now) (g.O.Out.text c.write_held.new.out) c.args.text.now c.write_held.new.text (Err c.in_err-write_held-in-Ok-Some.field-0.0)
    (c.in_err-write_held-in-Ok-Some.ensures.text layout old new [] no_block)

pub returns-in_ok-write_held-in-Ok-Some-clause-grows : goal.returns-in_ok-write_held-in-Ok-Some-clause-grows
returns-in_ok-write_held-in-Ok-Some-clause-grows g c =
    let layout = c.args.store.now.layout in
    let old = g.R.Rack.seen c.args.rack.now in
    let new = g.R.Rack.seen c.next_block.new.rack in
    let found = c.in-Ok-Some.found in
    run_grows (unread_by layout old new) [] (exec no_block (held_block c.args.self.now.kind found.addr found.bytes.now (held_in found.bytes.now)))
    (g.O.Out.text c.args.out.now) (g.O.Out.text c.write_held.new.out) c.args.text.now c.write_held.new.text (Ok tt)
    (c.in_ok-write_held-in-Ok-Some.ensures.text layout old new [] no_block)
