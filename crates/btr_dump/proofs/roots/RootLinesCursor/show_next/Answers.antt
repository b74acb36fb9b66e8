use Rattle.std.proofs.Common.{◌∙◌, ◌++◌, List, [], true, false, Ok, Err, sym, ap, subst}
use Rattle.std.proofs.lemmas.Result.{err_from_is_err_and}
use Rattle.btr_prog.specs.Prog.{exec}
use Rattle.btr_read.specs.declared.want.Want.{Want}
use Rattle.btr_volume.specs.declared.stop.Stop.TheVariants.{Tree}
use Rattle.btr_walk.specs.Going.{IsOn}
use Rattle.btr_walk.specs.Reading.{unread_by}
use Rattle.btr_walk.specs.ScanEnds.{left_of, IsNextOn}
use Rattle.btr_walk.specs.Showing.{item_of}
use Rattle.btr_dump.specs.Pieces.{item_line, item_lines}
use Rattle.btr_dump.specs.Showing.{Turns}
use Rattle.btr_dump.proofs.Loops.{turn_halts, turn_ends, turn_goes, turn_stops}
use Rattle.btr_dump.proofs.Rooting.{no_wants}
use Rattle.btr_dump.proofs.Telling.{on_as}
use Rattle.btr_walk.proofs.Joined.{drawn}
use Rattle.btr_dump.proofs.Growing.{grows_none, run_grows, no_block}
use Rattle.btr_dump.proofs.roots.RootLinesCursor.show_next.Goals as goal

pub returns-in-Err-clause-content : goal.returns-in-Err-clause-content
returns-in-Err-clause-content g c =
    let scan = c.args.self.now.scan in
    let next = c.next.new.scan in
    let is = unread_by c.args.store.now.layout (g.R.Rack.seen c.args.rack.now) (g.R.Rack.seen c.next.new.rack) in
    let new = c.next.follows.lender-at-none in
    let text = g.O.Out.text c.args.out.now in
    let waits = c.args.text.now in
    drawn c.args.store.now.layout (λ B. IsNextOn is B c.args.store.now new scan next c.next.result)
    (λ B. (seen : List Want) → IsOn scan.lo scan.hi B seen scan.place
    → Turns is (λ ws. IsOn next.lo next.hi B ws next.place) (exec B (item_lines (left_of B c.args.store.now scan)))
    (exec B (item_lines (left_of B new next))) seen text text waits waits (Err (Tree c.in-Err.fault)))
    (λ B h seen on. turn_halts item_line B is seen (left_of B c.args.store.now scan) text waits c.in-Err.fault
    (subst (λ r. IsNextOn is B c.args.store.now new scan next r) c.in-Err.is h seen on))
    c.next.follows.holds-at-none.content

pub returns-in-Ok-None-clause-content : goal.returns-in-Ok-None-clause-content
returns-in-Ok-None-clause-content g c =
    let scan = c.args.self.now.scan in
    let next = c.next.new.scan in
    let is = unread_by c.args.store.now.layout (g.R.Rack.seen c.args.rack.now) (g.R.Rack.seen c.next.new.rack) in
    let new = c.next.follows.lender-at-none in
    let text = g.O.Out.text c.args.out.now in
    let waits = c.args.text.now in
    drawn c.args.store.now.layout (λ B. IsNextOn is B c.args.store.now new scan next c.next.result)
    (λ B. (seen : List Want) → IsOn scan.lo scan.hi B seen scan.place
    → Turns is (λ ws. IsOn next.lo next.hi B ws next.place) (exec B (item_lines (left_of B c.args.store.now scan)))
    (exec B (item_lines (left_of B new next))) seen text text waits waits (Ok false))
    (λ B h seen on. turn_ends item_line B is seen (left_of B c.args.store.now scan) text waits
    (subst (λ r. IsNextOn is B c.args.store.now new scan next r) (c.in-Ok-None.is ∙ ap Ok c.in-Ok-None.field-0-is) h seen on))
    c.next.follows.holds-at-none.content

pub returns-in_err-write_item-in-Ok-Some-clause-cause : goal.returns-in_err-write_item-in-Ok-Some-clause-cause
returns-in_err-write_item-in-Ok-Some-clause-cause g c =
    let p = err_from_is_err_and c.from_residual.result c.from_residual.ensures.1 in
    rw (p.1, p.2)
    (c.in_err-write_item-in-Ok-Some.ensures.cause c.args.store.now.layout (g.R.Rack.seen c.args.rack.now)
    (g.R.Rack.seen c.next.new.rack))

pub returns-in_err-write_item-in-Ok-Some-clause-content : goal.returns-in_err-write_item-in-Ok-Some-clause-content
returns-in_err-write_item-in-Ok-Some-clause-content g c =
    let scan = c.args.self.now.scan in
    let next = c.next.new.scan in
    let layout = c.args.store.now.layout in
    let is = unread_by layout (g.R.Rack.seen c.args.rack.now) (g.R.Rack.seen c.next.new.rack) in
    let new = c.next.follows.lender-at-none in
    let found = c.in-Ok-Some.found in
    let old_text = g.O.Out.text c.args.out.now in
    let new_text = g.O.Out.text c.write_item.new.out in
    let p = err_from_is_err_and c.from_residual.result c.from_residual.ensures.1 in
    rw (p.1, p.2)
    (drawn layout (λ B. IsNextOn is B c.args.store.now new scan next c.next.result)
    (λ B. (seen : List Want) → IsOn scan.lo scan.hi B seen scan.place
    → Turns is (λ ws. IsOn next.lo next.hi B ws next.place) (exec B (item_lines (left_of B c.args.store.now scan)))
    (exec B (item_lines (left_of B new next))) seen old_text new_text c.args.text.now c.write_item.new.text (Err c.in_err-write_item-in-Ok-Some.field-0.0))
    (λ B h seen on.
    let gives = subst (λ r. IsNextOn is B c.args.store.now new scan next r) (c.in-Ok-Some.is ∙ ap Ok c.in-Ok-Some.field-0-is) h seen on in
    turn_stops item_line B (left_of B c.args.store.now scan) (left_of B new next) (item_of found) gives.past gives.is is seen old_text
    new_text c.args.text.now c.write_item.new.text c.in_err-write_item-in-Ok-Some.field-0.0
    (c.in_err-write_item-in-Ok-Some.ensures.text layout (g.R.Rack.seen c.args.rack.now) (g.R.Rack.seen c.next.new.rack) (seen ++ gives.past) B))
    c.next.follows.holds-at-none.content)

pub returns-in_ok-write_item-in-Ok-Some-clause-content : goal.returns-in_ok-write_item-in-Ok-Some-clause-content
returns-in_ok-write_item-in-Ok-Some-clause-content g c =
    let scan = c.args.self.now.scan in
    let next = c.next.new.scan in
    let layout = c.args.store.now.layout in
    let is = unread_by layout (g.R.Rack.seen c.args.rack.now) (g.R.Rack.seen c.next.new.rack) in
    let new = c.next.follows.lender-at-none in
    let found = c.in-Ok-Some.found in
    let old_text = g.O.Out.text c.args.out.now in
    let new_text = g.O.Out.text c.write_item.new.out in
    drawn layout (λ B. IsNextOn is B c.args.store.now new scan next c.next.result)
    (λ B. (seen : List Want) → IsOn scan.lo scan.hi B seen scan.place
    → Turns is (λ ws. IsOn next.lo next.hi B ws next.place) (exec B (item_lines (left_of B c.args.store.now scan)))
    (exec B (item_lines (left_of B new next))) seen old_text new_text c.args.text.now c.write_item.new.text (Ok true))
    (λ B h seen on.
    let gives = subst (λ r. IsNextOn is B c.args.store.now new scan next r) (c.in-Ok-Some.is ∙ ap Ok c.in-Ok-Some.field-0-is) h seen on in
    turn_goes item_line B (left_of B c.args.store.now scan) (left_of B new next) (item_of found) gives.past gives.is
    (λ ws. IsOn next.lo next.hi B ws next.place) is seen (seen ++ gives.past) old_text new_text c.args.text.now c.write_item.new.text
    (no_wants B (item_of found))
    (on_as scan.lo scan.hi next.lo next.hi B (seen ++ gives.past) next.place (sym c.next.ensures.lo) (sym c.next.ensures.hi) gives.on)
    (c.in_ok-write_item-in-Ok-Some.ensures.text layout (g.R.Rack.seen c.args.rack.now) (g.R.Rack.seen c.next.new.rack) (seen ++ gives.past) B))
    c.next.follows.holds-at-none.content

pub returns-in-Err-clause-grows : goal.returns-in-Err-clause-grows
returns-in-Err-clause-grows g c = grows_none (g.O.Out.text c.args.out.now)

pub returns-in-Ok-None-clause-grows : goal.returns-in-Ok-None-clause-grows
returns-in-Ok-None-clause-grows g c = grows_none (g.O.Out.text c.args.out.now)

pub returns-in_err-write_item-in-Ok-Some-clause-grows : goal.returns-in_err-write_item-in-Ok-Some-clause-grows
returns-in_err-write_item-in-Ok-Some-clause-grows g c =
    let layout = c.args.store.now.layout in
    let old = g.R.Rack.seen c.args.rack.now in
    let new = g.R.Rack.seen c.next.new.rack in
    run_grows (unread_by layout old new) [] (exec no_block (item_line (item_of c.in-Ok-Some.found))) (g.O.Out.text c.args.out.now)
    (g.O.Out.text c.write_item.new.out) c.args.text.now c.write_item.new.text (Err c.in_err-write_item-in-Ok-Some.field-0.0)
    (c.in_err-write_item-in-Ok-Some.ensures.text layout old new [] no_block)

pub returns-in_ok-write_item-in-Ok-Some-clause-grows : goal.returns-in_ok-write_item-in-Ok-Some-clause-grows
returns-in_ok-write_item-in-Ok-Some-clause-grows g c =
    let layout = c.args.store.now.layout in
    let old = g.R.Rack.seen c.args.rack.now in
    let new = g.R.Rack.seen c.next.new.rack in
    run_grows (unread_by layout old new) [] (exec no_block (item_line (item_of c.in-Ok-Some.found))) (g.O.Out.text c.args.out.now)
    (g.O.Out.text c.write_item.new.out) c.args.text.now c.write_item.new.text (Ok tt)
    (c.in_ok-write_item-in-Ok-Some.ensures.text layout old new [] no_block)
