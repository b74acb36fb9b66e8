use Rattle.std.proofs.Common.{◌++◌, List, [], Bool, true, false, Ok, Err, subst}
use Rattle.std.proofs.lemmas.Result.{err_from_is_err_and}
use Rattle.btr_prog.specs.Prog.{exec}
use Rattle.btr_read.specs.declared.want.Want.{Want}
use Rattle.btr_volume.specs.declared.stop.Stop.TheVariants.{Tree}
use Rattle.btr_walk.specs.Going.{IsOn}
use Rattle.btr_walk.specs.Reading.{unread_by}
use Rattle.btr_walk.specs.ScanEnds.{left_of}
use Rattle.btr_dump.specs.Pieces.{item_root, item_trees, tree_if, tree_shown}
use Rattle.btr_dump.specs.Showing.{ShowsMore, Turns, ShowsText}
use Rattle.btr_dump.specs.Trees.{NextItemBy}
use Rattle.btr_walk.proofs.Staying.{room_beside, room_same}
use Rattle.btr_dump.proofs.Loops.{turn_halts, turn_ends}
use Rattle.btr_dump.proofs.Parts.{writes_behind}
use Rattle.btr_walk.proofs.Fetched.{since}
use Rattle.btr_walk.proofs.Joined.{drawn, joined}
use Rattle.btr_walk.proofs.Turns.{same_layout}
use Rattle.btr_dump.proofs.Telling.{stop_cause_since}
use Rattle.btr_dump.proofs.Turning.{other_goes, tree_goes, tree_stops}
use Rattle.btr_dump.proofs.trees.ItemTreesCursor.show_next.Goals as goal

pub show_tree-requires-clause-room : goal.show_tree-requires-clause-room
show_tree-requires-clause-room g c =
    let next = c.in-Ok-Tree.ensures in
    room_beside (g.R.Rack.seen c.next_item.new.rack) c.next_item.new.store c.next_item.new.scan 4 next.ready (room_same _ _ 5 next.others c.requires.room)

pub returns-in-Err-clause-content : goal.returns-in-Err-clause-content
returns-in-Err-clause-content g c =
    let kind = c.args.self.now.kind in
    let scan = c.args.self.now.scan in
    let next = c.next_item.new.scan in
    let old = c.args.store.now in
    let new = c.next_item.new.store in
    let is = unread_by old.layout (g.R.Rack.seen c.args.rack.now) (g.R.Rack.seen c.next_item.new.rack) in
    let text = g.O.Out.text c.args.out.now in
    let waits = c.args.text.now in
    drawn old.layout (λ B. (seen : List Want) → IsOn scan.lo scan.hi B seen scan.place → NextItemBy is B seen old new scan next (Err c.in-Err.fault))
    (λ B. (seen : List Want) → IsOn scan.lo scan.hi B seen scan.place
    → Turns is (λ ws. IsOn next.lo next.hi B ws next.place) (exec B (item_trees kind (left_of B old scan)))
    (exec B (item_trees kind (left_of B new next))) seen text text waits waits (Err (Tree c.in-Err.fault)))
    (λ B h seen on. turn_halts (λ i. tree_if kind (item_root i)) B is seen (left_of B old scan) text waits c.in-Err.fault (h seen on)) c.in-Err.ensures.content

pub returns-in-Ok-End-clause-content : goal.returns-in-Ok-End-clause-content
returns-in-Ok-End-clause-content g c =
    let kind = c.args.self.now.kind in
    let scan = c.args.self.now.scan in
    let next = c.next_item.new.scan in
    let old = c.args.store.now in
    let new = c.next_item.new.store in
    let is = unread_by old.layout (g.R.Rack.seen c.args.rack.now) (g.R.Rack.seen c.next_item.new.rack) in
    let text = g.O.Out.text c.args.out.now in
    let waits = c.args.text.now in
    drawn old.layout (λ B. (seen : List Want) → IsOn scan.lo scan.hi B seen scan.place → NextItemBy is B seen old new scan next (Ok c.in-Ok-End.field-0))
    (λ B. (seen : List Want) → IsOn scan.lo scan.hi B seen scan.place
    → Turns is (λ ws. IsOn next.lo next.hi B ws next.place) (exec B (item_trees kind (left_of B old scan)))
    (exec B (item_trees kind (left_of B new next))) seen text text waits waits (Ok false))
    (λ B h seen on. turn_ends (λ i. tree_if kind (item_root i)) B is seen (left_of B old scan) text waits
    (subst (λ r. NextItemBy is B seen old new scan next (Ok r)) c.in-Ok-End.field-0-is (h seen on))) c.in-Ok-End.ensures.content

pub returns-in-Ok-Other-clause-content : goal.returns-in-Ok-Other-clause-content
returns-in-Ok-Other-clause-content g c =
    let kind = c.args.self.now.kind in
    let scan = c.args.self.now.scan in
    let next = c.next_item.new.scan in
    let old = c.args.store.now in
    let new = c.next_item.new.store in
    let is = unread_by old.layout (g.R.Rack.seen c.args.rack.now) (g.R.Rack.seen c.next_item.new.rack) in
    let text = g.O.Out.text c.args.out.now in
    let waits = c.args.text.now in
    drawn old.layout (λ B. (seen : List Want) → IsOn scan.lo scan.hi B seen scan.place → NextItemBy is B seen old new scan next (Ok c.in-Ok-Other.field-0))
    (λ B. (seen : List Want) → IsOn scan.lo scan.hi B seen scan.place
    → Turns is (λ ws. IsOn next.lo next.hi B ws next.place) (exec B (item_trees kind (left_of B old scan)))
    (exec B (item_trees kind (left_of B new next))) seen text text waits waits (Ok true))
    (λ B h seen on.
    let given = subst (λ r. NextItemBy is B seen old new scan next (Ok r)) c.in-Ok-Other.field-0-is (h seen on) in
    other_goes is B kind seen old new scan next given.0 given.1 text waits given.2) c.in-Ok-Other.ensures.content

pub returns-in_err-show_tree-in-Ok-Tree-clause-cause : goal.returns-in_err-show_tree-in-Ok-Tree-clause-cause
returns-in_err-show_tree-in-Ok-Tree-clause-cause g c =
    let next = c.in-Ok-Tree.ensures in
    let p = err_from_is_err_and c.from_residual.result c.from_residual.ensures.1 in
    rw (p.1, p.2)
    (stop_cause_since (Unit {0}) Bool
    (g.R.Rack.seen c.show_tree.new.rack) c.args.store.now.layout c.next_item.new.store.layout c.in_err-show_tree-in-Ok-Tree.field-0.0
    (same_layout c.args.store.now c.next_item.new.store _ _ next.others) next.reads c.in_err-show_tree-in-Ok-Tree.ensures.cause)

pub returns-in_err-show_tree-in-Ok-Tree-clause-content : goal.returns-in_err-show_tree-in-Ok-Tree-clause-content
returns-in_err-show_tree-in-Ok-Tree-clause-content g c =
    let kind = c.args.self.now.kind in
    let root = c.in-Ok-Tree.root in
    let stop = c.in_err-show_tree-in-Ok-Tree.field-0.0 in
    let scan = c.args.self.now.scan in
    let next = c.next_item.new.scan in
    let old = c.args.store.now in
    let mid = c.next_item.new.store in
    let before = g.R.Rack.seen c.args.rack.now in
    let between = g.R.Rack.seen c.next_item.new.rack in
    let after = g.R.Rack.seen c.show_tree.new.rack in
    let is = unread_by old.layout before after in
    let later = unread_by mid.layout between after in
    let same = same_layout old mid _ _ c.in-Ok-Tree.ensures.others in
    let text = g.O.Out.text c.args.out.now in
    let text' = g.O.Out.text c.show_tree.new.out in
    let waited = c.args.text.now in
    let waits = c.show_tree.new.text in
    let p = err_from_is_err_and c.from_residual.result c.from_residual.ensures.1 in
    rw (p.1, p.2)
    (joined (λ B. (seen : List Want) → IsOn scan.lo scan.hi B seen scan.place
    → NextItemBy (unread_by old.layout before between) B seen old mid scan next (Ok c.in-Ok-Tree.field-0))
    (λ B. ShowsText {A = Unit {0}} later [] (exec B (tree_shown kind root)) text text' waited waits (Err stop))
    (λ B. (seen : List Want) → IsOn scan.lo scan.hi B seen scan.place
    → ShowsText {A = Unit {0}} is seen (exec B (item_trees kind (left_of B old scan))) text text' waited waits (Err stop)) same
    (λ B h w seen on.
    let given = subst (λ r. NextItemBy (unread_by old.layout before between) B seen old mid scan next (Ok r)) c.in-Ok-Tree.field-0-is (h seen on) in
    tree_stops is B kind seen old mid scan next given.0 given.1 root given.2 text text' waited waits stop
    (writes_behind is later (since old.layout mid.layout same c.in-Ok-Tree.ensures.reads) (seen ++ given.1.past) (exec B (tree_shown kind root)) text
    text' waited waits (Err stop) w))
    c.in-Ok-Tree.ensures.content c.in_err-show_tree-in-Ok-Tree.ensures.content)

pub returns-in_ok-show_tree-in-Ok-Tree-clause-content : goal.returns-in_ok-show_tree-in-Ok-Tree-clause-content
returns-in_ok-show_tree-in-Ok-Tree-clause-content g c =
    let kind = c.args.self.now.kind in
    let root = c.in-Ok-Tree.root in
    let scan = c.args.self.now.scan in
    let next = c.next_item.new.scan in
    let old = c.args.store.now in
    let mid = c.next_item.new.store in
    let new = c.show_tree.new.store in
    let before = g.R.Rack.seen c.args.rack.now in
    let between = g.R.Rack.seen c.next_item.new.rack in
    let after = g.R.Rack.seen c.show_tree.new.rack in
    let is = unread_by old.layout before after in
    let later = unread_by mid.layout between after in
    let same = same_layout old mid _ _ c.in-Ok-Tree.ensures.others in
    let text = g.O.Out.text c.args.out.now in
    let text' = g.O.Out.text c.show_tree.new.out in
    let waited = c.args.text.now in
    let waits = c.show_tree.new.text in
    joined (λ B. (seen : List Want) → IsOn scan.lo scan.hi B seen scan.place
    → NextItemBy (unread_by old.layout before between) B seen old mid scan next (Ok c.in-Ok-Tree.field-0))
    (λ B. ShowsText {A = Unit {0}} later [] (exec B (tree_shown kind root)) text text' waited waits (Ok tt))
    (λ B. (seen : List Want) → IsOn scan.lo scan.hi B seen scan.place
    → ShowsMore (λ ws. IsOn next.lo next.hi B ws next.place) (exec B (item_trees kind (left_of B old scan)))
    (exec B (item_trees kind (left_of B new next))) seen text text' waited waits) same
    (λ B h w seen on.
    let given = subst (λ r. NextItemBy (unread_by old.layout before between) B seen old mid scan next (Ok r)) c.in-Ok-Tree.field-0-is (h seen on) in
    tree_goes is B kind seen old mid scan next given.0 given.1 root given.2 new c.in_ok-show_tree-in-Ok-Tree.ensures.loans text text' waited waits
    (writes_behind is later (since old.layout mid.layout same c.in-Ok-Tree.ensures.reads) (seen ++ given.1.past) (exec B (tree_shown kind root)) text
    text' waited waits (Ok tt) w))
    c.in-Ok-Tree.ensures.content c.in_ok-show_tree-in-Ok-Tree.ensures.content
