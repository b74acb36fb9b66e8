use Rattle.std.proofs.Common.{◌∙◌, [], List, Ok, Err, sym, ap, subst}
use Rattle.std.proofs.lemmas.Result.{err_from_is_err_and}
use Rattle.btr_base.specs.Key.{last_key}
use Rattle.btr_prog.specs.Prog.{exec}
use Rattle.btr_read.specs.declared.want.Want.{Want}
use Rattle.btr_volume.specs.Table.{first_key}
use Rattle.btr_volume.specs.Tree.{root_root}
use Rattle.btr_walk.specs.Going.{IsOn}
use Rattle.btr_walk.specs.Range.{range}
use Rattle.btr_walk.specs.Reading.{unread_by}
use Rattle.btr_walk.specs.ScanEnds.{left_of}
use Rattle.btr_dump.specs.Pieces.{all_trees, item_trees, kind_in, top_trees}
use Rattle.btr_dump.specs.Showing.{ShowsText}
use Rattle.btr_dump.proofs.Growing.{grows_twice}
use Rattle.btr_dump.proofs.Parts.{first_stops, second_then}
use Rattle.btr_walk.proofs.Fetched.{since}
use Rattle.btr_walk.proofs.Joined.{drawn, joined}
use Rattle.btr_dump.proofs.Telling.{on_as}
use Rattle.btr_dump.proofs.trees.show_all.Goals as goal

pub returns-in_err-show_tops-clause-content : goal.returns-in_err-show_tops-clause-content
returns-in_err-show_tops-clause-content g c =
    let s = c.args.s.now in
    let layout = c.args.store.now.layout in
    let is = unread_by layout (g.R.Rack.seen c.args.rack.now) (g.R.Rack.seen c.show_tops.new.rack) in
    let text = g.O.Out.text c.args.out.now in
    let text' = g.O.Out.text c.show_tops.new.out in
    let waited = c.args.text.now in
    let waits = c.show_tops.new.text in
    let p = err_from_is_err_and c.from_residual.result c.from_residual.ensures.1 in
    rw (p.1, p.2)
    (drawn layout (λ B. ShowsText {A = Unit {0}} is [] (exec B (top_trees s)) text text' waited waits (Err c.in_err-show_tops.field-0.0))
    (λ B. ShowsText {A = Unit {0}} is [] (exec B (all_trees s)) text text' waited waits (Err c.in_err-show_tops.field-0.0))
    (λ B w. first_stops B (top_trees s) (λ u. item_trees (kind_in s) (range first_key last_key (root_root s))) is text text' waited waits
    c.in_err-show_tops.field-0.0 w) c.in_err-show_tops.ensures.content)

pub returns-clause-grows : goal.returns-clause-grows
returns-clause-grows g c = grows_twice c.in_ok-show_tops.ensures.grows c.show_rest-shown.ensures.grows

pub returns-clause-content : goal.returns-clause-content
returns-clause-content g c =
    let s = c.args.s.now in
    let layout = c.args.store.now.layout in
    let store = c.show_tops.new.store in
    let mid = store.layout in
    let before = g.R.Rack.seen c.args.rack.now in
    let between = g.R.Rack.seen c.show_tops.new.rack in
    let after = g.R.Rack.seen c.show_rest-shown.new.rack in
    let is = unread_by layout before after in
    let early = unread_by layout before between in
    let later = unread_by mid between after in
    let old = g.O.Out.text c.args.out.now in
    let text = g.O.Out.text c.show_tops.new.out in
    let new = g.O.Out.text c.show_rest-shown.new.out in
    let waited = c.args.text.now in
    let waiting = c.show_tops.new.text in
    let waits = c.show_rest-shown.new.text in
    let scan = c.new.result in
    let items = range first_key last_key (root_root s) in
    let kind = c.kind_in.result in
    let result = c.show_rest-shown.result in
    joined (λ B. ShowsText {A = Unit {0}} early [] (exec B (top_trees s)) old text waited waiting (Ok tt))
    (λ B. (seen : List Want) → IsOn scan.lo scan.hi B seen scan.place
    → ShowsText later seen (exec B (item_trees kind (left_of B store scan))) text new waiting waits result)
    (λ B. ShowsText is [] (exec B (all_trees s)) old new waited waits result) c.in_ok-show_tops.ensures.loans.layout
    (λ B one two. second_then B (top_trees s) (λ u. item_trees (kind_in s) items) early is later
    (since layout mid c.in_ok-show_tops.ensures.loans.layout c.in_ok-show_tops.ensures.reads) old text new waited waiting waits result one
    (subst (λ k. ShowsText later [] (exec B (item_trees k items)) text new waiting waits result) c.kind_in.ensures
    (subst (λ p. ShowsText later [] (exec B (item_trees kind p)) text new waiting waits result)
    (c.new.ensures.program B store ∙ ap (range first_key last_key) c.root_root.ensures)
    (two [] (on_as first_key last_key scan.lo scan.hi B [] scan.place (sym c.new.ensures.lo) (sym c.new.ensures.hi) (c.new.ensures.on B))))))
    c.in_ok-show_tops.ensures.content c.show_rest-shown.ensures.content
