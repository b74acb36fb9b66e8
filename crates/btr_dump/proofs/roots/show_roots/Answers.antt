use Rattle.std.proofs.Common.{◌∙◌, [], ◌++◌, List, Ok, Err, sym, ap, subst}
use Rattle.btr_prog.specs.Prog.{exec}
use Rattle.btr_read.specs.declared.want.Want.{Want}
use Rattle.btr_walk.specs.Going.{IsOn}
use Rattle.btr_walk.specs.Range.{range}
use Rattle.btr_walk.specs.Reading.{unread_by}
use Rattle.btr_walk.specs.ScanEnds.{left_of}
use Rattle.btr_base.specs.Key.{last_key}
use Rattle.btr_volume.specs.Table.{first_key, chunk_root}
use Rattle.btr_volume.specs.Tree.{root_root, named_root}
use Rattle.btr_dump.specs.Pieces.{root_line, item_lines, roots_shown}
use Rattle.btr_dump.specs.Showing.{ShowsText}
use Rattle.btr_dump.proofs.Rooting.{two_cut, two_then}
use Rattle.btr_walk.proofs.Joined.{drawn, unread_on}
use Rattle.btr_dump.proofs.Telling.{on_as}
use Rattle.btr_dump.proofs.Growing.{grows_twice, text_grows}
use Rattle.btr_dump.proofs.roots.show_roots.Goals as goal

pub returns-in-Err-clause-content : goal.returns-in-Err-clause-content
returns-in-Err-clause-content g c =
    let s = c.args.s.now in
    let layout = c.args.store.now.layout in
    let rack = g.R.Rack.seen c.args.rack.now in
    let old = g.O.Out.text c.args.out.now in
    let new = g.O.Out.text c.write_tops.new.out in
    unread_on layout (λ B. ShowsText {A = Unit {0}} (unread_by layout rack rack) [] (exec B (roots_shown s)) old new c.args.text.now
    c.write_tops.new.text (Err c.stop_of.result))
    (λ B. subst (λ e. ShowsText {A = Unit {0}} (unread_by layout rack rack) [] (exec B (roots_shown s)) old new c.args.text.now c.write_tops.new.text
    (Err e)) (sym c.stop_of.ensures)
    (two_cut (unread_by layout rack rack) B (root_line (named_root 1 (root_root s))) (root_line (named_root 3 (chunk_root s)))
    (item_lines (range first_key last_key (root_root s))) old new c.args.text.now c.write_tops.new.text c.in-Err.refusal c.in-Err.ensures.text))

pub returns-clause-content : goal.returns-clause-content
returns-clause-content g c =
    let s = c.args.s.now in
    let layout = c.args.store.now.layout in
    let is = unread_by layout (g.R.Rack.seen c.args.rack.now) (g.R.Rack.seen c.show_rest-shown.new.rack) in
    let old = g.O.Out.text c.args.out.now in
    let mid = g.O.Out.text c.write_tops.new.out in
    let new = g.O.Out.text c.show_rest-shown.new.out in
    let scan = c.new.result in
    drawn layout (λ B. (seen : List Want) → IsOn scan.lo scan.hi B seen scan.place
    → ShowsText is seen (exec B (item_lines (left_of B c.args.store.now scan))) mid new c.write_tops.new.text c.show_rest-shown.new.text
    c.show_rest-shown.result)
    (λ B. ShowsText is [] (exec B (roots_shown s)) old new c.args.text.now c.show_rest-shown.new.text c.show_rest-shown.result)
    (λ B h. two_then is B (root_line (named_root 1 (root_root s))) (root_line (named_root 3 (chunk_root s)))
    (item_lines (range first_key last_key (root_root s))) old mid new c.args.text.now c.write_tops.new.text c.show_rest-shown.new.text
    c.show_rest-shown.result
    c.in-Ok.ensures.text
    (subst (λ p. ShowsText is [] (exec B (item_lines p)) mid new c.write_tops.new.text c.show_rest-shown.new.text c.show_rest-shown.result)
    (c.new.ensures.program B c.args.store.now ∙ ap (range first_key last_key) c.root_root.ensures)
    (h [] (on_as first_key last_key scan.lo scan.hi B [] scan.place (sym c.new.ensures.lo) (sym c.new.ensures.hi) (c.new.ensures.on B)))))
    c.show_rest-shown.ensures.content

pub returns-in-Err-clause-grows : goal.returns-in-Err-clause-grows
returns-in-Err-clause-grows g c =
    let s = c.args.s.now in
    text_grows (Unit {0}) (g.O.Out.text c.args.out.now) (g.O.Out.text c.write_tops.new.out) c.args.text.now c.write_tops.new.text
    (root_line (named_root 1 (root_root s)) ++ root_line (named_root 3 (chunk_root s))) (Err c.in-Err.refusal) c.in-Err.ensures.text

pub returns-clause-grows : goal.returns-clause-grows
returns-clause-grows g c =
    let s = c.args.s.now in
    grows_twice (text_grows (Unit {0}) (g.O.Out.text c.args.out.now) (g.O.Out.text c.write_tops.new.out) c.args.text.now c.write_tops.new.text
    (root_line (named_root 1 (root_root s)) ++ root_line (named_root 3 (chunk_root s))) (Ok tt) c.in-Ok.ensures.text) c.show_rest-shown.ensures.grows
