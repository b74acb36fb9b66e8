use Rattle.std.proofs.Common.{[], List, Ok, Err, sym, subst}
use Rattle.btr_prog.specs.Prog.{exec}
use Rattle.btr_read.specs.declared.want.Want.{Want}
use Rattle.btr_text.specs.Pieces.{text_of}
use Rattle.btr_text.proofs.Writing.{wrote_as, cut_as}
use Rattle.btr_walk.specs.Blocks.{blocks}
use Rattle.btr_walk.specs.Preorder.{IsAmong, blocks_left}
use Rattle.btr_walk.specs.Reading.{unread_by}
use Rattle.btr_dump.specs.Pieces.{tree_text, blocks_shown, tree_shown}
use Rattle.btr_dump.specs.Showing.{ShowsText}
use Rattle.btr_dump.proofs.Rooting.{one_cut, one_then}
use Rattle.btr_walk.proofs.Joined.{drawn, unread_on}
use Rattle.btr_dump.proofs.Growing.{grows_twice, text_grows}
use Rattle.btr_dump.proofs.tree.show_tree.Goals as goal

pub returns-in-Err-clause-content : goal.returns-in-Err-clause-content
returns-in-Err-clause-content g c =
    let root = c.args.root.now in
    let kind = c.args.kind in
    let layout = c.args.store.now.layout in
    let rack = g.R.Rack.seen c.args.rack.now in
    let old = g.O.Out.text c.args.out.now in
    let new = g.O.Out.text c.push_all.new.out in
    let line = tree_text root.id root.offset in
    unread_on layout (λ B. ShowsText {A = Unit {0}} (unread_by layout rack rack) [] (exec B (tree_shown kind root)) old new c.args.text.now
    c.push_all.new.self (Err c.stop_of.result))
    (λ B. subst (λ e. ShowsText {A = Unit {0}} (unread_by layout rack rack) [] (exec B (tree_shown kind root)) old new c.args.text.now
    c.push_all.new.self (Err e)) (sym c.stop_of.ensures)
    (one_cut (unread_by layout rack rack) B line (blocks_shown kind (blocks root.place)) old new c.args.text.now c.push_all.new.self c.in-Err.refusal
    (cut_as line c.tree_line.ensures c.in-Err.ensures.text)))

pub returns-clause-content : goal.returns-clause-content
returns-clause-content g c =
    let root = c.args.root.now in
    let kind = c.args.kind in
    let layout = c.args.store.now.layout in
    let is = unread_by layout (g.R.Rack.seen c.args.rack.now) (g.R.Rack.seen c.show_rest-shown.new.rack) in
    let old = g.O.Out.text c.args.out.now in
    let mid = g.O.Out.text c.push_all.new.out in
    let new = g.O.Out.text c.show_rest-shown.new.out in
    let scan = c.new.result in
    let line = tree_text root.id root.offset in
    drawn layout (λ B. (seen : List Want) → IsAmong B seen scan.place
    → ShowsText is seen (exec B (blocks_shown kind (blocks_left B scan))) mid new c.push_all.new.self c.show_rest-shown.new.text c.show_rest-shown.result)
    (λ B. ShowsText is [] (exec B (tree_shown kind root)) old new c.args.text.now c.show_rest-shown.new.text c.show_rest-shown.result)
    (λ B h. one_then is B line (blocks_shown kind (blocks root.place)) old mid new c.args.text.now c.push_all.new.self c.show_rest-shown.new.text
    c.show_rest-shown.result (wrote_as line c.tree_line.ensures c.in-Ok.ensures.text)
    (subst (λ p. ShowsText is [] (exec B (blocks_shown kind p)) mid new c.push_all.new.self c.show_rest-shown.new.text c.show_rest-shown.result)
    (c.new.ensures.program B) (h [] (c.new.ensures.on B))))
    c.show_rest-shown.ensures.content

pub returns-in-Err-clause-grows : goal.returns-in-Err-clause-grows
returns-in-Err-clause-grows g c =
    text_grows (Unit {0}) (g.O.Out.text c.args.out.now) (g.O.Out.text c.push_all.new.out) c.args.text.now c.push_all.new.self
    (text_of c.tree_line.result) (Err c.in-Err.refusal) c.in-Err.ensures.text

pub returns-clause-grows : goal.returns-clause-grows
returns-clause-grows g c =
    grows_twice (text_grows (Unit {0}) (g.O.Out.text c.args.out.now) (g.O.Out.text c.push_all.new.out) c.args.text.now c.push_all.new.self
    (text_of c.tree_line.result) (Ok tt) c.in-Ok.ensures.text) c.show_rest-shown.ensures.grows
