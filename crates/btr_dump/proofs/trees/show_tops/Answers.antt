use Rattle.std.proofs.Common.{◌∙◌, [], Ok, Err, ap, subst}
use Rattle.std.proofs.lemmas.Result.{err_from_is_err_and}
use Rattle.btr_prog.specs.Prog.{exec}
use Rattle.btr_volume.specs.Table.{chunk_root}
use Rattle.btr_volume.specs.Tree.{root_root, named_root}
use Rattle.btr_walk.specs.Reading.{unread_by}
use Rattle.btr_dump.specs.Pieces.{kind_in, top_trees, tree_shown}
use Rattle.btr_dump.specs.Showing.{ShowsText}
use Rattle.btr_dump.proofs.Growing.{grows_twice}
use Rattle.btr_dump.proofs.Parts.{first_stops, second_then}
use Rattle.btr_walk.proofs.Fetched.{since}
use Rattle.btr_walk.proofs.Joined.{drawn, joined}
use Rattle.btr_dump.proofs.trees.show_tops.Goals as goal

pub returns-in_err-show_tree-clause-content : goal.returns-in_err-show_tree-clause-content
returns-in_err-show_tree-clause-content g c =
    let s = c.args.s.now in
    let layout = c.args.store.now.layout in
    let is = unread_by layout (g.R.Rack.seen c.args.rack.now) (g.R.Rack.seen c.show_tree.new.rack) in
    let text = g.O.Out.text c.args.out.now in
    let text' = g.O.Out.text c.show_tree.new.out in
    let waited = c.args.text.now in
    let waits = c.show_tree.new.text in
    let kind = c.kind_in-kind.result in
    let first = named_root 1 (root_root s) in
    let p = err_from_is_err_and c.from_residual.result c.from_residual.ensures.1 in
    rw (p.1, p.2)
    (drawn layout (λ B. ShowsText {A = Unit {0}} is [] (exec B (tree_shown kind c.named_root.result)) text text' waited waits
    (Err c.in_err-show_tree.field-0.0))
    (λ B. ShowsText {A = Unit {0}} is [] (exec B (top_trees s)) text text' waited waits (Err c.in_err-show_tree.field-0.0))
    (λ B w. first_stops B (tree_shown (kind_in s) first) (λ u. tree_shown (kind_in s)
    (named_root 3 (chunk_root s))) is text text' waited waits c.in_err-show_tree.field-0.0
    (subst (λ k. ShowsText {A = Unit {0}} is [] (exec B (tree_shown k first)) text text' waited waits (Err c.in_err-show_tree.field-0.0)) c.kind_in-kind.ensures
    (subst (λ r. ShowsText {A = Unit {0}} is [] (exec B (tree_shown kind r)) text text' waited waits (Err c.in_err-show_tree.field-0.0))
    (c.named_root.ensures ∙ ap (named_root 1) c.root_root.ensures) w)))
    c.in_err-show_tree.ensures.content)

pub returns-clause-grows : goal.returns-clause-grows
returns-clause-grows g c = grows_twice c.in_ok-show_tree.ensures.grows c.show_tree-2.ensures.grows

pub returns-clause-content : goal.returns-clause-content
returns-clause-content g c =
    let s = c.args.s.now in
    let layout = c.args.store.now.layout in
    let mid = c.show_tree.new.store.layout in
    let before = g.R.Rack.seen c.args.rack.now in
    let between = g.R.Rack.seen c.show_tree.new.rack in
    let after = g.R.Rack.seen c.show_tree-2.new.rack in
    let is = unread_by layout before after in
    let early = unread_by layout before between in
    let later = unread_by mid between after in
    let old = g.O.Out.text c.args.out.now in
    let text = g.O.Out.text c.show_tree.new.out in
    let new = g.O.Out.text c.show_tree-2.new.out in
    let waited = c.args.text.now in
    let waiting = c.show_tree.new.text in
    let waits = c.show_tree-2.new.text in
    let kind = c.kind_in-kind.result in
    let first = named_root 1 (root_root s) in
    let second = named_root 3 (chunk_root s) in
    let result = c.show_tree-2.result in
    joined (λ B. ShowsText {A = Unit {0}} early [] (exec B (tree_shown kind c.named_root.result)) old text waited waiting (Ok tt))
    (λ B. ShowsText later [] (exec B (tree_shown kind c.named_root-2.result)) text new waiting waits result)
    (λ B. ShowsText is [] (exec B (top_trees s)) old new waited waits result) c.in_ok-show_tree.ensures.loans.layout
    (λ B one two. second_then B (tree_shown (kind_in s) first) (λ u. tree_shown (kind_in s) second) early is later
    (since layout mid c.in_ok-show_tree.ensures.loans.layout c.in_ok-show_tree.ensures.reads) old text new waited waiting waits result
    (subst (λ k. ShowsText {A = Unit {0}} early [] (exec B (tree_shown k first)) old text waited waiting (Ok tt)) c.kind_in-kind.ensures
    (subst (λ r. ShowsText {A = Unit {0}} early [] (exec B (tree_shown kind r)) old text waited waiting (Ok tt))
    (c.named_root.ensures ∙ ap (named_root 1) c.root_root.ensures) one))
    (subst (λ k. ShowsText later [] (exec B (tree_shown k second)) text new waiting waits result) c.kind_in-kind.ensures
    (subst (λ r. ShowsText later [] (exec B (tree_shown kind r)) text new waiting waits result)
    (c.named_root-2.ensures ∙ ap (named_root 3) c.chunk_root.ensures) two)))
    c.in_ok-show_tree.ensures.content c.show_tree-2.ensures.content
