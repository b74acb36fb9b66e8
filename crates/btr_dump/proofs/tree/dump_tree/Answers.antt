use Rattle.std.proofs.Common.{◌∙◌, [], Ok, Err, ap, subst}
use Rattle.btr_prog.specs.Prog.{exec}
use Rattle.btr_prog.specs.Answers.{Follows, no_part}
use Rattle.btr_volume.specs.Tree.{tree_of}
use Rattle.btr_volume.specs.declared.stop.Stop.TheVariants.{NoTree, Tree}
use Rattle.btr_walk.specs.Reading.{unread_by, answer_of}
use Rattle.btr_dump.specs.Pieces.{kind_in, asked_tree, tree_shown}
use Rattle.btr_dump.specs.Showing.{PutsText, PutsAsked}
use Rattle.btr_dump.proofs.Asking.{asked_fault, asked_none, asked_some}
use Rattle.btr_walk.proofs.Fetched.{since}
use Rattle.btr_walk.proofs.Joined.{drawn, joined}
use Rattle.btr_dump.proofs.Growing.{grows_none}
use Rattle.btr_dump.proofs.tree.dump_tree.Goals as goal

pub returns-in-Err-clause-content : goal.returns-in-Err-clause-content
returns-in-Err-clause-content g c =
    let s = c.args.vol.now.sup in
    let layout = c.args.vol.now.store.layout in
    let is = unread_by layout (g.R.Rack.seen c.args.rack.now) (g.R.Rack.seen c.tree.new.rack) in
    let text = g.O.Out.text c.args.out.now in
    drawn layout (λ B. Follows {S = ⊥} is no_part [] (exec B (tree_of s c.args.id)) [] (answer_of (Err c.in-Err.fault)))
    (λ B. PutsAsked is (exec B (asked_tree s c.args.id)) text text (Err (Tree c.in-Err.fault)))
    (λ B h. asked_fault is B (kind_in s) c.args.id (tree_of s c.args.id) text c.in-Err.fault h) c.in-Err.ensures.content

pub returns-in-Ok-None-clause-content : goal.returns-in-Ok-None-clause-content
returns-in-Ok-None-clause-content g c =
    let s = c.args.vol.now.sup in
    let layout = c.args.vol.now.store.layout in
    let is = unread_by layout (g.R.Rack.seen c.args.rack.now) (g.R.Rack.seen c.tree.new.rack) in
    let text = g.O.Out.text c.args.out.now in
    drawn layout (λ B. Follows {S = ⊥} is no_part [] (exec B (tree_of s c.args.id)) [] (answer_of (Ok c.in-Ok-None.field-0)))
    (λ B. PutsAsked is (exec B (asked_tree s c.args.id)) text text (Err (NoTree c.args.id)))
    (λ B h. asked_none is B (kind_in s) c.args.id (tree_of s c.args.id) text
    (subst (λ o. Follows {S = ⊥} is no_part [] (exec B (tree_of s c.args.id)) [] (Ok o)) c.in-Ok-None.field-0-is h)) c.in-Ok-None.ensures.content

pub returns-in-Ok-Some-clause-content : goal.returns-in-Ok-Some-clause-content
returns-in-Ok-Some-clause-content g c =
    let s = c.args.vol.now.sup in
    let layout = c.args.vol.now.store.layout in
    let old = g.R.Rack.seen c.args.rack.now in
    let mid = g.R.Rack.seen c.tree.new.rack in
    let new = g.R.Rack.seen c.put_tree.new.rack in
    let later_layout = c.tree.new.self.store.layout in
    let is = unread_by layout old new in
    let later = unread_by later_layout mid new in
    let same = c.in-Ok-Some.ensures.same in
    let kind = c.kind_in.ensures ∙ ap kind_in same.sup in
    let begun = g.O.Out.text c.args.out.now in
    let text = g.O.Out.text c.put_tree.new.out in
    joined (λ B. Follows {S = ⊥} (unread_by layout old mid) no_part [] (exec B (tree_of s c.args.id)) [] (answer_of (Ok c.in-Ok-Some.field-0)))
    (λ B. PutsText later (exec B (tree_shown c.kind_in.result c.in-Ok-Some.root)) begun text c.put_tree.result)
    (λ B. PutsAsked is (exec B (asked_tree s c.args.id)) begun text c.put_tree.result) same.store.layout
    (λ B h p. asked_some is B (kind_in s) c.args.id (tree_of s c.args.id) c.in-Ok-Some.root later
    (since layout later_layout same.store.layout c.in-Ok-Some.ensures.reads) begun text c.put_tree.result
    (subst (λ o. Follows {S = ⊥} is no_part [] (exec B (tree_of s c.args.id)) [] (Ok o)) c.in-Ok-Some.field-0-is h)
    (subst (λ k. PutsText later (exec B (tree_shown k c.in-Ok-Some.root)) begun text c.put_tree.result) kind p))
    c.in-Ok-Some.ensures.content c.put_tree.ensures.content

pub returns-in-Err-clause-grows : goal.returns-in-Err-clause-grows
returns-in-Err-clause-grows g c = grows_none (g.O.Out.text c.args.out.now)

pub returns-in-Ok-None-clause-grows : goal.returns-in-Ok-None-clause-grows
returns-in-Ok-None-clause-grows g c = grows_none (g.O.Out.text c.args.out.now)
