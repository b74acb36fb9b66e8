use Rattle.std.proofs.Common.{[], subst}
use Rattle.btr_prog.specs.Prog.{exec}
use Rattle.btr_walk.specs.Reading.{unread_by}
use Rattle.btr_dump.specs.Pieces.{kind_in, block_shown}
use Rattle.btr_dump.specs.Showing.{PutsText, ShowsText}
use Rattle.btr_dump.proofs.Blocks.{tells_drawn}
use Rattle.btr_dump.proofs.Growing.{grows_twice}
use Rattle.btr_dump.proofs.block.dump_block.Goals as goal

pub returns-clause-account : goal.returns-clause-account
returns-clause-account g c = c.finish.ensures.account (g.O.Out.account c.args.out.now) c.show_block-shown.ensures.account

pub returns-clause-cause : goal.returns-clause-cause
returns-clause-cause g c = c.finish.ensures.cause c.args.vol.now.store.layout (g.R.Rack.seen c.args.rack.now)
    (g.R.Rack.seen c.show_block-shown.new.rack) c.show_block-shown.ensures.cause

pub returns-clause-content : goal.returns-clause-content
returns-clause-content g c =
    let layout = c.args.vol.now.store.layout in
    let old = g.R.Rack.seen c.args.rack.now in
    let new = g.R.Rack.seen c.show_block-shown.new.rack in
    let begun = g.O.Out.text c.args.out.now in
    let mid = g.O.Out.text c.show_block-shown.new.out in
    let is = unread_by layout old new in
    tells_drawn layout c.args.addr old new
    (λ B. ShowsText is [] (exec B (block_shown c.kind_in-kind.result c.args.addr)) begun mid c.new-text.result c.show_block-shown.new.text
    c.show_block-shown.result)
    (λ B. PutsText is (exec B (block_shown (kind_in c.args.vol.now.sup) c.args.addr)) begun (g.O.Out.text c.finish.new.out) c.finish.result)
    (λ B h. c.finish.ensures.text layout old new (exec B (block_shown (kind_in c.args.vol.now.sup) c.args.addr)) begun
    (subst (λ kind. ShowsText is [] (exec B (block_shown kind c.args.addr)) begun mid [] c.show_block-shown.new.text c.show_block-shown.result)
    c.kind_in-kind.ensures
    (subst (λ waited. ShowsText is [] (exec B (block_shown c.kind_in-kind.result c.args.addr)) begun mid waited c.show_block-shown.new.text
    c.show_block-shown.result) c.new-text.ensures h)))
    c.show_block-shown.ensures.content

pub returns-clause-grows : goal.returns-clause-grows
returns-clause-grows g c = grows_twice c.show_block-shown.ensures.grows c.finish.ensures.grows
