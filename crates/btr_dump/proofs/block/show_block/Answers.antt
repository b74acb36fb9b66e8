use Rattle.std.proofs.Common.{[], Err, sym, subst}
use Rattle.btr_read.specs.declared.want.Want.TheVariants.{Block}
use Rattle.btr_read.proofs.Serving.{serves_given}
use Rattle.btr_read.specs.Serves.{Serves}
use Rattle.btr_volume.specs.declared.stop.Stop.TheVariants.{Tree}
use Rattle.btr_walk.specs.Reading.{unread_by}
use Rattle.btr_prog.specs.Prog.{exec}
use Rattle.btr_dump.specs.Pieces.{block_shown, held_block, held_in}
use Rattle.btr_dump.specs.Showing.{TellsBlock, ShowsText}
use Rattle.btr_dump.specs.Stops.{DumpStopCause}
use Rattle.btr_walk.proofs.Lending.{given_back}
use Rattle.btr_dump.proofs.Blocks.{block_failed, block_came, block_cause}
use Rattle.btr_dump.proofs.Growing.{grows_none, run_grows, no_block}
use Rattle.btr_dump.proofs.block.show_block.Goals as goal

pub returns-in-Err-clause-content : goal.returns-in-Err-clause-content
returns-in-Err-clause-content g c =
    let layout = c.args.store.now.layout in
    let old = g.R.Rack.seen c.args.rack.now in
    let new = g.R.Rack.seen c.fetch.new.rack in
    let text = g.O.Out.text c.args.out.now in
    subst (λ f. TellsBlock layout c.args.addr old new (λ B. ShowsText (unread_by layout old new) [] (exec B (block_shown c.args.kind c.args.addr)) text
    text c.args.text.now c.args.text.now (Err (Tree f)))) (sym c.from.ensures)
    (block_failed layout old new c.args.kind c.args.addr c.in-Err.ensures.reads text c.args.text.now c.fetch.new.store c.in-Err.fault c.in-Err.ensures.answer)

pub returns-in-Err-clause-cause : goal.returns-in-Err-clause-cause
returns-in-Err-clause-cause g c =
    let layout = c.args.store.now.layout in
    let old = g.R.Rack.seen c.args.rack.now in
    let new = g.R.Rack.seen c.fetch.new.rack in
    subst (λ f. DumpStopCause {A = Unit {0}} layout old new (Err (Tree f))) (sym c.from.ensures)
    (block_cause layout old new c.args.kind c.args.addr c.in-Err.ensures.reads c.fetch.new.store c.in-Err.fault c.in-Err.ensures.answer)

pub returns-clause-serves : goal.returns-clause-serves
returns-clause-serves g c = subst (Serves (g.R.Rack.seen c.fetch.new.rack)) (sym c.give.ensures)
    (serves_given (g.R.Rack.seen c.fetch.new.rack) c.fetch.new.store c.in-Ok.loan.slot c.in-Ok.ensures.serves)

pub returns-clause-loans : goal.returns-clause-loans
returns-clause-loans g c = given_back _ _ _ (Block c.args.addr) c.in-Ok.loan c.in-Ok.ensures.lent c.give.ensures

pub returns-clause-cause : goal.returns-clause-cause
returns-clause-cause g c = c.write_held-shown.ensures.cause c.args.store.now.layout (g.R.Rack.seen c.args.rack.now) (g.R.Rack.seen c.fetch.new.rack)

pub returns-clause-content : goal.returns-clause-content
returns-clause-content g c =
    let layout = c.args.store.now.layout in
    let old = g.R.Rack.seen c.args.rack.now in
    let new = g.R.Rack.seen c.fetch.new.rack in
    block_came layout old new c.args.kind c.args.addr c.in-Ok.ensures.reads (g.O.Out.text c.args.out.now) (g.O.Out.text c.write_held-shown.new.out)
    c.args.text.now c.write_held-shown.new.text c.fetch.new.store c.in-Ok.loan c.bytes.result.now c.write_held-shown.result c.in-Ok.ensures.answer
    c.bytes.ensures.value (c.write_held-shown.ensures.text layout old new [])

pub returns-in-Err-clause-grows : goal.returns-in-Err-clause-grows
returns-in-Err-clause-grows g c = grows_none (g.O.Out.text c.args.out.now)

pub returns-clause-grows : goal.returns-clause-grows
returns-clause-grows g c =
    let layout = c.args.store.now.layout in
    let old = g.R.Rack.seen c.args.rack.now in
    let new = g.R.Rack.seen c.fetch.new.rack in
    let block = c.bytes.result.now in
    run_grows (unread_by layout old new) [] (exec no_block (held_block c.args.kind c.args.addr block (held_in block))) (g.O.Out.text c.args.out.now)
    (g.O.Out.text c.write_held-shown.new.out) c.args.text.now c.write_held-shown.new.text c.write_held-shown.result
    (c.write_held-shown.ensures.text layout old new [] no_block)
