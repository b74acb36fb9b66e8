use Rattle.btr_prog.proofs.Successive.{calls_as}
use Rattle.btr_prog_example.specs.Blocks.{copies}
use Rattle.btr_prog_example.specs.declared.blocks.Want.TheVariants.{Page}
use Rattle.btr_prog_example.specs.Listing.{rows}
use Rattle.btr_prog_example.proofs.Shows.{err_is, puts_stop, puts_came}
use Rattle.btr_prog_example.proofs.list.show.Goals as goal

pub returns-in_err-bytes : goal.returns-in_err-bytes
returns-in_err-bytes g c =
    let e = err_is c.from_residual.result c.in_err-bytes.field-0.0 c.from_residual.ensures.1 in
    rw e (calls_as (λ sure held h. puts_stop (copies sure held) (Page c.args.page) rows (g.S.Sink.rows c.args.sink.now) c.in_err-bytes.field-0.0 h)
    c.in_err-bytes.ensures)

pub returns : goal.returns
returns g c =
    let put = rw c.deref.ensures.value at c.put_page.ensures in
    calls_as (λ sure held h. puts_came (copies sure held) c.args.page c.in_ok-bytes.bytes (g.S.Sink.rows c.args.sink.now)
    (g.S.Sink.rows c.put_page.new.sink) c.put_page.result h put) c.in_ok-bytes.ensures
