use Rattle.std.proofs.Common.{ap}
use Rattle.btr_prog_example.specs.declared.tray.Kept.TheVariants as kept
use Rattle.btr_prog_example.specs.Rows.{Bytes}
use Rattle.btr_prog_example.proofs.Kepts.{kept_bytes}
use Rattle.btr_prog_example.proofs.tray.TraySink.put.Goals as goal

pub returns-in-Ok : goal.returns-in-Ok
returns-in-Ok c = kept_bytes c.args.self.now.rows.items c.keep.new.self.rows.items (kept.Bytes c.in-Ok.copy) c.args.bytes.now c.keep.result
    (ap Bytes c.in-Ok.ensures.items) c.keep.ensures.ok c.keep.ensures.err
