use Rattle.std.proofs.Common.{refl}
use Rattle.btr_prog_example.specs.declared.tray.Kept.TheVariants as kept
use Rattle.btr_prog_example.proofs.Kepts.{kept_end}
use Rattle.btr_prog_example.proofs.tray.TraySink.end.Goals as goal

pub returns : goal.returns
returns c = kept_end c.args.self.now.rows.items c.keep.new.self.rows.items kept.End c.keep.result refl c.keep.ensures.ok c.keep.ensures.err
