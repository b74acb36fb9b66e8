use Rattle.std.proofs.Common.{arith}
use Rattle.btr_rack.proofs.Slots.{length_slots, slots_push}
use Rattle.btr_rack.proofs.file.FileRackRack.open.Goals as goal

pub returns-in-Ok-push-clause-slots : goal.returns-in-Ok-push-clause-slots
returns-in-Ok-push-clause-slots g c = (
  omega (arith, length_slots c.args.self.now.files.items),
  slots_push c.in-Ok.opening c.args.name.now c.args.write c.args.self.now.files.items c.push.new.self.items c.in-Ok-open.file
      c.in-Ok-open.ensures.opened.0 c.in-Ok-open.ensures.opened.1 c.in-Ok.ensures c.in-Ok-push.ensures.items,
)
