use Rattle.std.proofs.Common.{◌<◌, ◌+◌, ◌∙◌, ap, sym, subst, length}
use Rattle.std.specs.List.{slice_range}
use Rattle.btr_rack.specs.Memory.{slots_of}
use Rattle.btr_rack.proofs.Racks.{image-is, open-front}
use Rattle.btr_rack.proofs.mem_rack.MemRackRack.read_at.Goals as goal

pub returns-clause-bytes : goal.returns-clause-bytes
returns-clause-bytes c =
    let front : c.args.slot < c.self.inside.opened =
    open-front c.self.inside.images.items c.self.inside.opened c.args.slot
    (subst (λ rack. c.args.slot < length (slots_of rack)) (sym c.self.view_is) c.requires.open) in
    rw (← c.self.view_is)
    (c.read.ensures
    ∙ ap (λ image. slice_range image c.args.off (c.args.off + length c.args.buf.now))
    (sym (image-is c.self.inside.images.items c.self.inside.opened c.args.slot c.index-image.result.now front c.self.invariant c.index-image.ensures)))
