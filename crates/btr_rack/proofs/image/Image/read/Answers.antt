use Rattle.std.proofs.Common.{◌≡◌, ap, sym, arith, length, get_or}
use Rattle.btr_rack.specs.Image.{page_byte}
use Rattle.btr_rack.proofs.Patches.{part_made, byte_is}
use Rattle.btr_rack.proofs.image.Image.read.Goals as goal

pub returns : goal.returns
returns c =
    let sized : length c.read_pages.new.buf ≡ length c.args.buf.now = c.read_pages.auto.buf in
    let len : c.args.self.now.slot.len ≡ c.self.inside.len = ap (λ image. image.slot.len) (sym c.self.view_is) in
    let part = part_made (page_byte c.self.inside.pages.entries) c.read_pages.new.buf c.self.inside.len c.args.off (omega arith)
    (λ k lt. byte_is (get_or c.read_pages.new.buf k 0) _ (omega (arith, c.type_inv.buf k)) (c.read_pages.ensures k (omega arith))) in
    rw (← c.self.view_is, ← sized) part
