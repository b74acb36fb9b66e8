use Rattle.std.proofs.Common.{◌≡◌, ◌+◌, ◌*◌, ◌/◌, ◌%◌, ◌<◌, Some, ap, sym, ◌∙◌, arith}
use Rattle.std.specs.List.{slice_get}
use Rattle.btr_rack.specs.Image.{bytes_in, kept_byte, page_byte}
use Rattle.btr_rack.proofs.Patches.{get_made, get_past, byte_is}
use Rattle.btr_rack.proofs.image.Image.byte.Goals as goal

pub returns-then-at-self : goal.returns-then-at-self
returns-then-at-self c =
    let whole : 4096 * (c.args.at / 4096) + c.args.at % 4096 ≡ c.args.at = omega arith in
    let read = c.page_of.ensures (c.args.at % 4096) (omega arith) in
    let small : c.byte_of.result < 256 = omega (arith, c.byte_of.type_inv) in
    ap Some (byte_is c.byte_of.result _ small (c.byte_of.ensures ∙ read ∙ ap (kept_byte c.self.inside.pages.entries) whole))
    ∙ sym (get_made (page_byte c.self.inside.pages.entries) 0 c.self.inside.len c.args.at c.if-at-self.true
    ∙ ap (λ k. Some (page_byte c.self.inside.pages.entries k)) (omega arith))
    ∙ ap (λ image. slice_get (bytes_in image) c.args.at) c.self.view_is

pub returns-else-at-self : goal.returns-else-at-self
returns-else-at-self c =
    sym (get_past (page_byte c.self.inside.pages.entries) 0 c.self.inside.len c.args.at c.if-at-self.false)
    ∙ ap (λ image. slice_get (bytes_in image) c.args.at) c.self.view_is
