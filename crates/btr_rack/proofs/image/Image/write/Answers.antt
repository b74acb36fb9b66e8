use Rattle.std.proofs.Common.{◌≡◌, ◌≤◌, ◌+◌, ap, arith, length, take}
use Rattle.std.proofs.lemmas.Result.{on_ok_weaker, on_err_weaker}
use Rattle.btr_rack.specs.Image.{page_byte}
use Rattle.btr_rack.proofs.Patches.{patched_bytes, partly_patched, patched_pages, take_fits}
use Rattle.btr_rack.proofs.image.Image.write.Goals as goal

pub returns-clause-written : goal.returns-clause-written
returns-clause-written c =
    let same : c.self.inside.len ≡ c.args.self.now.slot.len = ap (λ image. image.slot.len) c.self.view_is in
    let fits : c.args.off + length c.args.bytes.now ≤ c.self.inside.len = omega arith in
    rw (← c.self.view_is)
    (on_ok_weaker c.write_pages.result
    (λ each. patched_bytes (page_byte c.self.inside.pages.entries) (page_byte c.write_pages.new.pages.entries) c.self.inside.len c.args.off
    c.args.bytes.now fits (patched_pages c.self.inside.pages.entries c.write_pages.new.pages.entries c.args.off c.args.bytes.now
    (λ k. omega (arith, c.type_inv.bytes k)) each))
    c.write_pages.ensures.written)

pub returns-clause-refused : goal.returns-clause-refused
returns-clause-refused c =
    let same : c.self.inside.len ≡ c.args.self.now.slot.len = ap (λ image. image.slot.len) c.self.view_is in
    let fits : c.args.off + length c.args.bytes.now ≤ c.self.inside.len = omega arith in
    rw (← c.self.view_is)
    (on_err_weaker c.write_pages.result
    (λ part. partly_patched (page_byte c.self.inside.pages.entries) (page_byte c.write_pages.new.pages.entries) c.self.inside.len c.args.off part.0
    c.args.bytes.now fits (patched_pages c.self.inside.pages.entries c.write_pages.new.pages.entries c.args.off (take part.0 c.args.bytes.now)
    (take_fits part.0 c.args.bytes.now (λ k. omega (arith, c.type_inv.bytes k))) part.1))
    c.write_pages.ensures.refused)
