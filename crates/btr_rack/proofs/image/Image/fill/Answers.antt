use Rattle.std.proofs.Common.{◌≡◌, ◌≤◌, ◌+◌, ap, arith, length, take, replicate}
use Rattle.std.proofs.lemmas.List.{length-replicate}
use Rattle.std.proofs.lemmas.Result.{on_ok_weaker, on_err_weaker}
use Rattle.btr_rack.specs.Image.{page_byte}
use Rattle.btr_rack.proofs.Patches.{patched_bytes, partly_patched, patched_pages, take_fits, replicate_fits}
use Rattle.btr_rack.proofs.image.Image.fill.Goals as goal

pub returns-clause-filled : goal.returns-clause-filled
returns-clause-filled c =
    let same : c.self.inside.len ≡ c.args.self.now.slot.len = ap (λ image. image.slot.len) c.self.view_is in
    let piece = replicate c.args.len c.args.byte in
    let fits : c.args.off + length piece ≤ c.self.inside.len = omega (arith, length-replicate c.args.len c.args.byte) in
    rw (← c.self.view_is)
    (on_ok_weaker c.fill_pages.result
    (λ each. patched_bytes (page_byte c.self.inside.pages.entries) (page_byte c.fill_pages.new.pages.entries) c.self.inside.len c.args.off piece fits
    (patched_pages c.self.inside.pages.entries c.fill_pages.new.pages.entries c.args.off (replicate c.args.len c.args.byte)
    (replicate_fits c.args.len c.args.byte (omega (arith, c.ranges.byte))) each))
    c.fill_pages.ensures.written)

pub returns-clause-refused : goal.returns-clause-refused
returns-clause-refused c =
    let same : c.self.inside.len ≡ c.args.self.now.slot.len = ap (λ image. image.slot.len) c.self.view_is in
    let piece = replicate c.args.len c.args.byte in
    let sized : length piece ≡ c.args.len = length-replicate c.args.len c.args.byte in
    let fits : c.args.off + length piece ≤ c.self.inside.len = omega arith in
    rw (← c.self.view_is)
    (on_err_weaker c.fill_pages.result
    (λ part. partly_patched (page_byte c.self.inside.pages.entries) (page_byte c.fill_pages.new.pages.entries) c.self.inside.len c.args.off part.0
    piece fits (patched_pages c.self.inside.pages.entries c.fill_pages.new.pages.entries c.args.off
    (take part.0 (replicate c.args.len c.args.byte)) (take_fits part.0 (replicate c.args.len c.args.byte)
    (replicate_fits c.args.len c.args.byte (omega (arith, c.ranges.byte)))) part.1))
    c.fill_pages.ensures.refused)
