use Rattle.std.proofs.Common.{◌≡◌, Some, None, ap, ◌∙◌, sym}
use Rattle.std.specs.Option.{option_and_then}
use Rattle.std.specs.List.{find, position}
use Rattle.btr_rack.specs.Image.{is_named, page_at}
use Rattle.btr_rack.specs.Memory.{named_page}
use Rattle.btr_rack.proofs.Racks.{stands_at, stands_nowhere, finds}
use Rattle.btr_rack.proofs.mem_rack.MemRack.page.Goals as goal

pub returns-in-Some : goal.returns-in-Some
returns-in-Some c =
    let at : Some c.in-Some.at ≡ position (is_named c.args.name.now) c.self.inside.images.items = rw (← c.deref.ensures.value) c.in-Some.ensures in
    let found : find (is_named c.args.name.now) c.self.inside.images.items ≡ Some c.index.result.now =
    finds c.args.name.now c.self.inside.images.items c.in-Some.at c.index.result.now (stands_at c.args.name.now c.self.inside.images.items c.in-Some.at at)
    ∙ ap Some (sym c.index.ensures) in
    c.page.ensures
    ∙ ap (λ found. option_and_then (λ image. page_at image.pages c.args.index) found) (sym found)
    ∙ ap (λ rack. named_page rack c.args.name.now c.args.index) c.self.view_is

pub returns-in-None : goal.returns-in-None
returns-in-None c =
    let nowhere : None ≡ position (is_named c.args.name.now) c.self.inside.images.items = rw (← c.deref.ensures.value) c.in-None.ensures in
    ap (λ found. option_and_then (λ image. page_at image.pages c.args.index) found) (sym (stands_nowhere c.args.name.now c.self.inside.images.items nowhere))
    ∙ ap (λ rack. named_page rack c.args.name.now c.args.index) c.self.view_is
