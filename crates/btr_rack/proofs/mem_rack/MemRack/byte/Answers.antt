use Rattle.std.proofs.Common.{◌≡◌, Some, None, ap, ◌∙◌, sym}
use Rattle.std.specs.Option.{option_and_then, option_map}
use Rattle.std.specs.List.{slice_get, find, position}
use Rattle.btr_rack.specs.Image.{is_named, bytes_in}
use Rattle.btr_rack.specs.Memory.{named}
use Rattle.btr_rack.proofs.Racks.{stands_at, stands_nowhere, finds}
use Rattle.btr_rack.proofs.mem_rack.MemRack.byte.Goals as goal

pub returns-in-Some : goal.returns-in-Some
returns-in-Some c =
    let at : Some c.in-Some.at ≡ position (is_named c.args.name.now) c.self.inside.images.items = rw (← c.deref.ensures.value) c.in-Some.ensures in
    let image = c.index.result.now in
    let found : find (is_named c.args.name.now) c.self.inside.images.items ≡ Some image =
    finds c.args.name.now c.self.inside.images.items c.in-Some.at image (stands_at c.args.name.now c.self.inside.images.items c.in-Some.at at)
    ∙ ap Some (sym c.index.ensures) in
    c.byte.ensures
    ∙ ap (λ found. option_and_then (λ bytes. slice_get bytes c.args.off) (option_map bytes_in found)) (sym found)
    ∙ ap (λ rack. option_and_then (λ bytes. slice_get bytes c.args.off) (named rack c.args.name.now)) c.self.view_is

pub returns-in-None : goal.returns-in-None
returns-in-None c =
    let nowhere : None ≡ position (is_named c.args.name.now) c.self.inside.images.items = rw (← c.deref.ensures.value) c.in-None.ensures in
    ap (λ found. option_and_then (λ bytes. slice_get bytes c.args.off) (option_map bytes_in found))
    (sym (stands_nowhere c.args.name.now c.self.inside.images.items nowhere))
    ∙ ap (λ rack. option_and_then (λ bytes. slice_get bytes c.args.off) (named rack c.args.name.now)) c.self.view_is
