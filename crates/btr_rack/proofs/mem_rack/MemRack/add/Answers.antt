use Rattle.std.proofs.Common.{◌≡◌, true, false, ap, ◌∙◌, sym, refl}
use Rattle.std.specs.Option.{is_some}
use Rattle.std.specs.List.{list_any}
use Rattle.btr_rack.specs.Image.{is_named}
use Rattle.btr_rack.specs.Memory.{named}
use Rattle.btr_rack.proofs.Racks.{is_some-named}
use Rattle.btr_rack.proofs.mem_rack.MemRack.add.Goals as goal

pub returns-then-contains-clause-name : goal.returns-then-contains-clause-name
returns-then-contains-clause-name c =
    let held : is_some (named c.args.self.now c.args.name.now) ≡ true =
    ap (λ rack. is_some (named rack c.args.name.now)) (sym c.self.view_is) ∙ is_some-named c.args.name.now c.self.inside.images.items
    ∙ ap (list_any (is_named c.args.name.now)) (sym c.deref.ensures.value) ∙ sym c.contains.ensures ∙ c.if-contains.true in
    (λ _. held, λ _. refl)

pub returns-in_default-clause-name : goal.returns-in_default-clause-name
returns-in_default-clause-name c =
    let none : is_some (named c.args.self.now c.args.name.now) ≡ false =
    ap (λ rack. is_some (named rack c.args.name.now)) (sym c.self.view_is) ∙ is_some-named c.args.name.now c.self.inside.images.items
    ∙ ap (list_any (is_named c.args.name.now)) (sym c.deref.ensures.value) ∙ sym c.contains.ensures ∙ c.if-contains.false in
    (λ e. cc, λ h. cc)

pub returns-in_default-push-clause-name : goal.returns-in_default-push-clause-name
returns-in_default-push-clause-name c =
    let none : is_some (named c.args.self.now c.args.name.now) ≡ false =
    ap (λ rack. is_some (named rack c.args.name.now)) (sym c.self.view_is) ∙ is_some-named c.args.name.now c.self.inside.images.items
    ∙ ap (list_any (is_named c.args.name.now)) (sym c.deref.ensures.value) ∙ sym c.contains.ensures ∙ c.if-contains.false in
    (λ e. cc, λ h. cc)

pub returns-clause-name : goal.returns-clause-name
returns-clause-name c =
    let none : is_some (named c.args.self.now c.args.name.now) ≡ false =
    ap (λ rack. is_some (named rack c.args.name.now)) (sym c.self.view_is) ∙ is_some-named c.args.name.now c.self.inside.images.items
    ∙ ap (list_any (is_named c.args.name.now)) (sym c.deref.ensures.value) ∙ sym c.contains.ensures ∙ c.if-contains.false in
    (λ e. cc, λ h. cc)
