use Rattle.std.proofs.Common.{◌∙◌, sym, ap}
use Rattle.std.proofs.lemmas.Bool.{and_parts}
use Rattle.btr_items.specs.Item.{body_fits, form_of}
use Rattle.btr_items.specs.Key.{key_fits}
use Rattle.btr_block_text.proofs.items.write_body.Goals as goal

pub write_form-requires : goal.write_form-requires
write_form-requires g c =
    let fits = and_parts (key_fits c.args.key) (body_fits (form_of c.args.key.kind) c.args.sums c.args.key c.args.body.now)
    (sym c.item_fits.ensures ∙ c.if-item_fits.true) in
    ap (λ form. body_fits form c.args.sums c.args.key c.args.body.now) c.of_type.ensures ∙ fits.1
