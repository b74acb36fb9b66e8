use Rattle.std.proofs.Common.{ap, ◌∙◌, ◌++◌}
use Rattle.std.specs.Int.{to_le_bytes, w16}
use Rattle.btr_send.proofs.Encoding.{attribute_behind, ok_as}
use Rattle.btr_send.proofs.buffer.Buffer.add_attribute.Goals as goal

pub returns : goal.returns
returns c =
    let self = c.args.self.now in
    let before = to_le_bytes w16 c.args.kind in
    ok_as c.add-3.result _ _ _ c.add-3.ensures
    (ap (λ x. x ++ c.args.part.now) (c.in_ok-add-2.ensures
    ∙ (ap (λ x. x ++ c.to_le_bytes-2.result) (c.in_ok-add.ensures ∙ ap (λ y. self ++ y) c.to_le_bytes.ensures)
    ∙ ap (λ y. self ++ before ++ y) c.to_le_bytes-2.ensures))
    ∙ attribute_behind self c.args.kind c.args.part.now)
