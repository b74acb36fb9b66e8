use Rattle.std.proofs.Common.{ℕ, List, length, ap, arith, length-drop}
use Rattle.btr_send.proofs.Encoding.{attribute_more, last_known}
use Rattle.btr_send.proofs.buffer.Buffer.fill_write.Goals as goal

pub finish_by-requires-clause-fits : goal.finish_by-requires-clause-fits
finish_by-requires-clause-fits c =
    let size : List ℕ → ℕ = λ (x : List ℕ). length x in
    omega (
      arith,
      ap size c.in_ok-begin.ensures,
      attribute_more _ _ _ _ c.in_ok-add_attribute.ensures,
      attribute_more _ _ _ _ c.in_ok-add_attribute-2.ensures,
      attribute_more _ _ _ _ c.in_ok-add_attribute-3.ensures,
      ap size c.to_le_bytes.ensures,
      ap size c.below.ensures,
      length-drop 1 c.args.path.now,
      c.requires.short,
      c.requires.few,
    )

pub finish_by-requires-clause-known : goal.finish_by-requires-clause-known
finish_by-requires-clause-known c =
    let size : List ℕ → ℕ = λ (x : List ℕ). length x in
    last_known _ _ c.args.part.now 19 c.of_sector.result
    (omega (arith, ap size c.in_ok-begin.ensures, attribute_more _ _ _ _ c.in_ok-add_attribute.ensures, attribute_more _ _ _ _ c.in_ok-add_attribute-2.ensures))
    c.in_ok-add_attribute-3.ensures c.of_sector.ensures
