use Rattle.std.proofs.Common.{ℕ, List, length, ap, arith, length-drop}
use Rattle.btr_send.proofs.Encoding.{attribute_more}
use Rattle.btr_send.proofs.buffer.Buffer.fill_truncate.Goals as goal

pub finish-requires-clause-fits : goal.finish-requires-clause-fits
finish-requires-clause-fits c =
    let size : List ℕ → ℕ = λ (x : List ℕ). length x in
    omega (
      arith,
      ap size c.in_ok-begin.ensures,
      attribute_more _ _ _ _ c.in_ok-add_attribute.ensures,
      attribute_more _ _ _ _ c.in_ok-add_attribute-2.ensures,
      ap size c.to_le_bytes.ensures,
      ap size c.below.ensures,
      length-drop 1 c.args.path.now,
      c.requires,
    )
