use Rattle.std.proofs.Common.{ℕ, ◌<◌, Bool, length, sym, ap, ◌∙◌, arith}
use Rattle.btr_scrub_row.proofs.Common.{devid_at, flagged, is_behind, is_doubtful, parities, part_at, slice_count}
use Rattle.std.proofs.lemmas.List.{length-set}
use Rattle.btr_scrub_row.proofs.Shapes.{row_counted}
use Rattle.btr_scrub_copies.proofs.Lists.{flag_more}
use Rattle.btr_scrub_row.proofs.doubts.doubts_of.Goals as goal

pub loop-number-preserved : goal.loop-number-preserved
loop-number-preserved c =
    let n = c.loop-number.number in
    let devices = c.args.store.now.layout.devices in
    let failing = flagged c.args.failing.now in
    let of0 = c.requires.of in
    let row0 = c.requires.row in
    let count = row_counted row0 of0.is.parity of0.keeps_rule in
    let few : n < 64 = omega (
      arith,
      c.loop-number-test.true,
      c.elements-number-end.ensures,
      of0.shape.slices,
      ap
          (λ p. length (parities p)) of0.shape.profile,
      count.whole,
      of0.keeps_rule.few,
    ) in
    record {
      doubtful_long = length-set c.loop-number.doubtful n c.is_doubtful.result ∙ c.loop-number.invariant.doubtful_long;
      behind_long = length-set c.loop-number.behind n c.is_behind.result ∙ c.loop-number.invariant.behind_long;
      doubtful = λ row e of lt.
          let D : ℕ → Bool = is_doubtful devices failing in
          flag_more c.loop-number.doubtful n e c.is_doubtful.result (λ e. D (devid_at row (part_at (slice_count row) e)))
          (omega (arith, few, c.loop-number.invariant.doubtful_long)) (λ k l. c.loop-number.invariant.doubtful row k of l)
          (c.is_doubtful.ensures ∙ ap D (sym (c.devid_of_part-devid.ensures row of))
          ∙ ap (λ p. D (devid_at row p)) (c.part.ensures ∙ ap (λ k. part_at k n) of.shape.slices)) lt;
      behind = λ row e of lt.
          let D : ℕ → Bool = is_behind devices failing in
          flag_more c.loop-number.behind n e c.is_behind.result (λ e. D (devid_at row (part_at (slice_count row) e)))
          (omega (arith, few, c.loop-number.invariant.behind_long)) (λ k l. c.loop-number.invariant.behind row k of l)
          (c.is_behind.ensures ∙ ap D (sym (c.devid_of_part-devid.ensures row of))
          ∙ ap (λ p. D (devid_at row p)) (c.part.ensures ∙ ap (λ k. part_at k n) of.shape.slices)) lt;
    }
