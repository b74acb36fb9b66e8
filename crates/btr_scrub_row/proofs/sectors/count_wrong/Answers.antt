use Rattle.std.proofs.Common.{ℕ, ◌+◌, ◌&&◌, cond, [], ◌∷◌, ◌++◌, take, count_by, refl, sym, ap, ◌∙◌, arith}
use Rattle.btr_scrub_row.proofs.Common.{differs, is_decided, length-range_with_len, part_of, range_with_len, take_all, take_more}
use Rattle.std.proofs.lemmas.List.Sums.{sum_by_push}
use Rattle.btr_scrub_copies.proofs.Flags.{cond_few}
use Rattle.btr_scrub_row.proofs.Columns.{column_at, counted_all}
use Rattle.btr_scrub_row.proofs.Parts.{parity_there}
use Rattle.btr_scrub_row.proofs.sectors.count_wrong.Goals as goal

pub loop-column-init : goal.loop-column-init
loop-column-init c = record { few = omega arith; count = λ layout images row of k. refl }

pub loop-column-preserved : goal.loop-column-preserved
loop-column-preserved c =
    let i = c.loop-column.column in
    record {
      few = omega (arith, c.loop-column.invariant.few, c.counted-count.ensures, cond_few c.is_wrong-wrong.result);
      count = λ layout images row of k.
          let p = λ (column : ℕ). is_decided images layout row column && differs images layout row (part_of c.args.parity) column in
          c.counted-count.ensures ∙ ap (λ n. n + cond c.is_wrong-wrong.result 1 0) (c.loop-column.invariant.count layout images row of k)
          ∙ ap (λ b. count_by p (take i (range_with_len 0 16)) + cond b 1 0) (c.is_wrong-wrong.ensures layout images row of k)
          ∙ sym (sum_by_push (λ x. cond (p x) 1 0) (take i (range_with_len 0 16)) i)
          ∙ sym (ap (count_by p) (take_more (range_with_len 0 16) i i (omega (arith, c.loop-column-test.true, length-range_with_len 0 16))
          ∙ ap (λ x. take i (range_with_len 0 16) ++ x ∷ []) (column_at i i c.loop-column-test.true)));
    }

pub returns-clause-few : goal.returns-clause-few
returns-clause-few c = omega (arith, c.loop-column.invariant.few)

pub returns-clause-count : goal.returns-clause-count
returns-clause-count c = λ layout images row of k.
    let part = part_of c.args.parity in
    let stripe = c.args.prepared.now.stripe in
    let p = λ (column : ℕ). is_decided images layout row column && differs images layout row part column in
    c.loop-column.invariant.count layout images row of k
    ∙ ap (count_by p) (take_all c.loop-column.column (range_with_len 0 16) (omega (arith, c.loop-column-test.false, length-range_with_len 0 16)))
    ∙ counted_all layout stripe row of part (parity_there layout stripe row of c.args.parity c.requires.has) images
