use Rattle.std.proofs.Common.{◌≡◌, ◌&&◌, ℕ, ◌<◌, Bool, true, sym, ap, ◌∙◌, arith}
use Rattle.btr_scrub_row.proofs.Common.{flag_of, length-range_with_len, range_with_len, reads_slice}
use Rattle.std.proofs.lemmas.List.Folds.{list_any_at, list_any_none}
use Rattle.std.proofs.lemmas.List.FromFn.{get_or-range_with_len}
use Rattle.btr_scrub_row.proofs.freshening.reads_flagged_slice.Goals as goal

pub returns-then-flag_of : goal.returns-then-flag_of
returns-then-flag_of c =
    let n = c.args.piece.now.shape.slices in
    let s = c.loop-slice.slice in
    let f : ℕ → Bool = λ slice. reads_slice c.args.piece.now.index c.args.candidate slice && flag_of c.args.flags.now slice in
    let so : f s ≡ true = ap (λ b. b && flag_of c.args.flags.now s) (sym c.reads.ensures ∙ c.if-reads.true) ∙ sym c.flag_of.ensures ∙ c.if-flag_of.true in
    sym (list_any_at f (range_with_len 0 n) s 0 (omega (arith, c.loop-slice-test.true, length-range_with_len 0 n))
    (ap f (get_or-range_with_len 0 n s 0 c.loop-slice-test.true ∙ omega arith) ∙ so))

pub returns : goal.returns
returns c =
    let n = c.args.piece.now.shape.slices in
    let f : ℕ → Bool = λ slice. reads_slice c.args.piece.now.index c.args.candidate slice && flag_of c.args.flags.now slice in
    sym (list_any_none f (range_with_len 0 n) (λ k d lt.
    let below : k < n = omega (arith, lt, length-range_with_len 0 n) in
    ap f (get_or-range_with_len 0 n k d below ∙ omega arith) ∙ c.loop-slice.invariant k (omega (arith, below, c.loop-slice-test.false))))
