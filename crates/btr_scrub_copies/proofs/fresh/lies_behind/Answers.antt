use Rattle.std.proofs.Common.{◌≡◌, true, false, sym, ◌∙◌, subst, arith, rules, inl, inr}
use Rattle.btr_scrub_copies.proofs.Common.{Mirror, cases_lt, flagged, is_on_behind}
use Rattle.btr_scrub_copies.proofs.Freshness.{behind_at, behind_none}
use Rattle.btr_scrub_copies.proofs.fresh.lies_behind.Goals as goal

pub returns-then-is_on_behind : goal.returns-then-is_on_behind
returns-then-is_on_behind c t e =
    let lies : c.is_on_behind.result ≡ true = search rules in
    sym (behind_at (flagged c.args.failing.now) t c.args.block.now.copies (c.requires.copies t e) c.loop-mirror.mirror
    c.loop-mirror-test.true (sym (c.is_on_behind.ensures t e) ∙ lies))

pub loop-mirror-preserved : goal.loop-mirror-preserved
loop-mirror-preserved c t k e lt = elim (cases_lt k c.loop-mirror.mirror) [
  | inl before ↦ c.loop-mirror.invariant t k e before
  | inr now ↦
      let not_there : c.is_on_behind.result ≡ false = search rules in
      subst (λ k. is_on_behind (flagged c.args.failing.now) t (Mirror k) ≡ false) (omega (arith, lt, now)) (sym (c.is_on_behind.ensures t e) ∙ not_there)
]

pub returns : goal.returns
returns c t e =
    sym (behind_none (flagged c.args.failing.now) t c.args.block.now.copies (c.requires.copies t e)
    (λ k lt. c.loop-mirror.invariant t k e (omega (arith, lt, c.loop-mirror-test.false))))
