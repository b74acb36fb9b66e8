use Rattle.std.proofs.Common.{◌≡◌, true, false, sym, ◌∙◌, subst, arith, rules, inl, inr}
use Rattle.btr_scrub_copies.proofs.Common.{Mirror, cases_lt, flagged, is_on_doubtful}
use Rattle.btr_scrub_copies.proofs.Copied.{copies_stand}
use Rattle.btr_scrub_copies.proofs.Freshness.{trusted_at, trusted_none}
use Rattle.btr_scrub_copies.proofs.fresh.first_trusted.Goals as goal

pub returns-then-not-is_on_doubtful-clause-first : goal.returns-then-not-is_on_doubtful-clause-first
returns-then-not-is_on_doubtful-clause-first c t e =
    let n = c.args.block.now.copies in
    let has = c.requires.copies t e in
    let trusts : c.is_on_doubtful.result ≡ false = search rules in
    trusted_at (flagged c.args.failing.now) t n has (copies_stand c.args.store.now.layout c.args.block.now.want.now t n c.requires.copied e has)
    c.loop-mirror.mirror c.loop-mirror-test.true (λ k lt. c.loop-mirror.invariant t k e lt) (sym (c.is_on_doubtful.ensures t e) ∙ trusts)

pub loop-mirror-preserved : goal.loop-mirror-preserved
loop-mirror-preserved c t k e lt = elim (cases_lt k c.loop-mirror.mirror) [
  | inl before ↦ c.loop-mirror.invariant t k e before
  | inr now ↦
      let doubts : c.is_on_doubtful.result ≡ true = search rules in
      subst (λ k. is_on_doubtful (flagged c.args.failing.now) t (Mirror k) ≡ true) (omega (arith, lt, now)) (sym (c.is_on_doubtful.ensures t e) ∙ doubts)
]

pub returns-clause-first : goal.returns-clause-first
returns-clause-first c t e =
    let n = c.args.block.now.copies in
    let has = c.requires.copies t e in
    trusted_none (flagged c.args.failing.now) t n has (copies_stand c.args.store.now.layout c.args.block.now.want.now t n c.requires.copied e has)
    (λ k lt. c.loop-mirror.invariant t k e (omega (arith, lt, c.loop-mirror-test.false)))
