use Rattle.std.proofs.Common.{◌≡◌, not, sym, ap, ◌∙◌, arith, length-set}
use Rattle.btr_scrub_copies.proofs.Common.{none_more, reads_more, same_held, sought, stays_same}
use Rattle.btr_scrub_copies.specs.Blocks.{is_sound}
use Rattle.btr_scrub_copies.proofs.Copied.{same_loans_then}
use Rattle.btr_scrub_copies.proofs.Flags.{cond_few, one_flag_more}
use Rattle.btr_scrub_copies.proofs.Outcomes.{same_block}
use Rattle.btr_scrub_copies.proofs.finding.bad_copies.Goals as goal

pub is_bad-requires-clause-live : goal.is_bad-requires-clause-live
is_bad-requires-clause-live g c = stays_same _ _ _ c.loop-mirror.invariant.same c.requires.live

pub is_bad-requires-clause-first : goal.is_bad-requires-clause-first
is_bad-requires-clause-first g c t images e told =
    let same = c.loop-mirror.invariant.same in
    let first = c.requires.first t images (sym (ap (λ l. sought l c.args.block.now.want.now) same.layout) ∙ e)
    (sym (same_held c.loop-mirror.invariant.reads) ∙ told) in
    (first.0, same_block c.args.first.now.loan same ∙ first.1)

pub loop-mirror-preserved : goal.loop-mirror-preserved
loop-mirror-preserved g c =
    let inv = c.loop-mirror.invariant in
    let bad = c.in_ok-bad.bad in
    let sought_as = ap (λ l. sought l c.args.block.now.want.now) inv.same.layout in
    record {
      serves = c.is_bad.ensures.serves;
      reads = reads_more inv.reads c.is_bad.ensures.reads;
      same = same_loans_then _ _ _ inv.same c.is_bad.ensures.same;
      long = length-set c.loop-mirror.flags c.loop-mirror.mirror bad ∙ inv.long;
      few = omega (arith, c.counted-count.ensures, cond_few bad, inv.few);
      bad = λ t images e told. one_flag_more (λ part. not (is_sound images t part)) _ _ _ _ bad (inv.bad t images e told)
          (c.in_ok-bad.ensures.bad t images (sought_as ∙ e) (same_held inv.reads ∙ told))
          (omega (arith, inv.long, c.loop-mirror-test.true, c.requires.few)) c.counted-count.ensures;
      account = none_more _ _ _ inv.account (c.in_ok-bad.ensures.account c.requires.copied.target (sought_as ∙ c.requires.copied.is_sought));
    }

pub returns-clause-bad : goal.returns-clause-bad
returns-clause-bad g c t images e told =
    let whole : c.loop-mirror.mirror ≡ c.args.block.now.copies = omega arith in
    rw whole at (c.loop-mirror.invariant.bad t images e told)
