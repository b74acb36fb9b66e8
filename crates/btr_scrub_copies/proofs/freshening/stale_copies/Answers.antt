use Rattle.std.proofs.Common.{◌≡◌, ap, ◌∙◌, arith, length-set}
use Rattle.btr_scrub_copies.proofs.Common.{flagged, is_stale, none_more, reads_more, same_held, sought, stays_same}
use Rattle.btr_scrub_copies.proofs.Copied.{same_loans_then}
use Rattle.btr_scrub_copies.proofs.Flags.{cond_few, one_flag_more}
use Rattle.btr_scrub_copies.proofs.Outcomes.{same_block}
use Rattle.btr_scrub_copies.proofs.freshening.stale_copies.Goals as goal

pub is_stale-requires-clause-live : goal.is_stale-requires-clause-live
is_stale-requires-clause-live g c = stays_same _ _ _ c.loop-mirror.invariant.same c.requires.live

pub loop-mirror-preserved : goal.loop-mirror-preserved
loop-mirror-preserved g c =
    let inv = c.loop-mirror.invariant in
    let stale = c.in_ok-stale.stale in
    let sought_as = ap (λ l. sought l c.args.block.now.want.now) inv.same.layout in
    record {
      serves = c.is_stale.ensures.serves;
      reads = reads_more inv.reads c.is_stale.ensures.reads;
      same = same_loans_then _ _ _ inv.same c.is_stale.ensures.same;
      long = length-set c.loop-mirror.flags c.loop-mirror.mirror stale ∙ inv.long;
      few = omega (arith, c.counted-count.ensures, cond_few stale, inv.few);
      stale = λ t images e told bytes block. one_flag_more (is_stale images (flagged c.args.failing.now) t bytes) _ _ _ _ stale
          (inv.stale t images e told bytes block)
          (c.in_ok-stale.ensures.stale t images (sought_as ∙ e) (same_held inv.reads ∙ told) bytes (same_block c.args.loan.now inv.same ∙ block))
          (omega (arith, inv.long, c.loop-mirror-test.true, c.requires.few)) c.counted-count.ensures;
      account = none_more _ _ _ inv.account (c.in_ok-stale.ensures.account c.requires.copied.target (sought_as ∙ c.requires.copied.is_sought));
    }

pub returns-clause-stale : goal.returns-clause-stale
returns-clause-stale g c t images e told bytes block =
    let whole : c.loop-mirror.mirror ≡ c.args.block.now.copies = omega arith in
    rw whole at (c.loop-mirror.invariant.stale t images e told bytes block)
