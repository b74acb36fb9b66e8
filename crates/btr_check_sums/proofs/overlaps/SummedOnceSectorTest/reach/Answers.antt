use Rattle.std.proofs.Common.{◌≡◌, ℕ, ◌+◌, ◌-◌, leb, arith}
use Rattle.std.proofs.lemmas.Bool.Decides.{nat_tests}
use Rattle.btr_check_sums.specs.Ranks.{rank}
use Rattle.btr_check_sums.proofs.overlaps.SummedOnceSectorTest.reach.Goals as goal

once_by : (started ended left : ℕ) → left ≡ started - ended → leb started (ended + 1) ≡ leb left 1
once_by started ended left is = grind (arith, nat_tests)

pub returns : goal.returns
returns c =
    let started = c.rank_reach-started in
    let ended = c.rank_reach-ended in
    record {
      some = omega (arith, c.min.ensures, started.ensures.some, ended.ensures.some);
      same = λ at from before.
          let first : rank c.args.self.now.starts.now at ≡ started.result.rank = started.ensures.same at from (omega (arith, before, c.min.ensures)) in
          let second : rank c.args.self.now.ends.now at ≡ ended.result.rank = ended.ensures.same at from (omega (arith, before, c.min.ensures)) in
          once_by (rank c.args.self.now.starts.now at) (rank c.args.self.now.ends.now at) c.saturating_sub.result
          (omega (arith, first, second, c.saturating_sub.ensures));
    }
