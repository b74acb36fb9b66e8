use Rattle.std.proofs.Common.{◌≡◌, map, subst, arith}
use Rattle.std.proofs.lemmas.Grind.{common_steps}
use Rattle.std.proofs.lemmas.List.Sorted.{IsNonDecreasingBy-from_sort}
use Rattle.std.specs.List.Sorted.{IsPermutation}
use Rattle.btr_check_sums.specs.Ranks.{run_end}
use Rattle.btr_check_sums.proofs.overlaps.ends_of.Goals as goal

pub returns : goal.returns
returns c =
    let all : c.loop-run.ends.items ≡ map run_end c.args.runs.now = grind (arith, common_steps) in
    record {
      same = subst (λ xs. IsPermutation xs c.sort_unstable.new.self.items) all c.sort_unstable.ensures.permutation;
      ascend = IsNonDecreasingBy-from_sort (λ n. n) c.sort_unstable.new.self.items c.sort_unstable.ensures.sorted;
    }
