use Rattle.std.proofs.Common.{◌≡◌, ℕ, flat_map, subst, arith, rules}
use Rattle.std.proofs.lemmas.Grind.{common_steps}
use Rattle.std.proofs.lemmas.List.Sorted.{IsNonDecreasingBy-from_sort_by_key}
use Rattle.std.specs.List.Sorted.{IsPermutation}
use Rattle.btr_check_space.specs.Bounds.{ends_of}
use Rattle.btr_check_space.proofs.bounds.bounds_of.Goals as goal

pub returns : goal.returns
returns c =
    let all : c.loop-group.bounds.items ≡ flat_map ends_of c.args.groups.now = grind (arith, common_steps) in
    record {
      same = subst (λ xs. IsPermutation xs c.sort_unstable_by_key.new.self.items) all c.sort_unstable_by_key.ensures.permutation;
      ascend = IsNonDecreasingBy-from_sort_by_key (λ (n : ℕ). n) _ c.sort_unstable_by_key.ensures.sorted (λ a r q k. search rules);
    }
