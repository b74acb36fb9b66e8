use Rattle.std.proofs.Common.{◌≡◌, ◌+◌, ◌-◌, ◌<◌, length, slice_get, Some, subst, sym, ap, ◌∙◌, arith}
use Rattle.btr_chunk.specs.declared.profile.Profile.TheVariants.{Raid5, Raid6}
use Rattle.btr_read.specs.Candidates.{Target, rebuilt}
use Rattle.btr_read.specs.Sought.{IsTarget}
use Rattle.btr_read.proofs.InOrder.{with_p, with_p_and_q, length-with_p_and_q, is_slice, can_try_one, can_try_two}
use Rattle.btr_read.proofs.search.Search.way.Goals as goal

pub returns-in-Raid5 : goal.returns-in-Raid5
returns-in-Raid5 c =
    let t : Target = c.args.self.now in
    let is : IsTarget t.setting t.chunk t.at = subst (λ t. IsTarget t.setting t.chunk t.at) c.self.view_is c.self.invariant in
    let profile : t.chunk.profile ≡ Raid5 = ap (λ t. t.chunk.profile) (sym c.self.view_is) ∙ c.in-Raid5.is in
    let index : c.self.inside.at.index ≡ t.at.index = ap (λ t. t.at.index) c.self.view_is in
    record {
      value = subst (λ xs. slice_get xs c.args.k ≡ Some c.by_one_parity.result) (sym (with_p t profile))
          (subst (λ i. slice_get (rebuilt Raid5 (length t.chunk.stripes - 1) i) c.args.k ≡ Some c.by_one_parity.result) index
          (c.by_one_parity.ensures.value (length t.chunk.stripes - 1)));
      parts = can_try_one t c.by_one_parity.result is profile (rw (sym index) c.by_one_parity.ensures.parts);
    }

pub by_one_parity-requires : goal.by_one_parity-requires
by_one_parity-requires c =
    let t : Target = c.args.self.now in
    let profile : t.chunk.profile ≡ Raid5 = ap (λ t. t.chunk.profile) (sym c.self.view_is) ∙ c.in-Raid5.is in
    let same = ap length (with_p t profile) in
    omega (arith, c.requires, same)

pub returns-in-Raid6 : goal.returns-in-Raid6
returns-in-Raid6 c =
    let t : Target = c.args.self.now in
    let n = length t.chunk.stripes - 2 in
    let is : IsTarget t.setting t.chunk t.at = subst (λ t. IsTarget t.setting t.chunk t.at) c.self.view_is c.self.invariant in
    let profile : t.chunk.profile ≡ Raid6 = ap (λ t. t.chunk.profile) (sym c.self.view_is) ∙ c.in-Raid6.is in
    let index : c.self.inside.at.index ≡ t.at.index = ap (λ t. t.at.index) c.self.view_is in
    let slice = is_slice t Raid6 is profile in
    let lt : c.args.k < n + 2 = omega (arith, c.requires, ap length (with_p_and_q t profile), length-with_p_and_q n t.at.index slice) in
    record {
      value = subst (λ xs. slice_get xs c.args.k ≡ Some c.by_two_parities.result) (sym (with_p_and_q t profile))
          (subst (λ i. slice_get (rebuilt Raid6 n i) c.args.k ≡ Some c.by_two_parities.result) index
          (c.by_two_parities.ensures.value n (rw index slice) lt));
      parts = can_try_two t c.by_two_parities.result is profile (rw (sym index) (c.by_two_parities.ensures.parts n (rw index slice) lt));
    }
