use Rattle.std.proofs.Common.{◌≡◌, ◌-◌, length, subst, sym, ap, ◌∙◌, arith}
use Rattle.btr_chunk.specs.declared.profile.Profile.TheVariants.{Raid6}
use Rattle.btr_read.specs.Candidates.{Target}
use Rattle.btr_read.specs.Sought.{IsTarget}
use Rattle.btr_read.proofs.InOrder.{with_p_and_q, length-with_p_and_q, is_slice}
use Rattle.btr_read.proofs.search.Search.way_count.Goals as goal

pub returns-in-Raid6 : goal.returns-in-Raid6
returns-in-Raid6 c =
    let t : Target = c.args.self.now in
    let is : IsTarget t.setting t.chunk t.at = subst (λ t. IsTarget t.setting t.chunk t.at) c.self.view_is c.self.invariant in
    let profile : t.chunk.profile ≡ Raid6 = ap (λ t. t.chunk.profile) (sym c.self.view_is) ∙ c.in-Raid6.is in
    let stripes : c.self.inside.chunk.now.stripes ≡ t.chunk.stripes = ap (λ t. t.chunk.stripes) c.self.view_is in
    let slice = is_slice t Raid6 is profile in
    let same = ap length (with_p_and_q t profile) in
    let count = length-with_p_and_q (length t.chunk.stripes - 2) t.at.index slice in
    let len = ap length stripes in
    omega (arith, c.len.ensures, len, same, count, slice)
