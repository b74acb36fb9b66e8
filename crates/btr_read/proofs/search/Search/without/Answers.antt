use Rattle.std.proofs.Common.{◌≡◌, ◌-◌, ◌<◌, length, subst, ap, ◌∙◌, arith}
use Rattle.btr_chunk.specs.Chunk.{data_count}
use Rattle.btr_chunk.specs.declared.profile.Profile.TheVariants.{Raid6}
use Rattle.btr_read.specs.declared.candidate.Candidate.TheVariants.{ByP}
use Rattle.btr_read.specs.Candidates.{Target}
use Rattle.btr_read.specs.Gathering.{IsOfRow}
use Rattle.btr_read.specs.Sought.{IsTarget}
use Rattle.btr_read.proofs.Order.{length-candidates}
use Rattle.btr_read.proofs.InOrder.{with_p_and_q, length-with_p_and_q, is_slice}
use Rattle.btr_read.proofs.search.Search.without.Goals as goal

pub returns-then-slice-self : goal.returns-then-slice-self
returns-then-slice-self c =
    let t : Target = c.args.self.now in
    let is : IsTarget t.setting t.chunk t.at = subst (λ t. IsTarget t.setting t.chunk t.at) c.self.view_is c.self.invariant in
    let index : c.self.inside.at.index ≡ t.at.index = ap (λ t. t.at.index) c.self.view_is in
    let sought = is_slice t Raid6 is c.requires.profile in
    let same = length-candidates t ∙ ap length (with_p_and_q t c.requires.profile) in
    let count = length-with_p_and_q (length t.chunk.stripes - 2) t.at.index sought in
    let of = subst (IsOfRow t ByP) c.in-Slice.is c.requires.part in
    let below : c.in-Slice.slice < length t.chunk.stripes - 2 = subst (λ p. c.in-Slice.slice < data_count p (length t.chunk.stripes)) c.requires.profile of.0 in
    omega (arith, same, count, sought, index, below, c.if-slice-self.true)

pub returns-else-slice-self : goal.returns-else-slice-self
returns-else-slice-self c =
    let t : Target = c.args.self.now in
    let is : IsTarget t.setting t.chunk t.at = subst (λ t. IsTarget t.setting t.chunk t.at) c.self.view_is c.self.invariant in
    let index : c.self.inside.at.index ≡ t.at.index = ap (λ t. t.at.index) c.self.view_is in
    let sought = is_slice t Raid6 is c.requires.profile in
    let same = length-candidates t ∙ ap length (with_p_and_q t c.requires.profile) in
    let count = length-with_p_and_q (length t.chunk.stripes - 2) t.at.index sought in
    let of = subst (IsOfRow t ByP) c.in-Slice.is c.requires.part in
    let below : c.in-Slice.slice < length t.chunk.stripes - 2 = subst (λ p. c.in-Slice.slice < data_count p (length t.chunk.stripes)) c.requires.profile of.0 in
    omega (arith, same, count, below)
