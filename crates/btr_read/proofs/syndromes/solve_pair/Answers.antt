use Rattle.std.proofs.Common.{◌≡◌, ℕ, List, length, take, subst, sym, ap, ◌∙◌}
use Rattle.btr_chunk.specs.declared.place.Part.TheVariants.{Slice}
use Rattle.btr_parity.specs.Slices.{IsSlice, plus}
use Rattle.btr_parity.specs.Solutions.{IsTheOne, WeighsWith}
use Rattle.btr_pool.specs.Slots.{bytes_at}
use Rattle.btr_pool.proofs.Loans.{bytes_at-with_bytes_other}
use Rattle.btr_read.specs.declared.candidate.Candidate.TheVariants.{ByP, ByBoth}
use Rattle.btr_read.specs.declared.parity.Parity.TheVariants as parity
use Rattle.btr_read.specs.Candidates.{Target, size_of, element, value_of}
use Rattle.btr_read.specs.Gathering.{AreSyndromes, IsGathered, weighed}
use Rattle.btr_parity.proofs.Lost.{plus_twice}
use Rattle.btr_read.proofs.Pieces.{length-weighed}
use Rattle.btr_read.proofs.Rebuilt.{by_both, without_other, gathered_long}
use Rattle.btr_read.proofs.Trials.{told, telling}
use Rattle.btr_read.proofs.syndromes.solve_pair.Goals as goal

-- what P and Q leave of both slices, and the solution
pub returns-clause-value : goal.returns-clause-value
returns-clause-value g c =
    let t : Target = c.args.search.now in
    let n : ℕ = size_of t in
    let i : ℕ = t.at.index in
    let j : ℕ = c.args.other in
    let old = c.args.pool.now in
    let mid = c.read_part.new.pool in
    let end = c.solve_with.new.pool in
    let held = (g.R.Rack.seen c.args.rack.now).held in
    let e = c.in_ok-read_part.ensures in
    let same_p : bytes_at mid c.args.slots.now.p.now ≡ bytes_at old c.args.slots.now.p.now =
    ap (λ pool. bytes_at pool c.args.slots.now.p.now) e.kept.1 ∙ bytes_at-with_bytes_other old c.args.slots.now.p.now c.args.slots.now.spare.now
    e.kept.0 c.requires.loans.bd in
    let same_q : bytes_at mid c.args.slots.now.q.now ≡ bytes_at old c.args.slots.now.q.now =
    ap (λ pool. bytes_at pool c.args.slots.now.q.now) e.kept.1 ∙ bytes_at-with_bytes_other old c.args.slots.now.q.now c.args.slots.now.spare.now
    e.kept.0 c.requires.loans.cd in
    let D : List ℕ = take n (bytes_at mid c.args.slots.now.spare.now) in
    let left_p : List ℕ → List ℕ = λ d. plus (take n (bytes_at mid c.args.slots.now.p.now)) (weighed parity.P j d) in
    let left_q : List ℕ → List ℕ = λ d. plus (take n (bytes_at mid c.args.slots.now.q.now)) (weighed parity.Q j d) in
    let X : List ℕ = take n (bytes_at end c.args.slots.now.sought.now) in
    let sized : IsTheOne n (WeighsWith (left_p D) (left_q D) c.index-index.result j) X =
    subst (λ m. IsTheOne m (WeighsWith (plus (take m (bytes_at mid c.args.slots.now.p.now)) (take m (bytes_at mid c.args.slots.now.spare.now)))
    (plus (take m (bytes_at mid c.args.slots.now.q.now)) (weighed parity.Q j (take m (bytes_at mid c.args.slots.now.spare.now))))
    c.index-index.result j) (take m (bytes_at end c.args.slots.now.sought.now))) c.size-len.ensures.value c.solve_with.ensures.one in
    let solves : IsTheOne n (WeighsWith (left_p D) (left_q D) i j) X =
    subst (λ i. IsTheOne n (WeighsWith (left_p D) (left_q D) i j) X) c.index-index.ensures sized in
    let lt_j = c.requires.rebuilt.1 in
    let ne = c.requires.rebuilt.2 in
    told held (λ images. value_of images t (ByBoth j) ≡ X) (λ images is.
    let syn = telling held (λ images. AreSyndromes images t (take n (bytes_at old c.args.slots.now.p.now)) (take n (bytes_at old c.args.slots.now.q.now)))
    c.requires.syndromes images is in
    let read : D ≡ element images t (Slice j) = telling held (λ images. D ≡ element images t (Slice j)) e.bytes images is in
    let slice : IsSlice n (element images t (Slice j)) = subst (IsSlice n) read e.slice in
    let of_p = without_other images t j lt_j ne parity.P (take n (bytes_at mid c.args.slots.now.p.now))
    (subst (λ x. IsGathered images t ByP parity.P (take n x)) (sym same_p) syn.of_p) slice in
    let of_q = without_other images t j lt_j ne parity.Q (take n (bytes_at mid c.args.slots.now.q.now))
    (subst (λ x. IsGathered images t ByP parity.Q (take n x)) (sym same_q) syn.of_q) slice in
    by_both images t j (left_p D) (left_q D) X c.requires.sought lt_j (λ e. ne (sym e))
    (subst (λ d. IsGathered images t (ByBoth j) parity.P (left_p d)) (sym read) of_p)
    (subst (λ d. IsGathered images t (ByBoth j) parity.Q (left_q d)) (sym read) of_q) solves)

-- what was added to what Q leaves is taken away by adding it again
pub returns-clause-syndromes : goal.returns-clause-syndromes
returns-clause-syndromes g c =
    let t : Target = c.args.search.now in
    let n : ℕ = size_of t in
    let j : ℕ = c.args.other in
    let old = c.args.pool.now in
    let mid = c.read_part.new.pool in
    let end = c.solve_with.new.pool in
    let held = (g.R.Rack.seen c.args.rack.now).held in
    let e = c.in_ok-read_part.ensures in
    let p = c.args.slots.now.p.now in
    let q = c.args.slots.now.q.now in
    let same_p : bytes_at end p ≡ bytes_at old p =
    c.solve_with.ensures.writes.others p (c.requires.loans.first.bc, ((λ e. c.requires.loans.first.ab (sym e)), tt))
    ∙ ap (λ pool. bytes_at pool p) e.kept.1 ∙ bytes_at-with_bytes_other old p c.args.slots.now.spare.now e.kept.0 c.requires.loans.bd in
    let same_q : bytes_at mid q ≡ bytes_at old q =
    ap (λ pool. bytes_at pool q) e.kept.1 ∙ bytes_at-with_bytes_other old q c.args.slots.now.spare.now e.kept.0 c.requires.loans.cd in
    let D : List ℕ = take n (bytes_at mid c.args.slots.now.spare.now) in
    let W : List ℕ = weighed parity.Q j D in
    let twice : take n (bytes_at end q) ≡ plus (plus (take n (bytes_at mid q)) W) W =
    subst (λ m. take m (bytes_at end q) ≡ plus (plus (take m (bytes_at mid q)) (weighed parity.Q j (take m (bytes_at mid c.args.slots.now.spare.now))))
    (weighed parity.Q j (take m (bytes_at mid c.args.slots.now.spare.now)))) c.size-len.ensures.value c.solve_with.ensures.twice in
    let slice : IsSlice n D = e.slice in
    let W_long : length W ≡ n = length-weighed parity.Q j D ∙ slice.long in
    told held (λ images. AreSyndromes images t (take n (bytes_at end p)) (take n (bytes_at end q))) (λ images is.
    let syn = telling held (λ images. AreSyndromes images t (take n (bytes_at old p)) (take n (bytes_at old q))) c.requires.syndromes images is in
    let long : length (take n (bytes_at old q)) ≡ n = gathered_long images t ByP parity.Q (take n (bytes_at old q)) syn.of_q in
    let back : take n (bytes_at end q) ≡ take n (bytes_at old q) =
    twice ∙ ap (λ x. plus (plus (take n x) W) W) same_q ∙ plus_twice (take n (bytes_at old q)) W (long ∙ sym W_long) in
    record {
      of_p = subst (λ x. IsGathered images t ByP parity.P (take n x)) (sym same_p) syn.of_p;
      of_q = subst (IsGathered images t ByP parity.Q) (sym back) syn.of_q;
    })
