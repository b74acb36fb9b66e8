use Rattle.std.proofs.Common.{◌≡◌, ◌≢◌, ℕ, List, Option, take, IfSome, subst, sym, ap, ◌∙◌}
use Rattle.btr_parity.specs.Solutions.{IsTheOne, Weighs}
use Rattle.btr_pool.specs.Slots.{Slots, bytes_at, with_bytes}
use Rattle.btr_pool.proofs.Loans.{bytes_at-with_bytes_other}
use Rattle.btr_read.specs.declared.candidate.Candidate.TheVariants.{ByP, ByQ}
use Rattle.btr_read.specs.declared.parity.Parity.TheVariants as parity
use Rattle.btr_read.specs.Candidates.{Target, size_of, value_of}
use Rattle.btr_read.specs.Gathering.{AreSyndromes, HaveSyndromes, IsGathered}
use Rattle.btr_read.proofs.Rebuilt.{by_p, by_q}
use Rattle.btr_read.proofs.Trials.{told, telling}
use Rattle.btr_read.proofs.syndromes.rebuild_by_syndromes.Goals as goal

-- what P and Q leave still stands where another slot was written
still : (held : Option (List (List ℕ))) (t : Target) (a b : Slots) (p q k : ℕ) → k ≢ p → k ≢ q → (w : List ℕ) × (b ≡ with_bytes a k w)
    → HaveSyndromes held t a p q → HaveSyndromes held t b p q
still held t a b p q k kp kq h syndromes =
    let n : ℕ = size_of t in
    let same : (j : ℕ) → k ≢ j → bytes_at b j ≡ bytes_at a j =
    λ j ne. ap (λ pool. bytes_at pool j) h.1 ∙ bytes_at-with_bytes_other a j k h.0 (λ e. ne (sym e)) in
    subst (λ x. IfSome held (λ images. AreSyndromes images t (take n x) (take n (bytes_at b q)))) (sym (same p kp))
    (subst (λ x. IfSome held (λ images. AreSyndromes images t (take n (bytes_at a p)) (take n x))) (sym (same q kq)) syndromes)

pub returns-in-ByP-clause-value : goal.returns-in-ByP-clause-value
returns-in-ByP-clause-value g c =
    let t : Target = c.args.search.now in
    let n : ℕ = size_of t in
    let held = (g.R.Rack.seen c.args.rack.now).held in
    let old = c.args.pool.now in
    let P : List ℕ = take n (bytes_at old c.args.slots.now.p.now) in
    let X : List ℕ = take n (bytes_at c.copy_slot.new.pool c.args.slots.now.sought.now) in
    let copied : X ≡ P = subst (λ m. take m (bytes_at c.copy_slot.new.pool c.args.slots.now.sought.now) ≡ take m (bytes_at old c.args.slots.now.p.now))
    c.size-len.ensures.value c.copy_slot.ensures.copy in
    subst (λ d. IfSome held (λ images. value_of images t d ≡ X)) (sym c.in-ByP.is) (told held (λ images. value_of images t ByP ≡ X) (λ images is.
    let syn = telling held (λ images. AreSyndromes images t P (take n (bytes_at old c.args.slots.now.q.now))) c.requires.syndromes images is in
    by_p images t P c.requires.sought syn.of_p ∙ sym copied))

pub returns-in-ByP-clause-syndromes : goal.returns-in-ByP-clause-syndromes
returns-in-ByP-clause-syndromes g c =
    let s = c.args.slots.now in
    let loans = c.requires.loans.first in
    still (g.R.Rack.seen c.args.rack.now).held c.args.search.now c.args.pool.now c.copy_slot.new.pool s.p.now s.q.now s.sought.now loans.ab loans.ac
    c.copy_slot.ensures.kept c.requires.syndromes

pub returns-in-ByQ-clause-value : goal.returns-in-ByQ-clause-value
returns-in-ByQ-clause-value g c =
    let t : Target = c.args.search.now in
    let n : ℕ = size_of t in
    let held = (g.R.Rack.seen c.args.rack.now).held in
    let old = c.args.pool.now in
    let mid = c.copy_slot-in-ByQ.new.pool in
    let loan = c.args.slots.now.sought.now in
    let Q : List ℕ = take n (bytes_at old c.args.slots.now.q.now) in
    let S : List ℕ = take n (bytes_at mid loan) in
    let X : List ℕ = take n (bytes_at c.divide.new.pool loan) in
    let copied : S ≡ Q = subst (λ m. take m (bytes_at mid loan) ≡ take m (bytes_at old c.args.slots.now.q.now)) c.size-len.ensures.value
    c.copy_slot-in-ByQ.ensures.copy in
    let sized : IsTheOne n (Weighs c.index-index.result S) X =
    subst (λ m. IsTheOne m (Weighs c.index-index.result (take m (bytes_at mid loan))) (take m (bytes_at c.divide.new.pool loan)))
    c.size-len.ensures.value c.divide.ensures.one in
    let weighs : IsTheOne n (Weighs t.at.index S) X = subst (λ i. IsTheOne n (Weighs i S) X) c.index-index.ensures sized in
    subst (λ d. IfSome held (λ images. value_of images t d ≡ X)) (sym c.in-ByQ.is) (told held (λ images. value_of images t ByQ ≡ X) (λ images is.
    let syn = telling held (λ images. AreSyndromes images t (take n (bytes_at old c.args.slots.now.p.now)) Q) c.requires.syndromes images is in
    let of_q : IsGathered images t ByQ parity.Q Q = record { slices = syn.of_q.slices; whole = syn.of_q.whole; sum = syn.of_q.sum } in
    by_q images t S X c.requires.sought (subst (IsGathered images t ByQ parity.Q) (sym copied) of_q) weighs))

pub returns-in-ByQ-clause-syndromes : goal.returns-in-ByQ-clause-syndromes
returns-in-ByQ-clause-syndromes g c =
    let t : Target = c.args.search.now in
    let held = (g.R.Rack.seen c.args.rack.now).held in
    let s = c.args.slots.now in
    let loans = c.requires.loans.first in
    let mid = c.copy_slot-in-ByQ.new.pool in
    still held t mid c.divide.new.pool s.p.now s.q.now s.sought.now loans.ab loans.ac c.divide.ensures.kept
    (still held t c.args.pool.now mid s.p.now s.q.now s.sought.now loans.ab loans.ac c.copy_slot-in-ByQ.ensures.kept c.requires.syndromes)
