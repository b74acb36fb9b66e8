-- Loans of a store, from call to call.
use Rattle.std.proofs.Common.{◌≡◌, ℕ, ◌+◌, ◌<◌, cond, List, length, get_or, set, count_by, Option, Some, None, IsSome, refl, sym, ap, ◌∙◌, subst}
use Rattle.std.proofs.Common.{arith, inl, inr}
use Rattle.std.proofs.lemmas.Bool.{cases_lt, false≢true}
use Rattle.std.proofs.lemmas.List.Sums.{sum_by-set}
use Rattle.std.proofs.lemmas.List.{get_or_past, set-set, set-get_or}
use Rattle.std.specs.Option.{is_none}
use Rattle.btr_read.specs.Layout.{Layout}
use Rattle.btr_read.specs.Store.{Blocks, Lent, free_count, with_loan, IsLiveIn, IsLentBy, SameLoans}
use Rattle.btr_read.specs.declared.want.Want.{Want}

-- the same where nothing was lent
pub stays_same : (old new : Blocks) (other : Lent) → SameLoans old new → IsLiveIn old other → IsLiveIn new other
stays_same old new other same live = record {
  live = subst (λ loans. IsSome (get_or loans other.slot None)) (sym same.loans) live.live;
  fits = omega (arith, live.fits, ap (λ (l : Layout). l.setting.nodesize) same.layout);
}

-- a loan that was given back leaves the store's loans as they were
pub given_back : (old new : Blocks) (want : Want) (loan : Lent) → IsLentBy old new want loan → SameLoans old (with_loan new loan.slot None)
given_back old new want loan t = record {
  layout = t.layout;
  loans = ap (λ loans. set loans loan.slot None) t.after.1
      ∙ set-set old.loans loan.slot (Some t.after.0) None
      ∙ ap (set old.loans loan.slot) (sym t.free)
      ∙ set-get_or old.loans loan.slot None;
}

-- how much a slot counts among the free ones: one without a loan, nothing with one
abbrev counts : Option (List ℕ) → ℕ
counts o = cond (is_none o) 1 0

-- a slot with a loan doesn't count as free
counts_some : (o : Option (List ℕ)) → IsSome o → counts o ≡ 0
counts_some None h = absurd (false≢true h)
counts_some (Some x) h = refl

-- a slot with a loan is one of the store's
below : (loans : List (Option (List ℕ))) (k : ℕ) → IsSome (get_or loans k None) → k < length loans
below loans k h = elim (cases_lt k (length loans)) [
  | inl lt ↦ lt
  | inr past ↦ absurd (false≢true (subst IsSome (get_or_past loans k None past) h))
]

-- where a loan goes, one more slot is without
count_given : (loans : List (Option (List ℕ))) (k : ℕ) → IsSome (get_or loans k None) → count_by is_none (set loans k None) ≡ count_by is_none loans + 1
count_given loans k h =
    omega (arith, counts_some (get_or loans k None) h, sum_by-set counts loans k None None (below loans k h))

-- and there is one more free slot
pub one_more_free : (store : Blocks) (loan : Lent) → IsLiveIn store loan → free_count (with_loan store loan.slot None) ≡ free_count store + 1
one_more_free store loan live = count_given store.loans loan.slot live.live
