-- Loans that are given back.
use Rattle.std.proofs.Common.{◌≡◌, ℕ, List, set, Option, Some, None, refl, sym, ap, ◌∙◌, subst}
use Rattle.std.proofs.lemmas.List.{set-set, set-get_or}
use Rattle.btr_rack.specs.Rack.{Seen}
use Rattle.btr_read.specs.Serves.{Serves}
use Rattle.btr_read.proofs.Serving.{serves_given}
use Rattle.btr_read.specs.Store.{Blocks, Lent, SameLoans, loan_in, with_loan, IsLentBy}
use Rattle.btr_read.specs.declared.want.Want.{Want}

-- the bytes of each slot's loan, if it is live
abbrev Loans : Type 0
Loans = List (Option (List ℕ))

-- a store has the layout and the loans that it has
pub same_none : (a : Blocks) → SameLoans a a
same_none a = record { layout = refl; loans = refl }

-- layout and loans that stay in two steps stay in both
pub same_then : {a b c : Blocks} → SameLoans a b → SameLoans b c → SameLoans a c
same_then one two = record { layout = two.layout ∙ one.layout; loans = two.loans ∙ one.loans }

-- a slot that was lent, and then is free again
pub freed : (old new : Blocks) (slot : ℕ) (written : List ℕ) → new.layout ≡ old.layout → new.loans ≡ set old.loans slot (Some written)
    → loan_in old slot ≡ None → SameLoans old (with_loan new slot None)
freed old new slot written layout after free = record {
  layout = layout;
  loans = ap (λ (l : Loans). set l slot None) after ∙ (set-set old.loans slot (Some written) None
      ∙ (ap (set old.loans slot) (sym free) ∙ set-get_or old.loans slot None));
}

-- a loan of a want that was given back leaves the loans as they were before it
pub given_back : (old new after : Blocks) (want : Want) (loan : Lent) → IsLentBy old new want loan → after ≡ with_loan new loan.slot None → SameLoans old after
given_back old new after want loan t given =
    let f = freed old new loan.slot t.after.0 t.layout t.after.1 t.free in
    record { layout = ap (λ (s : Blocks). s.layout) given ∙ f.layout; loans = ap (λ (s : Blocks). s.loans) given ∙ f.loans }

-- the rack serves the store still
pub served_back : (rack : Seen) (store after : Blocks) (loan : Lent) → Serves rack store → after ≡ with_loan store loan.slot None → Serves rack after
served_back rack store after loan serves given = subst (Serves rack) (sym given) (serves_given rack store loan.slot serves)
