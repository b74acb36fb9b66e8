-- A slot that is taken and written, and what stands once it is given back.
use Rattle.std.proofs.Common.{◌≡◌, ℕ, true, false, List, length, get_or, set, Option, None, ap, ◌∙◌, subst}
use Rattle.std.proofs.lemmas.List.{length-set}
use Rattle.btr_pool.specs.Slots.{Slots, IsFree, loans_of, with_bytes, with_lent, with_free}
use Rattle.btr_read.specs.declared.want.Want.{Want}
use Rattle.btr_read.specs.Finding.{SameShape}
use Rattle.btr_read.specs.Writing.{OnlyWrites, StillKept}
use Rattle.btr_read.proofs.Slots.{only_writes}
use Rattle.btr_read.proofs.Loans.{loans_back}
use Rattle.btr_read.proofs.Serving.{still_more, still_same, still_forgotten, still_written, forgotten_at}

-- a slot was free, and was written once it was taken
pub record IsTaken (p0 p3 : Slots) (w0 w3 : List (Option Want)) (k : ℕ) : Type 0 where
  pub free : IsFree p0 k
  pub writes : OnlyWrites k (with_lent p0 k) p3
  pub still : StillKept w0 w3 p0 p3
  pub shape : SameShape p0 p3

-- the loans are as before, and what is known of the slots still stands
pub record IsBack (p0 p4 : Slots) (w0 w4 : List (Option Want)) : Type 0 where
  pub loans : loans_of p4 ≡ loans_of p0
  pub still : StillKept w0 w4 p0 p4
  pub shape : SameShape p0 p4

-- a slot was taken and forgotten, and then only it was written
pub taken_written : (p0 p2 p3 : Slots) (w0 w2 w3 : List (Option Want)) (k : ℕ) → IsFree p0 k → p2 ≡ with_lent p0 k → w2 ≡ set w0 k None
    → OnlyWrites k p2 p3 → StillKept w2 w3 p2 p3 → IsTaken p0 p3 w0 w3 k
taken_written p0 p2 p3 w0 w2 w3 k free lent forgotten h kept =
    let writes : OnlyWrites k (with_lent p0 k) p3 = subst (λ p. OnlyWrites k p p3) lent h in
    record {
      free = free;
      writes = writes;
      still = still_more w0 w2 w3 p0 p2 p3 (still_forgotten w0 w2 k p0 p2 forgotten (ap (λ (p : Slots). p.bytes) lent)) kept;
      shape = record { size = writes.size; count = writes.count; lent = ap length writes.lent ∙ length-set p0.lent k true };
    }

-- the same where nothing else was done
pub taken_alone : (p0 p2 p3 : Slots) (w0 w2 : List (Option Want)) (k : ℕ) → IsFree p0 k → p2 ≡ with_lent p0 k → w2 ≡ set w0 k None
    → (written : List ℕ) × (p3 ≡ with_bytes p2 k written) → IsTaken p0 p3 w0 w2 k
taken_alone p0 p2 p3 w0 w2 k free lent forgotten h = taken_written p0 p2 p3 w0 w2 w2 k free lent forgotten (only_writes p2 p3 k h)
    (still_written w2 k p2 p3 (ap (λ w. get_or w k None) forgotten ∙ forgotten_at w0 k) h)

-- the slot was given back
pub taken_back : (p0 p3 p4 : Slots) (w0 w3 : List (Option Want)) (k : ℕ) → length p0.bytes ≡ length p0.lent → IsTaken p0 p3 w0 w3 k → p4 ≡ with_free p3 k
    → IsBack p0 p4 w0 w3
taken_back p0 p3 p4 w0 w3 k whole h given = record {
  loans = ap loans_of given ∙ loans_back p0 p3 k whole h.free h.writes;
  still = still_more w0 w3 w3 p0 p3 p4 h.still (still_same w3 p3 p4 (ap (λ (p : Slots). p.bytes) given));
  shape = record {
    size = ap (λ (p : Slots). p.size) given ∙ h.shape.size;
    count = ap (λ (p : Slots). length p.bytes) given ∙ h.shape.count;
    lent = ap (λ (p : Slots). length p.lent) given ∙ length-set p3.lent k false ∙ h.shape.lent;
  };
}
