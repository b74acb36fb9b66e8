-- A block with copies, and a try of one of them.
use Rattle.std.proofs.Common.{◌≡◌, ℕ, ◌<◌, ◌&&◌, true, false, List, Option, Some, None, IfSome, IsOkAnd, IsSome, IsSomeAnd, Result, Ok, sym, ap, ◌∙◌, subst}
use Rattle.btr_scrub_copies.proofs.Common.{Images, IsOfCopy, Layout, Lent, Mirror, SameLoans, Seen, Target, Want, block_of, element, false≢true, mirrors}
use Rattle.btr_scrub_copies.proofs.Common.{range_of, sought, stands}
use Rattle.btr_read.specs.Cause.{IsMissed}
use Rattle.btr_read.specs.Fate.{Fault}
use Rattle.btr_read.specs.Mirror.{HasMirror, IsTried, mirror_candidate}
use Rattle.btr_read.specs.Store.{Blocks}
use Rattle.btr_read.specs.Want.{passes}
use Rattle.btr_scrub_copies.specs.Blocks.{is_good}
use Rattle.btr_scrub_copies.specs.Mending.{IsCopied}
use Rattle.btr_scrub_copies.specs.Writes.{FailsAt}
use Rattle.btr_scrub_copies.proofs.Flags.{StandAll}

-- the copies below their number are there
pub has_mirror : (t : Target) (n m : ℕ) → mirrors t.chunk ≡ Some n → m < n → HasMirror m t
has_mirror t n m e lt = subst (λ o. IsSomeAnd o (λ copies. m < copies)) (sym e) lt

-- a want with copies has them in each layout that is the same
pub copied_same : (layout layout' : Layout) (want : Want) → layout' ≡ layout → IsCopied layout want → IsCopied layout' want
copied_same layout layout' want e c = subst (λ l. IsCopied l want) (sym e) c

-- a copy can be tried
pub can_try : (layout : Layout) (want : Want) (m : ℕ) (c : IsCopied layout want) → ((t : Target) → sought layout want ≡ Ok t → HasMirror m t)
    → IsOkAnd (sought layout want) (HasMirror m)
can_try layout want m c h = subst (λ r. IsOkAnd r (HasMirror m)) (sym c.is_sought) (h c.target c.is_sought)

-- a want has one position
pub same_target : (r : Result Target Fault) (t u : Target) → r ≡ Ok t → r ≡ Ok u → t ≡ u
same_target r t u e h = cc

-- it stands
pub copy_stands : (layout : Layout) (want : Want) (t : Target) (m : ℕ) → IsCopied layout want → sought layout want ≡ Ok t → HasMirror m t
    → IsSome (range_of t (Mirror m))
copy_stands layout want t m c e has =
    let same = same_target (sought layout want) c.target t c.is_sought e in
    subst (λ u. IsSome (range_of u (Mirror m))) same (c.stand m (subst (HasMirror m) (sym same) has))

-- so do all
pub copies_stand : (layout : Layout) (want : Want) (t : Target) (n : ℕ) → IsCopied layout want → sought layout want ≡ Ok t → mirrors t.chunk ≡ Some n
    → StandAll t n
copies_stand layout want t n c e has k lt = copy_stands layout want t k c e (has_mirror t n k has lt)

-- a candidate that reads a copy that stands isn't absent
pub not_absent : (t : Target) (m : ℕ) → IsSome (range_of t (Mirror m)) → stands t (mirror_candidate m) ≡ false → ⊥
not_absent t m some absent = false≢true (sym absent ∙ ap (λ b. b && true) some)

-- a copy that passed is good, and its bytes are lent
module _ (t : Target) (m : ℕ) (images : Images) (held : Option Images) (is : held ≡ Some images) where
  -- the bytes that a try of the copy gave are those that the images hold there
  tried_value : (bytes : List ℕ) → IsTried t (mirror_candidate m) held bytes → element images t (Mirror m) ≡ bytes
  tried_value bytes h = subst (λ o. IfSome o (λ i. element i t (Mirror m) ≡ bytes)) is h.value

  of_block : (o : Option (List ℕ)) → IsSomeAnd o (IsTried t (mirror_candidate m) held) → (is_good images t (Mirror m) ≡ true)
      × (o ≡ Some (element images t (Mirror m)))
  of_block None h = absurd h
  of_block (Some bytes) h = (ap (passes t.setting t.want) (tried_value bytes h) ∙ h.pass, ap Some (sym (tried_value bytes h)))

  -- where a try passed, the copy is good, and its loan has its bytes
  pub passed_good : (store : Blocks) (loan : Lent) → IsSomeAnd (block_of store loan) (IsTried t (mirror_candidate m) held)
      → (is_good images t (Mirror m) ≡ true) × (block_of store loan ≡ Some (element images t (Mirror m)))
  passed_good store loan h = of_block (block_of store loan) h

  -- one that didn't isn't
  pub differs_bad : IfSome held (λ i. passes t.setting t.want (element i t (Mirror m)) ≡ false) → is_good images t (Mirror m) ≡ false
  differs_bad h = subst (λ o. IfSome o (λ i. passes t.setting t.want (element i t (Mirror m)) ≡ false)) is h

-- one that couldn't be read
pub missed_fails : (t : Target) (m slot : ℕ) (a b : Seen) → HasMirror m t → IsMissed t (mirror_candidate m) slot a b → FailsAt (IsOfCopy t) slot a b
missed_fails t m slot a b has h = record { place = h.0; failed = h.1; on_slot = h.2; lies = record { mirror = m; has = has; lies = h.3 } }

-- calls that left the loans one after another leave them together
pub same_loans_then : (a b c : Blocks) → SameLoans a b → SameLoans b c → SameLoans a c
same_loans_then a b c one two = record { layout = two.layout ∙ one.layout; loans = two.loans ∙ one.loans }
