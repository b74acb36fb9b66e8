-- Sets of numbers that grow.
use Rattle.std.proofs.Common.{◌≡◌, ℕ, ◌+◌, ◌<◌, Bool, true, false, ◌||◌, cond, List, length, take, get_or, eqb, refl, sym, ap, ◌∙◌}
use Rattle.std.proofs.lemmas.List.Folds.{list_any_more}
use Rattle.std.specs.BTreeMap.{is_at}
use Rattle.std.specs.BTreeSet.{BTreeSet, contains}
use Rattle.std.specs.List.{list_any}
use Rattle.std.specs.Ordering.{is_eq, nat_cmp}
use Rattle.btr_check_sums.specs.Ranks.{Inodes}
use Rattle.btr_findings.proofs.SectorRuns.{tied_number}

or_turns : (a b : Bool) → cond a true b ≡ (b || a)
or_turns true true = refl
or_turns true false = refl
or_turns false true = refl
or_turns false false = refl

-- one inode more
pub inodes_more : (loose : List ℕ) (i : ℕ) (old new : BTreeSet ℕ) → i < length loose
    → ((one : ℕ) → contains nat_cmp new one ≡ cond (is_at (nat_cmp (get_or loose i 0)) one) true (contains nat_cmp old one))
    → Inodes (take i loose) old → Inodes (take (i + 1) loose) new
inodes_more loose i old new below more before one =
    more one
    ∙ or_turns (is_eq (nat_cmp (get_or loose i 0) one)) (contains nat_cmp old one)
    ∙ ap (λ b. b || is_eq (nat_cmp (get_or loose i 0) one)) (before one)
    ∙ ap (λ b. list_any (λ inode. eqb inode one) (take i loose) || b) (tied_number (get_or loose i 0) one)
    ∙ sym (list_any_more (λ inode. eqb inode one) loose i 0 below)
