-- The first block of a list that has no position, or isn't behind the one before it.
use Rattle.std.proofs.Common.{ℕ, ◌+◌, List, [], ◌∷◌, inl, inr, arith, ◌++◌, subst}
use Rattle.btr_scrub.proofs.Common.{AreApart, AreUpTo, Crosses, IsFirstRefused, Layout, TreeFault, Want, addr_of, len_of, sought}
use Rattle.btr_read.specs.Fate.{Unmapped}
use Rattle.btr_walk.specs.declared.fault.TreeFault.TheVariants as tree
use Rattle.btr_scrub.specs.Judging.{BeginsFrom, IsRefused}
use Rattle.btr_scrub.proofs.Placing.{not_ok}

module _ (layout : Layout) where
  -- a refused block isn't behind the one before it
  not_behind : (from : ℕ) (want : Want) (fault : TreeFault) → IsRefused layout from want fault → BeginsFrom layout from want → ⊥
  not_behind from want (tree.Lost a) r b = r
  not_behind from want (tree.Unread a slot) r b = r
  not_behind from want (tree.Unmapped a) r b = not_ok (sought layout want) (Unmapped a) r b.1
  not_behind from want (tree.Crosses a) r b = not_ok (sought layout want) (Crosses a) r b.1
  not_behind from want (tree.Malformed a) r b = omega (arith, r.2, b.0)

  -- blocks of which one is refused aren't apart
  pub not_apart : (end : ℕ) (wants : List Want) (fault : TreeFault) → IsFirstRefused layout end wants fault → AreApart layout end wants → ⊥
  not_apart end [] fault r apart = r
  not_apart end (want ∷ wants) fault (inl here) apart = not_behind end want fault here (apart.0, apart.1)
  not_apart end (want ∷ wants) fault (inr later) apart = not_apart (addr_of want + len_of layout.setting want) wants fault later.1 apart.2

  -- one block is refused, behind one that ends somewhere
  pub refused_one : (end : ℕ) (wants : List Want) (fault : TreeFault) → IsFirstRefused layout end wants fault
      → (from : ℕ) × ((want : Want) × IsRefused layout from want fault)
  refused_one end [] fault r = absurd r
  refused_one end (want ∷ wants) fault (inl here) = (end, (want, here))
  refused_one end (want ∷ wants) fault (inr later) = refused_one (addr_of want + len_of layout.setting want) wants fault later.1

  -- blocks one behind another, and others behind them
  pub upto_more : (a b c : ℕ) (xs ys : List Want) → AreUpTo layout a b xs → AreUpTo layout b c ys → AreUpTo layout a c (xs ++ ys)
  upto_more a b c [] ys h g = subst (λ n. AreUpTo layout n c ys) h g
  upto_more a b c (x ∷ xs) ys h g = (h.0, h.1, upto_more (addr_of x + len_of layout.setting x) b c xs ys h.2 g)

  -- a block that is refused is so behind others
  pub refused_behind : (a b : ℕ) (xs ys : List Want) (f : TreeFault) → AreUpTo layout a b xs → IsFirstRefused layout b ys f → IsFirstRefused layout a
      (xs ++ ys) f
  refused_behind a b [] ys f h r = subst (λ n. IsFirstRefused layout n ys f) h r
  refused_behind a b (x ∷ xs) ys f h r = inr ((h.0, h.1), refused_behind (addr_of x + len_of layout.setting x) b xs ys f h.2 r)
