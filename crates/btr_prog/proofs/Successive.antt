-- Calls one after another.
use Rattle.std.proofs.Common.{◌≡◌, ◌≤◌, refl, sym, ◌∙◌, subst, arith}
use Rattle.btr_prog.specs.Calls.{Seen, Sure, First, Any, CanTell, Calls}

module _ {H : Type 0} (Agreed : H → Type 0) where
  -- what calls in a row read can be told up to any of them, and from there
  tells_first : (sure : Sure) (a b c : Seen H) → a.faults ≤ b.faults → b.faults ≤ c.faults → CanTell Agreed sure a c → CanTell Agreed sure a b
  tells_first First a b c h g e = (omega (arith, h, g, e), omega (arith, g, e))
  tells_first Any a b c h g e = e

  -- what calls in a row read can be told from any of them to the last
  tells_last : (sure : Sure) (a b c : Seen H) → b.held ≡ a.held → a.faults ≤ b.faults → b.faults ≤ c.faults → CanTell Agreed sure a c → CanTell Agreed sure b c
  tells_last First a b c same h g e = (omega (arith, h, g, e), e.1)
  tells_last Any a b c same h g e = subst Agreed (sym same) e

module _ {H : Type 0} {Agreed : H → Type 0} where
  -- no call yet
  pub calls_none : {P : Sure → H → Type 0} {a : Seen H} → ((sure : Sure) → P sure a.held) → Calls Agreed a a P
  calls_none p = record { same = refl; later = omega arith; content = λ sure s. p sure }

  -- what follows from a call's fact
  pub calls_as : {P Q : Sure → H → Type 0} {a b : Seen H} → ((sure : Sure) (h : H) → P sure h → Q sure h) → Calls Agreed a b P → Calls Agreed a b Q
  calls_as {a = a} f one = record { same = one.same; later = one.later; content = λ sure s. f sure a.held (one.content sure s) }

  -- two calls in a row: what follows from the facts of both, of the one thing that is held
  pub calls_then : {P Q R : Sure → H → Type 0} {a b c : Seen H} → ((sure : Sure) (h : H) → P sure h → Q sure h → R sure h) → Calls Agreed a b P
      → Calls Agreed b c Q → Calls Agreed a c R
  calls_then {Q = Q} {a = a} {b = b} {c = c} f one two = record {
    same = two.same ∙ one.same;
    later = omega (arith, one.later, two.later);
    content = λ sure s. f sure a.held (one.content sure (tells_first Agreed sure a b c one.later two.later s))
        (subst (Q sure) one.same (two.content sure (tells_last Agreed sure a b c one.same one.later two.later s)));
  }
