-- Accounts of calls one after another.
use Rattle.std.proofs.Common.{◌≡◌, ◌∷◌, [], ◌++◌, refl, ap, sym, ◌∙◌, arith}
use Rattle.btr_rack.specs.Rack.{Account, Seen, NoneFailed, next_count}
use Rattle.btr_rack.specs.declared.place.Place.{Place as Range}
use Rattle.btr_read.specs.Cause.{ReadFailed}

-- no call failed, and then none
pub none_failed : (a : Account) → NoneFailed a a
none_failed a = record { faults = refl; fresh = refl; missed = refl; last = refl; opening = refl; shut = refl }

-- where no call failed and then again none, none failed in all
pub none_more : (a b c : Account) → NoneFailed a b → NoneFailed b c → NoneFailed a c
none_more a b c h g = record {
  faults = g.faults ∙ h.faults;
  fresh = g.fresh ∙ h.fresh;
  missed = g.missed ∙ h.missed;
  last = g.last ∙ h.last;
  opening = g.opening ∙ h.opening;
  shut = g.shut ∙ h.shut;
}

-- no call failed, and then one read
pub one_after : (m : Range) (a b c : Seen) → b.sure ≡ a.sure → NoneFailed a.account b.account → ReadFailed m b c → ReadFailed m a c
one_after m a b c sure h g = record {
  one = record {
    faults = (omega (arith, h.faults, g.one.faults.0), omega (arith, h.faults, g.one.faults.1));
    fresh = g.one.fresh ∙ ap next_count h.fresh;
    missed = g.one.missed ∙ ap (λ ms. ms ++ m ∷ []) h.missed;
    last = g.one.last;
  };
  read = g.read;
  shut = g.shut ∙ h.shut;
  unsure = sym sure ∙ g.unsure;
}
