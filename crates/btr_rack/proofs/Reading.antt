-- Calls on a rack that only read, one after another.
use Rattle.std.proofs.Common.{◌≡◌, Result, Ok, Err, refl, sym, ap, ◌∙◌, arith}
use Rattle.btr_rack.specs.declared.error.RackError.{RackError}
use Rattle.btr_rack.specs.declared.error.RackError.TheVariants.{Failed, Memory}
use Rattle.btr_rack.specs.declared.place.Place.{Place}
use Rattle.btr_rack.specs.Rack.{Seen, Account, Accounts, OnlyCounts, OnlyReads, forgotten}

-- no call
pub reads_none : (a : Seen) → OnlyReads a a
reads_none a = record { same = refl; later = omega arith; same_shut = refl }

-- some calls, and others behind them
pub reads_more : {a b c : Seen} → OnlyReads a b → OnlyReads b c → OnlyReads a c
reads_more {c = c} first second = record {
  same = second.same ∙ ap (λ (s : Seen). record s { account = c.account }) first.same;
  later = omega (arith, first.later, second.later);
  same_shut = second.same_shut ∙ first.same_shut;
}

-- a call at a place
pub reads_at : {T : Type 0} (a b : Seen) (place : Place) (r : Result T RackError) → OnlyCounts a b → Accounts place a.account b.account r → OnlyReads a b
reads_at a b place (Ok x) same e = record { same = same; later = omega (arith, e.faults); same_shut = e.shut }
reads_at a b place (Err Failed) same e = record { same = same; later = e.0.faults.0; same_shut = e.2 }
reads_at a b place (Err Memory) same e = record { same = same; later = omega (arith, e.faults); same_shut = e.shut }

-- the account forgot
pub reads_forget : (a b : Seen) → b ≡ record a { account = forgotten a.account } → OnlyReads a b
reads_forget a b e = record {
  same = e ∙ ap (λ (account : Account). record a { account = account }) (sym (ap (λ (s : Seen). s.account) e));
  later = omega (arith, ap (λ (s : Seen). s.account.faults) e);
  same_shut = ap (λ (s : Seen). s.account.shut) e;
}
